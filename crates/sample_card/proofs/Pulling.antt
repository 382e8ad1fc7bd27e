-- What the definitions compute of the card once it is open: table answers, and the walks of eight pulls.
use mathlib.Core.Path.{◌≡◌, refl}
use mathlib.Core.List.{[], ◌∷◌}
use lib.ListN.{drop}
use Rattle.field.specs.Number.{le16, le32, le64}
use Rattle.field.specs.Map.{top_bit, low_bit}
use Rattle.field.specs.Bytes.{same_at}
use Rattle.name_hash.specs.Hash.{half_round, round, rounds, tea, push_all, key_of, absorb, hash_of}
use Rattle.place.specs.Place.{place_of}
use Rattle.nat.specs.Table.{Entry, in_range, table_address, entry_in, in_table, table_answer}
use Rattle.journal.specs.Journal.{search_from, journal_find}
use Rattle.nat.specs.Entry.{in_journal}
use Rattle.inode.specs.Inode.{inode_of, has_inline_data, has_inline_dentry, has_extra_attr, inline_start, data_room, is_directory, is_regular}
use Rattle.inode.specs.Inode.{addresses_in, is_past, count_in}
use Rattle.list.specs.Lists.{bytes_of, insert}
use Rattle.walk.specs.Walk.{ran, run, bind, ok, stop, onward, and_then}
use Rattle.node.specs.Node.{in_main, belongs, at_block, at_entry, node_walk}
use Rattle.node.specs.Block.{hole, held, is_hole, data_walk, way_walk, block_walk}
use Rattle.hash_level.specs.Level.{first_of, bucket_of}
use Rattle.dentry.specs.Slot.{well_formed, matches, slot_at, slots_from}
use Rattle.directory.specs.Find.{fetch_from, after_block, bucket_walk, levels_walk, find_walk}
use Rattle.path.specs.Path.{parts_of}
use Rattle.path_lookup.specs.Lookup.{at_directory, directory_walk, names_walk}
use Rattle.pull.specs.Walk.{content_walk, at_file, file_walk, named_file_walk, pull_walk}
use Rattle.pull.specs.Pull.{pull_run}
use Rattle.sample_card.specs.Image.{filled, name, missing, inline_name, inner_path, through_file, through_missing}
use Rattle.sample_card.specs.Image.{pack, journal, nat_block, root_inode, file_inode, inline_inode}
use Rattle.sample_card.specs.Image.{dentry_block, folder_inode, inner_inode, inner_block, data_block, runs, block_in, card}
use Rattle.sample_card.specs.Volume.{volume}

-- the root's from the journal, that of "brake.log" from the table
pub table_entries : (table_answer card volume 3 ≡ Entry 3 4193792) × (table_answer card volume 4 ≡ Entry 4 4193794)
unfolding runs block_in pack journal nat_block filled bytes_of le16 le32 top_bit search_from journal_find in_journal in_range table_address entry_in in_table
    table_answer
table_entries = (refl, refl)

-- block 1 of "brake.log"; its block 0, a hole; block 2, past its end; a name that isn't there; block 0 of the inline file. Of two
-- names: block 0 of the folder's file; through a file; through a name that isn't there
pub walks :
    (pull_run card volume name 1
    ≡ ran (ok (record { count = 7; content = held data_block })) (record { nodes = 3 ∷ 4 ∷ []; blocks = 4193792 ∷ 4193793 ∷ 4193794 ∷ 4194303 ∷ [] }))
    × (pull_run card volume name 0
    ≡ ran (ok (record { count = 4096; content = hole })) (record { nodes = 3 ∷ 4 ∷ []; blocks = 4193792 ∷ 4193793 ∷ 4193794 ∷ [] }))
    × (pull_run card volume name 2 ≡ ran (stop 3) (record { nodes = 3 ∷ 4 ∷ []; blocks = 4193792 ∷ 4193793 ∷ 4193794 ∷ [] }))
    × (pull_run card volume missing 0 ≡ ran (stop 2) (record { nodes = 3 ∷ []; blocks = 4193792 ∷ 4193793 ∷ [] }))
    × (pull_run card volume inline_name 0
    ≡ ran (ok (record { count = 9; content = held (drop inline_start inline_inode) }))
    (record { nodes = 3 ∷ 5 ∷ []; blocks = 4193792 ∷ 4193793 ∷ 4193796 ∷ [] }))
    × (pull_run card volume inner_path 0
    ≡ ran (ok (record { count = 4; content = held inner_block }))
    (record { nodes = 3 ∷ 6 ∷ 7 ∷ []; blocks = 4193792 ∷ 4193793 ∷ 4193797 ∷ 4193798 ∷ 4193799 ∷ [] }))
    × (pull_run card volume through_file 0 ≡ ran (stop 12) (record { nodes = 3 ∷ 4 ∷ []; blocks = 4193792 ∷ 4193793 ∷ 4193794 ∷ [] }))
    × (pull_run card volume through_missing 0 ≡ ran (stop 2) (record { nodes = 3 ∷ []; blocks = 4193792 ∷ [] }))
unfolding
    runs block_in pack journal nat_block root_inode file_inode inline_inode dentry_block folder_inode inner_inode filled bytes_of
    le16 le32 le64 top_bit low_bit same_at
    half_round round rounds tea push_all key_of absorb hash_of
    place_of search_from journal_find in_journal in_range table_address entry_in in_table table_answer
    inode_of has_inline_data has_inline_dentry has_extra_attr data_room is_directory is_regular addresses_in is_past count_in
    insert run bind onward and_then
    in_main belongs at_block at_entry node_walk is_hole data_walk way_walk block_walk
    first_of bucket_of well_formed matches slot_at slots_from
    fetch_from after_block bucket_walk levels_walk find_walk
    content_walk at_file file_walk parts_of at_directory directory_walk names_walk named_file_walk pull_walk pull_run
walks = (refl, refl, refl, refl, refl, refl, refl, refl)
