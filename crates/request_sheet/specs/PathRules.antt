-- K7's rules, by number: what the definitions compute on both sides of each boundary, and what the request's sentence says. 1 is yes,
-- 0 no. What isn't written out of a block is zeros.
use Rattle.std.specs.Prelude.{refl, List, [], ◌∷◌, ◌++◌, ℕ, zero, suc, ◌+◌, ◌-◌, length, replicate, ltb}
use mathlib.Core.List as List
use Rattle.field.specs.Choice.{choose}
use Rattle.field.specs.Number.{le16, le32, le64}
use Rattle.field.specs.Map.{low_bit}
use Rattle.field.specs.Bytes.{same_at}
use Rattle.list.specs.Lists.{bytes_of, insert}
use Rattle.nat.specs.Table.{Entry}
use Rattle.walk.specs.Walk.{run, bind, onward, and_then}
use Rattle.inode.specs.Inode.{inode_of, has_inline_data, has_inline_dentry, has_extra_attr, data_room, is_directory, is_regular}
use Rattle.inode.specs.Inode.{addresses_in, is_past, count_in}
use Rattle.place.specs.Place.{place_of}
use Rattle.node.specs.Node.{in_main, belongs, at_block, at_entry, node_walk}
use Rattle.node.specs.Block.{is_hole, data_walk, way_walk, block_walk}
use Rattle.dentry.specs.Slot.{well_formed, matches, slot_at, slots_from}
use Rattle.name_hash.specs.Name.{name_bytes}
use Rattle.name_hash.specs.Hash.{hash_of}
use Rattle.directory.specs.Find.{find_walk}
use Rattle.path.specs.Path.{slash, parts_of, part_count, are_names, is_path, name_count}
use Rattle.path_lookup.specs.Lookup.{at_directory, directory_walk, names_walk}
use Rattle.pull.specs.Walk.{Block, content_walk, at_file, file_walk, named_file_walk, pull_walk}
use Rattle.pull.specs.Pull.{nodes_most, blocks_most, lent_in_shape, content_answer}
use Rattle.bench_sheet.specs.Line.{Line, ◌is◌, Holds}
use Rattle.bench_sheet.specs.WalkRules.{main, lists, footed, inode_block, lent}
use Rattle.request_sheet.specs.InlineRules.{dot_block}

-- a name, and n more of it, parted by single slashes
abbrev again : ℕ → List ℕ → List ℕ
again zero name = name
again (suc n) name = name ++ slash ∷ again n name

abbrev dot : List ℕ
dot = 46 ∷ []

-- Inode 3 is the root, and node n is in block 4093 + n. Inodes below `file` are inline directories, in each of which "." leads to the next
-- inode; `file` is a regular file of 4,097 bytes, all holes. The answer of a pull of its block 0, and what is listed then.
abbrev block_for : ℕ → ℕ → List ℕ
block_for file ino = choose (ltb ino file) (dot_block ino (ino + 1) 4 1 0 0) (footed (inode_block 0x8000 0 4097 0 0) ino ino 0)

abbrev pulls : ℕ → List ℕ → List ℕ
pulls file path =
    lists (λ (b : Block). content_answer b.content) (λ n. Entry n (4093 + n)) (λ b. block_for file (b - 4093)) (pull_walk main path 0)

abbrev path_rules : List Line
path_rules =
    -- "one to eight names parted by single slashes; an empty part or a ninth is 4"
    (List.map (λ n. name_count (again n dot)) (0 ∷ 1 ∷ 6 ∷ 7 ∷ 8 ∷ []) is (1 ∷ 2 ∷ 7 ∷ 8 ∷ 0 ∷ []))
    ∷ (List.map name_count ([] ∷ (47 ∷ []) ∷ (47 ∷ 97 ∷ []) ∷ (97 ∷ 47 ∷ []) ∷ []) is (0 ∷ 0 ∷ 0 ∷ 0 ∷ []))
    ∷ (List.map name_count ((97 ∷ 47 ∷ 47 ∷ 97 ∷ []) ∷ (97 ∷ 47 ∷ 97 ∷ []) ∷ []) is (0 ∷ 2 ∷ []))
    ∷ (List.map length (parts_of (97 ∷ 98 ∷ 47 ∷ 47 ∷ 99 ∷ 47 ∷ [])) is (2 ∷ 0 ∷ 1 ∷ 0 ∷ []))
    -- a part is a name of 1 to 255 bytes, none of them 0
    ∷ (List.map (λ n. name_count (again 1 (replicate n 97))) (1 ∷ 255 ∷ 256 ∷ []) is (2 ∷ 2 ∷ 0 ∷ []))
    ∷ ((name_count (97 ∷ 47 ∷ 0 ∷ []) ∷ name_count (0 ∷ 47 ∷ 97 ∷ []) ∷ name_count (97 ∷ 47 ∷ 1 ∷ []) ∷ []) is (0 ∷ 0 ∷ 2 ∷ []))
    -- "With k names at most 175k + 4 node numbers and 233k + 5 blocks are listed, and the lists lent must have that room"
    ∷ (List.map nodes_most (1 ∷ 2 ∷ 3 ∷ 8 ∷ []) is (179 ∷ 354 ∷ 529 ∷ 1404 ∷ []))
    ∷ (List.map blocks_most (1 ∷ 2 ∷ 3 ∷ 8 ∷ []) is (238 ∷ 471 ∷ 704 ∷ 1869 ∷ []))
    ∷ ((lent 2 4096 1416 1884 ∷ lent 2 4096 1415 1884 ∷ lent 2 4096 1416 1883 ∷ []) is (1 ∷ 0 ∷ 0 ∷ []))
    -- one name, and two, each sought in the directory that the one before it led to
    ∷ (pulls 4 dot is (1 ∷ 3 ∷ 4 ∷ 4096 ∷ 4097 ∷ []))
    ∷ (pulls 5 (again 1 dot) is (1 ∷ 3 ∷ 4 ∷ 5 ∷ 4096 ∷ 4097 ∷ 4098 ∷ []))
    -- "Each name but the last must be a directory, else 12", and the last a regular file
    ∷ (pulls 4 (again 1 dot) is (12 ∷ 3 ∷ 4 ∷ 4096 ∷ 4097 ∷ []))
    ∷ (pulls 6 (again 1 dot) is (12 ∷ 3 ∷ 4 ∷ 5 ∷ 4096 ∷ 4097 ∷ 4098 ∷ []))
    -- 2 is "no such name", of a name on the way too: here ".."
    ∷ (pulls 5 (46 ∷ 46 ∷ 47 ∷ 46 ∷ []) is (2 ∷ 3 ∷ 4096 ∷ []))
    ∷ (pulls 5 (46 ∷ 47 ∷ 46 ∷ 46 ∷ []) is (2 ∷ 3 ∷ 4 ∷ 4096 ∷ 4097 ∷ []))
    ∷ []

pub path_rules_lem : Holds path_rules
unfolding le16 le32 le64 bytes_of low_bit same_at insert run bind onward and_then place_of in_main belongs at_block at_entry node_walk is_hole data_walk
    way_walk
    block_walk inode_of has_inline_data has_inline_dentry has_extra_attr data_room is_directory is_regular addresses_in is_past count_in
    well_formed matches slot_at slots_from find_walk name_bytes hash_of parts_of part_count are_names is_path name_count
    at_directory directory_walk names_walk content_walk at_file file_walk named_file_walk pull_walk lent_in_shape
path_rules_lem = refl
