-- Some card opens, and pulls on it answer 0, by a data block, by an inline file's inode and in a folder: the definitions don't refuse
-- everything. The card is as large as one may be, and what a pull reads of its main area lies behind byte 2^32. Each theorem is stated of
-- the image's bytes, over the definitions that the contracts cite; all numbers are computed by them, the checksum and the names' hashes too.
use Prim.Native.Nat.{ℕ, ◌*◌, ◌/◌, ◌≤◌, ◌<◌}
use native.Mathlib.Omega.{arith}
use mathlib.Core.Path.{◌≡◌, refl, sym, ap, ◌∙◌}
use mathlib.Core.Bool.{true}
use mathlib.Core.List.{List, [], ◌∷◌, ◌++◌}
use lib.ListN.{length, drop, replicate}
use Rattle.field.specs.Card.{Card, card_of}
use Rattle.superblock.specs.Shape.{most_blocks}
use Rattle.checkpoint.specs.Volume.{Opened, opened, opened_image}
use Rattle.name_hash.specs.Name.{name_bytes}
use Rattle.nat.specs.Lookup.{table_numbers, lookup_of}
use Rattle.list.specs.Lists.{bytes_of, insert, union, over}
use Rattle.sit.specs.Opening.{opened_with_sit}
use Rattle.sit.proofs.Openings.{journal_opens}
use Rattle.segment_report.specs.Report.{reported, off_on, report_of, segment_report}
use Rattle.segment_report.proofs.Ends.{made}
use Rattle.path.specs.Path.{parts_of, part_count, are_names, is_path}
use Rattle.walk.specs.Walk.{Ran, ran, Outcome}
use Rattle.node.specs.Block.{hole, held}
use Rattle.pull.specs.Walk.{Block}
use Rattle.pull.specs.Pull.{Lent, lending, Result, result_in, lent_in_shape, written, pull_run, pulled}
use Rattle.pull.proofs.Results.{call_in_shape_lem, call_opens}
use Rattle.file_run.specs.Standing.{Standing, standing, bytes_standing}
use Rattle.pull_run.specs.Run.{pulls_from, run_in_shape, run_pulls, run_result, run_written, run_pulled}
use Rattle.pull_run.proofs.Results.{run_call_shape, run_opens}
use Rattle.checkpoint.proofs.Inside.{image_volume}
use Rattle.keep_file.specs.Layout.{file_end}
use Rattle.keep.specs.Writing.{file_from, writing, refused_keep, file_written, keep_written}
use Rattle.keep.proofs.Calls as keep
use Rattle.keep.proofs.Found.{room_fits, room_short}
use Rattle.keep.proofs.Kept.{keep_length}
use Rattle.sample_card.specs.Image.{filled, name, missing, content, inline_name, inline_content, inline_inode, data_block}
use Rattle.sample_card.specs.Image.{inner_path, through_file, through_missing, inner_content, inner_block, image, card}
use Rattle.sample_card.specs.Volume.{volume}
use Rattle.sample_card.proofs.Joined.{image_length, image_shape, image_card}
use Rattle.sample_card.proofs.Opening.{card_opens}
use Rattle.sample_card.proofs.Pulling.{table_entries, walks}
use Rattle.sample_card.proofs.Reporting.{sit_journal_readable_lem, segments}

-- as large as an image may be
pub the_largest : length image ≡ most_blocks * 4096
the_largest = image_length

pub some_card_opens : opened_image image ≡ Opened volume
unfolding opened_image
some_card_opens = rw image_shape (ap opened image_card ∙ card_opens)

-- ---- Node lookup: a number that the journal has, and one that only the table has
pub a_lookup_answers_0 : (lookup_of image 3 ≡ record { answer = 0; inode = 3; address = 4193792 })
    × (lookup_of image 4 ≡ record { answer = 0; inode = 4; address = 4193794 })
unfolding lookup_of
a_lookup_answers_0 = rw (some_card_opens, image_card) (ap table_numbers table_entries.0, ap table_numbers table_entries.1)

-- ---- Pull

-- a pull's whole result: the answer, the byte count, what the block buffer holds then, and the two lists, written into the lent memory
abbrev pub leaves : ℕ → ℕ → List ℕ → List ℕ → List ℕ → Lent → Result
leaves answer count block nodes blocks lent =
    result_in (record { answer = answer; byte_count = count; node_count = length nodes; block_count = length blocks })
    (lending block (over nodes lent.nodes) (over blocks lent.blocks))

-- there is memory in shape to lend: for one name, and for eight
pub some_memory_fits : (lent_in_shape 1 (lending (replicate 4096 0) (replicate 716 0) (replicate 952 0)) ≡ true)
    × (lent_in_shape 8 (lending (replicate 4096 0) (replicate 5616 0) (replicate 7476 0)) ≡ true)
unfolding lent_in_shape
some_memory_fits = (refl, refl)

walk_leaves : (lent : Lent) (path : List ℕ) (index : ℕ) (r : Ran (Outcome Block)) → lent_in_shape (part_count path) lent ≡ true → is_path path ≡ true
    → pull_run card volume path index ≡ r → pulled image path index lent ≡ written r lent
walk_leaves lent path index r fits p e =
    call_opens image path index lent (Opened volume) (call_in_shape_lem image path index lent image_shape p fits) some_card_opens
    ∙ ap (λ (c : Card). written (pull_run c volume path index) lent) image_card ∙ ap (λ (q : Ran (Outcome Block)). written q lent) e

-- paths of one name
module _ (lent : Lent) (fits : lent_in_shape 1 lent ≡ true) where
  -- 0, "data": the seven bytes of block 1 of "brake.log", and zeros; nodes 3 and 4 were looked up, and four blocks of the main area read
  pub a_pull_answers_0 : pulled image name 1 lent ≡ leaves 0 7 (content ++ replicate 4089 0) (3 ∷ 4 ∷ []) (4193792 ∷ 4193793 ∷ 4193794 ∷ 4194303 ∷ []) lent
  unfolding parts_of part_count are_names is_path name_bytes data_block filled
  a_pull_answers_0 = walk_leaves lent name 1 _ fits refl walks.0

  -- K4, 0 of an inline file: its nine bytes from its inode, and zeros; the inode "is listed with its block and no data block of its own"
  pub an_inline_file_answers_0 : pulled image inline_name 0 lent
      ≡ leaves 0 9 (inline_content ++ replicate 4087 0) (3 ∷ 5 ∷ []) (4193792 ∷ 4193793 ∷ 4193796 ∷ []) lent
  unfolding parts_of part_count are_names is_path name_bytes inline_inode filled bytes_of
  an_inline_file_answers_0 = walk_leaves lent inline_name 0 _ fits refl walks.4

  -- 1, "hole"
  pub a_hole_answers_1 : pulled image name 0 lent ≡ leaves 1 4096 (replicate 4096 0) (3 ∷ 4 ∷ []) (4193792 ∷ 4193793 ∷ 4193794 ∷ []) lent
  unfolding parts_of part_count are_names is_path name_bytes
  a_hole_answers_1 = walk_leaves lent name 0 _ fits refl walks.1

  -- 2, "no such name"
  pub no_such_name_answers_2 : pulled image missing 0 lent ≡ leaves 2 0 lent.block (3 ∷ []) (4193792 ∷ 4193793 ∷ []) lent
  unfolding parts_of part_count are_names is_path name_bytes
  no_such_name_answers_2 = walk_leaves lent missing 0 _ fits refl walks.3

  -- 3, "past the end"
  pub past_the_end_answers_3 : pulled image name 2 lent ≡ leaves 3 0 lent.block (3 ∷ 4 ∷ []) (4193792 ∷ 4193793 ∷ 4193794 ∷ []) lent
  unfolding parts_of part_count are_names is_path name_bytes
  past_the_end_answers_3 = walk_leaves lent name 2 _ fits refl walks.2

-- K7, paths of two names
module _ (lent : Lent) (fits : lent_in_shape 2 lent ≡ true) where
  -- 0: the four bytes of "roads/wet.bin", and zeros; nodes 3, 6 and 7 were looked up, those of root, folder and file, and five blocks read
  pub a_path_answers_0 : pulled image inner_path 0 lent
      ≡ leaves 0 4 (inner_content ++ replicate 4092 0) (3 ∷ 6 ∷ 7 ∷ []) (4193792 ∷ 4193793 ∷ 4193797 ∷ 4193798 ∷ 4193799 ∷ []) lent
  unfolding parts_of part_count are_names is_path name_bytes inner_block filled
  a_path_answers_0 = walk_leaves lent inner_path 0 _ fits refl walks.5

  -- "brake.log/x": "Each name but the last must be a directory, else 12". The file's node was looked up, and its block read
  pub through_a_file_answers_12 : pulled image through_file 0 lent
      ≡ leaves 12 0 lent.block (3 ∷ 4 ∷ []) (4193792 ∷ 4193793 ∷ 4193794 ∷ []) lent
  unfolding parts_of part_count are_names is_path name_bytes
  through_a_file_answers_12 = walk_leaves lent through_file 0 _ fits refl walks.6

  -- "gone/wet.bin": 2, "no such name", of its first name, so no further node is looked up. The blocks of its bucket are holes
  pub through_a_missing_name_answers_2 : pulled image through_missing 0 lent ≡ leaves 2 0 lent.block (3 ∷ []) (4193792 ∷ []) lent
  unfolding parts_of part_count are_names is_path name_bytes
  through_a_missing_name_answers_2 = walk_leaves lent through_missing 0 _ fits refl walks.7

-- ---- Segment report: the card has one main segment, so a list of one number has room; its count isn't off, and nine of its blocks
-- are valid
opens_with_sit : opened_with_sit image ≡ Opened volume
opens_with_sit = journal_opens image volume some_card_opens (rw image_card sit_journal_readable_lem)

pub a_report_answers_0 : (list : List ℕ) → 1 ≤ length list / 4
    → segment_report image list ≡ reported (record { answer = 0; count = 0; valid_blocks = 9 }) list
unfolding report_of off_on over bytes_of
a_report_answers_0 list h = made image list volume opens_with_sit h ∙ rw (image_card, segments.0, segments.1)

-- ---- K6, the writer: of block 1 of "brake.log", with 9 bytes of path, two nodes and four blocks, the file has 20,581 bytes
file_length_lem : length (file_from (card_of image) volume name 1) ≡ 20581
unfolding name_bytes
file_length_lem =
    keep_length image volume name 1 (image_volume image volume some_card_opens)
    ∙ ap (λ (c : Card). let seen = (pull_run c volume name 1).seen in file_end 9 (length seen.nodes) (length seen.blocks)) image_card
    ∙ ap (λ (r : Ran (Outcome Block)). file_end 9 (length r.seen.nodes) (length r.seen.blocks)) walks.0

writer_opens : (room : List ℕ) → keep_written image name 1 room ≡ file_written (file_from (card_of image) volume name 1) room
unfolding parts_of part_count are_names is_path name_bytes
writer_opens room = keep.call_opens image name 1 room (Opened volume) (rw image_shape refl) some_card_opens

-- 0, the file, and later bytes as they were, if it fits
pub a_keep_answers_0 : (room : List ℕ) → 20581 ≤ length room
    → keep_written image name 1 room ≡ writing (record { answer = 0; length = 20581 }) (file_from card volume name 1 ++ drop 20581 room)
a_keep_answers_0 room h =
    let file : List ℕ = file_from (card_of image) volume name 1 in
    writer_opens room ∙ room_fits file room (omega (arith, file_length_lem))
    ∙ ap (λ (n : ℕ). writing (record { answer = 0; length = n }) (file ++ drop n room)) file_length_lem
    ∙ ap (λ (c : Card). writing (record { answer = 0; length = 20581 }) (file_from c volume name 1 ++ drop 20581 room)) image_card

-- 17, and nothing written, if it doesn't
pub a_short_room_answers_17 : (room : List ℕ) → length room < 20581 → keep_written image name 1 room ≡ refused_keep 17 room
a_short_room_answers_17 room h =
    writer_opens room ∙ sym (room_short (file_from (card_of image) volume name 1) room file_length_lem h)

-- ---- K14, runs: of "brake.log" from block 0 on, a hole and seven bytes stand, and then its end is passed
stands_then_3 : run_pulls card volume name 0 3
    ≡ ran (standing 3 (record { count = 4096; content = hole } ∷ record { count = 7; content = held data_block } ∷ []))
    (record { nodes = 3 ∷ 4 ∷ []; blocks = 4193792 ∷ 4193793 ∷ 4193794 ∷ 4194303 ∷ [] })
unfolding pulls_from union insert
stands_then_3 = rw (walks.1, walks.0, walks.2) refl

-- 3, with two blocks and the last one's byte count; the hole is zeros, and the third block's bytes in the buffer stay
pub a_run_answers_3 : (lent : Lent) → run_in_shape 1 3 lent ≡ true
    → run_pulled image name 0 3 lent
    ≡ run_result (record { answer = 3; count = 2; byte_count = 7; node_count = 2; block_count = 4 })
    (lending (replicate 4096 0 ++ ((content ++ replicate 4089 0) ++ []) ++ drop 8192 lent.block) (over (3 ∷ 4 ∷ []) lent.nodes)
    (over (4193792 ∷ 4193793 ∷ 4193794 ∷ 4194303 ∷ []) lent.blocks))
unfolding parts_of part_count are_names is_path name_bytes data_block filled bytes_standing
a_run_answers_3 lent fits =
    run_opens image name 0 3 lent (Opened volume) (run_call_shape image name 0 3 lent image_shape refl fits) some_card_opens
    ∙ ap (λ (c : Card). run_written (run_pulls c volume name 0 3) lent) image_card
    ∙ ap (λ (r : Ran Standing). run_written r lent) stands_then_3
