-- What code knows of a file whose offsets and length are as its first three numbers give, and of what it holds.
use Prim.Native.Nat.{ℕ, ◌+◌, ◌*◌, ◌≤◌, ◌<◌}
use native.Mathlib.Omega.{arith}
use mathlib.Core.Path.{◌≡◌, sym}
use mathlib.Core.Bool.{true, false}
use mathlib.Core.Logic.{⊎_elim}
use mathlib.Core.List.{List}
use lib.ListN.{length, drop, length-drop}
use lib.Seq.{length-take-le}
use Rattle.field.proofs.Choosing.{either}
use Rattle.field.specs.Number.{le32}
use Rattle.list.specs.Lists.{column}
use Rattle.keep_file.specs.Keep.{numbers_of}
use Rattle.keep_file.specs.Layout.{path_start, nodes_start, blocks_start}
use Rattle.keep_file.specs.Reading.{answer_at, bytes_at, path_length_in, node_count_in, block_count_in, keep_in, measured}
use Rattle.keep_file.specs.Readable.{Measured}
use Rattle.keep_file.proofs.Places.{length_kept, numbers_kept}
use Rattle.keep_file.proofs.Refusing.{test_measured}

module _ (file : List ℕ) where
  -- the lists, in every file
  pub nodes_length : length (keep_in file).nodes ≡ node_count_in file
  unfolding keep_in
  nodes_length = length_kept 16 answer_at file (nodes_start (path_length_in file)) (node_count_in file)

  pub blocks_length : length (keep_in file).blocks ≡ block_count_in file
  unfolding keep_in
  blocks_length = length_kept 4100 bytes_at file (blocks_start (path_length_in file) (node_count_in file)) (block_count_in file)

  pub node_numbers : numbers_of (keep_in file).nodes ≡ column 16 file (nodes_start (path_length_in file)) (node_count_in file)
  unfolding keep_in
  node_numbers = numbers_kept 16 answer_at file (nodes_start (path_length_in file)) (node_count_in file)

  pub block_numbers : numbers_of (keep_in file).blocks ≡ column 4100 file (blocks_start (path_length_in file) (node_count_in file)) (block_count_in file)
  unfolding keep_in
  block_numbers = numbers_kept 4100 bytes_at file (blocks_start (path_length_in file) (node_count_in file)) (block_count_in file)

  module _ (m : Measured file) where
    -- the file
    pub file_long : 4140 ≤ length file
    file_long = let s = m.file_length in omega arith

    -- what it holds
    pub path_length_lem : length (keep_in file).path ≡ path_length_in file
    unfolding keep_in
    path_length_lem =
        let s = m.file_length in
        length-take-le (path_length_in file) (drop path_start file) (rw (length-drop path_start file) (omega arith))

  -- a file that is shorter than the header is none: its length isn't what its first three numbers give, whatever stands for them
  pub short : length file < 24 → false ≡ measured file
  short h = ⊎_elim (λ m. let long = file_long (test_measured file m) in absurd (omega arith)) (λ m. sym m) (either (measured file))

-- ---- what the code reads of a file that passed the first test lies inside it
module _ (file : List ℕ) (h : measured file ≡ true) where
  pub measured_long : 4140 ≤ length file
  measured_long = file_long file (test_measured file h)

  pub measured_front : le32 file 0 + 4140 ≤ length file
  measured_front = let s = (test_measured file h).file_length in omega arith

  pub measured_nodes : le32 file 12 + 16 * le32 file 4 ≤ length file
  measured_nodes = let m = test_measured file h in let s = m.file_length in let n = m.nodes_offset in omega arith

  pub measured_blocks : le32 file 16 + 4100 * le32 file 8 ≤ length file
  measured_blocks = let m = test_measured file h in let s = m.file_length in let n = m.blocks_offset in omega arith

pub ruleset inside = (measured_long, measured_front, measured_nodes, measured_blocks)
