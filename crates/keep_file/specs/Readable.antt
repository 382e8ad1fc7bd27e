-- Which files are keep files, in plain propositions, and which keeps reading gives back. Of a keep's numbers and bytes no bound is asked: the bytes of
-- a number (`bytes_of`) give it back, however large it is.
use Rattle.std.specs.Prelude.{ℕ, ◌+◌, ◌*◌, ◌≤◌, ◌<◌, ◌≡◌, true, List, [], ◌∷◌, ◌⊎◌, length}
use Rattle.field.specs.Number.{le32}
use Rattle.list.specs.Lists.{AllOf, Rising}
use Rattle.node.specs.Node.{in_main}
use Rattle.keep_file.specs.Keep.{Kept, numbers_of, Keep}
use Rattle.keep_file.specs.Layout.{nodes_start, blocks_start, file_end}
use Rattle.keep_file.specs.Reading.{path_length_in, node_count_in, block_count_in, keep_in}

-- "an offset or file length [as] the first three numbers give"
pub record Measured (file : List ℕ) : Type 0 where
  pub nodes_offset : le32 file 12 ≡ nodes_start (path_length_in file)
  pub blocks_offset : le32 file 16 ≡ blocks_start (path_length_in file) (node_count_in file)
  pub end_offset : le32 file 20 ≡ file_end (path_length_in file) (node_count_in file) (block_count_in file)
  pub file_length : length file ≡ file_end (path_length_in file) (node_count_in file) (block_count_in file)

-- "its table answer (9, 0, 0 or 0, inode, address)"
abbrev pub TableAnswerAt : List ℕ → ℕ → Type 0
TableAnswerAt file at = (le32 file at ≡ 0) ⊎ ((le32 file at ≡ 9) × (le32 file (at + 4) ≡ 0) × (le32 file (at + 8) ≡ 0))

-- the files that reading takes: none of what it "refuses, .. exactly"
pub record Readable (file : List ℕ) : Type 0 where
  pub measure : Measured file
  pub some : 1 ≤ node_count_in file
  pub nodes_rise : Rising (numbers_of (keep_in file).nodes)
  pub answers : (i : ℕ) → i < node_count_in file → TableAnswerAt file (nodes_start (path_length_in file) + 16 * i + 4)
  pub blocks_rise : Rising (numbers_of (keep_in file).blocks)
  pub inside : AllOf (λ b. in_main (keep_in file).bounds b ≡ true) (numbers_of (keep_in file).blocks)

-- P holds of each entry
abbrev pub AllKept : {A : Type 0} → (Kept A → Type 0) → List (Kept A) → Type 0
AllKept P [] = Unit {0}
AllKept P (k ∷ ks) = P k × AllKept P ks

-- a keep whose block has its 4,096 bytes, as has each listed one
pub record Filled (k : Keep) : Type 0 where
  pub block : length k.block ≡ 4096
  pub blocks : AllKept (λ b. length b.value ≡ 4096) k.blocks

-- a keep that reading gives back
pub record Whole (k : Keep) : Type 0 where
  pub filled : Filled k
  pub some : 1 ≤ length k.nodes
  pub nodes_rise : Rising (numbers_of k.nodes)
  pub blocks_rise : Rising (numbers_of k.blocks)
  pub inside : AllOf (λ b. in_main k.bounds b ≡ true) (numbers_of k.blocks)
