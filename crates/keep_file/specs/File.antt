-- A keep file in the code, and its two lists as columns of numbers.
use Rattle.std.specs.Prelude.{◌≡◌, ℕ, false, List, Option, Some, None}
use Rattle.compare.specs.declared.column.Column.{Column}
use Rattle.keep_file.specs.declared.file.KeepFile.{KeepFile}
use Rattle.keep_file.specs.Layout.{nodes_start, blocks_start}
use Rattle.keep_file.specs.Reading.{path_length_in, node_count_in, block_count_in, readable}

-- n numbers of a file, a width apart
pub record Stands (file : List ℕ) (start width n : ℕ) (c : Column) : Type 0 where
  pub bytes : c.bytes.now ≡ file
  pub starts : c.start ≡ start
  pub wide : c.width ≡ width
  pub counted : c.count ≡ n

-- the listed nodes and blocks, where its first three numbers put them
abbrev pub NodesAt : List ℕ → Column → Type 0
NodesAt file c = Stands file (nodes_start (path_length_in file)) 16 (node_count_in file) c

abbrev pub BlocksAt : List ℕ → Column → Type 0
BlocksAt file c = Stands file (blocks_start (path_length_in file) (node_count_in file)) 4100 (block_count_in file) c

-- the code's answer: the bytes as a keep file, or none
abbrev pub KeepIn : List ℕ → Option KeepFile → Type 0
KeepIn file (Some k) = k.parts.bytes.now ≡ file
KeepIn file None = readable file ≡ false
