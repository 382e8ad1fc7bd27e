-- Which files are keep files, and what they hold.
use Rattle.std.specs.Prelude.{ℕ, zero, suc, ◌+◌, Bool, true, ◌&&◌, ◌||◌, List, [], ◌∷◌, length, take, drop, eqb, leb}
use Rattle.field.specs.Number.{le32}
use Rattle.field.specs.Choice.{choose}
use Rattle.nat.specs.Table.{TableAnswer, OutOfRange, Entry}
use Rattle.compare.specs.Lists.{is_rising, all_in_main}
use Rattle.keep_file.specs.declared.Fields.{Fields}
use Rattle.keep_file.specs.Keep.{Kept, numbers_of, Keep}
use Rattle.keep_file.specs.Layout.{path_start, block_start, nodes_start, blocks_start, file_end}

-- ---- what stands at an offset

-- a table answer: "9, 0, 0 or 0, inode, address"
unfoldable pub answer_at : List ℕ → ℕ → TableAnswer
answer_at file at = choose (eqb (le32 file at) 0) (Entry (le32 file (at + 4)) (le32 file (at + 8))) OutOfRange

unfoldable pub is_answer : List ℕ → ℕ → Bool
is_answer file at = eqb (le32 file at) 0 || (eqb (le32 file at) 9 && eqb (le32 file (at + 4)) 0 && eqb (le32 file (at + 8)) 0)

-- a block's bytes
unfoldable pub bytes_at : List ℕ → ℕ → List ℕ
bytes_at file at = take 4096 (drop at file)

-- as many entries as are counted, each of `width` bytes: a number, and behind it what is kept of it
unfoldable pub kept_at : {A : Type 0} → ℕ → (List ℕ → ℕ → A) → List ℕ → ℕ → ℕ → List (Kept A)
kept_at width value file at zero = []
kept_at width value file at (suc n) = record { number = le32 file at; value = value file (at + 4) } ∷ kept_at width value file (at + width) n

-- "each listed node number with its table answer"
abbrev pub kept_nodes_at : List ℕ → ℕ → ℕ → List (Kept TableAnswer)
kept_nodes_at file at n = kept_at 16 answer_at file at n

-- "each listed block's number with all its bytes"
abbrev pub kept_blocks_at : List ℕ → ℕ → ℕ → List (Kept (List ℕ))
kept_blocks_at file at n = kept_at 4100 bytes_at file at n

unfoldable pub are_answers : List ℕ → ℕ → ℕ → Bool
are_answers file at zero = true
are_answers file at (suc n) = is_answer file (at + 4) && are_answers file (at + 16) n

-- ---- the file

-- "the first three numbers"
abbrev pub path_length_in : List ℕ → ℕ
path_length_in file = le32 file 0

abbrev pub node_count_in : List ℕ → ℕ
node_count_in file = le32 file 4

abbrev pub block_count_in : List ℕ → ℕ
block_count_in file = le32 file 8

-- what the file holds, where its first three numbers put it
unfoldable pub keep_in : List ℕ → Keep
keep_in file =
    let p : ℕ = path_length_in file in
    let n : ℕ = node_count_in file in
    record {
      path = take p (drop path_start file);
      index = le32 file (p + 24);
      answer = le32 file (p + 28);
      count = le32 file (p + 32);
      block = bytes_at file (block_start p);
      bounds = record { start = le32 file (p + 4132); end = le32 file (p + 4136) };
      nodes = kept_nodes_at file (nodes_start p) n;
      blocks = kept_blocks_at file (blocks_start p n) (block_count_in file);
    }

-- not "an offset or file length other than the first three numbers give". The sums are exact: what they give may pass 32 bits, and is
-- no offset then
unfoldable pub measured : List ℕ → Bool
measured file =
    let p : ℕ = path_length_in file in
    let n : ℕ = node_count_in file in
    let b : ℕ = block_count_in file in
    eqb (le32 file 12) (nodes_start p) && eqb (le32 file 16) (blocks_start p n) && eqb (le32 file 20) (file_end p n b)
    && eqb (length file) (file_end p n b)

-- not "a list not strictly rising, a table answer of no such kind, no node, or a block outside the bounds"
unfoldable pub lists_readable : List ℕ → Bool
lists_readable file =
    let k : Keep = keep_in file in
    leb 1 (node_count_in file) && is_rising (numbers_of k.nodes) && are_answers file (nodes_start (path_length_in file)) (node_count_in file)
    && is_rising (numbers_of k.blocks) && all_in_main k.bounds (numbers_of k.blocks)

-- "Reading refuses .. exactly the files with .."
unfoldable pub readable : List ℕ → Bool
readable file = measured file && lists_readable file

-- what reading gives: what the file holds, or that it is none
pub data Read : Type 0 where
  unreadable : Read
  kept : Keep → Read

unfoldable pub read_keep : List ℕ → Read
read_keep file = choose (readable file) (kept (keep_in file)) unreadable

-- ---- the numbers that cross

-- 18, and no other number
abbrev pub refused_fields : Fields
refused_fields = record {
  answer = 18;
  path_len = 0;
  index = 0;
  pull_answer = 0;
  byte_count = 0;
  main_start = 0;
  main_end = 0;
  node_count = 0;
  block_count = 0;
  path_at = 0;
  block_at = 0;
  nodes_at = 0;
  blocks_at = 0;
  length = 0;
}

-- 0, the numbers that the file holds, and where its bytes and lists are
abbrev pub fields_of : Keep → Fields
fields_of k =
    let p : ℕ = length k.path in
    let n : ℕ = length k.nodes in
    let b : ℕ = length k.blocks in
    record {
      answer = 0;
      path_len = p;
      index = k.index;
      pull_answer = k.answer;
      byte_count = k.count;
      main_start = k.bounds.start;
      main_end = k.bounds.end;
      node_count = n;
      block_count = b;
      path_at = path_start;
      block_at = block_start p;
      nodes_at = nodes_start p;
      blocks_at = blocks_start p n;
      length = file_end p n b;
    }

abbrev pub fields_read : Read → Fields
fields_read unreadable = refused_fields
fields_read (kept k) = fields_of k
