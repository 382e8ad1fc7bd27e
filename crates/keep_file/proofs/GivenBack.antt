-- "Reading what was written gives it back".
use Prim.Native.Nat.{ℕ, ◌+◌, ◌*◌, ◌<◌}
use native.Mathlib.Omega.{arith}
use mathlib.Core.Path.{◌≡◌, refl, ap, ◌∙◌}
use mathlib.Core.List.{List, [], ◌++◌}
use lib.ListN.{length, take, drop}
use lib.Seq.{take_at}
use Rattle.field.specs.Number.{le32}
use Rattle.list.specs.Lists.{column}
use Rattle.list.proofs.Written.{column_bytes}
use Rattle.keep_file.specs.Keep.{Keep}
use Rattle.keep_file.specs.Layout.{nodes_start, blocks_start, answer_bytes, blocks_bytes, layout}
use Rattle.keep_file.specs.Reading.{answer_at, bytes_at, kept_at, path_length_in, node_count_in, block_count_in, keep_in, kept, read_keep}
use Rattle.keep_file.specs.Readable.{Measured, TableAnswerAt, Readable, Filled, Whole}
use Rattle.keep_file.proofs.Refusing.{readable_exactly, read_readable}
use Rattle.keep_file.proofs.Entries.{each_value, entries_read}
use Rattle.keep_file.proofs.Values.{Three, three_read, answer_stands, answer_read, block_read}
use Rattle.keep_file.proofs.Parts.{head_numbers, bound_numbers, behind_bounds, behind_block, behind_result, behind_path, Laid, answers_sized, laid_out_lem}

module _ (k : Keep) (file : List ℕ) (laid : Laid k file) where
  abbrev p : ℕ
  p = length k.path

  abbrev n : ℕ
  n = length k.nodes

  abbrev b : ℕ
  b = length k.blocks

  -- ---- the numbers
  head_read : column 4 file 0 6 ≡ head_numbers k
  head_read = column_bytes file 0 (head_numbers k) (k.path ++ behind_path k) laid.head

  path_read : path_length_in file ≡ p
  unfolding column
  path_read = let h = head_read in cc

  nodes_read : node_count_in file ≡ n
  unfolding column
  nodes_read = let h = head_read in cc

  blocks_read : block_count_in file ≡ b
  unfolding column
  blocks_read = let h = head_read in cc

  measured_back : Measured file
  unfolding column
  measured_back =
      let h = head_read in
      record {
        nodes_offset = rw path_read (cc);
        blocks_offset = rw (path_read, nodes_read) (cc);
        end_offset = rw (path_read, nodes_read, blocks_read) (cc);
        file_length = rw (path_read, nodes_read, blocks_read) laid.size;
      }

  result_read : Three file (p + 24) k.index k.answer k.count
  result_read = three_read file (p + 24) k.index k.answer k.count (behind_result k) laid.result

  bounds_read : (le32 file (p + 4132) ≡ k.bounds.start) × (le32 file (p + 4136) ≡ k.bounds.end)
  unfolding column
  bounds_read =
      let second : p + 4132 + 4 ≡ p + 4136 = omega arith in
      let h = rw second at (column_bytes file (p + 4132) (bound_numbers k) (behind_bounds k) laid.bounds) in
      (cc, cc)

  -- ---- the bytes and the lists
  path_back : take p (drop 24 file) ≡ k.path
  path_back = rw laid.path (take_at k.path (behind_path k) p refl)

  answers_back : (i : ℕ) → i < n → TableAnswerAt file (nodes_start p + 16 * i + 4)
  answers_back =
      each_value 12 answer_bytes file (TableAnswerAt file) (answer_stands file) (nodes_start p) k.nodes (blocks_bytes k.blocks)
      (answers_sized k.nodes) laid.nodes

  nodes_back : kept_at 16 answer_at file (nodes_start p) n ≡ k.nodes
  nodes_back =
      entries_read 12 answer_bytes file answer_at (λ at a r l e. answer_read file at a r e) (nodes_start p) k.nodes (blocks_bytes k.blocks)
      (answers_sized k.nodes) laid.nodes

  module _ (filled : Filled k) where
    blocks_back : kept_at 4100 bytes_at file (blocks_start p n) b ≡ k.blocks
    blocks_back =
        entries_read 4096 (λ bytes. bytes) file bytes_at (block_read file) (blocks_start p n) k.blocks [] filled.blocks laid.blocks

    keep_back : keep_in file ≡ k
    unfolding keep_in
    keep_back =
        let second : p + 24 + 4 ≡ p + 28 = omega arith in
        let third : p + 24 + 8 ≡ p + 32 = omega arith in
        let answer : le32 file (p + 28) ≡ k.answer = rw second at result_read.two in
        let count : le32 file (p + 32) ≡ k.count = rw third at result_read.three in
        rw (path_read, nodes_read, blocks_read) (λ i. record {
          path = path_back i;
          index = result_read.one i;
          answer = answer i;
          count = count i;
          block = block_read file (p + 36) k.block (behind_block k) filled.block laid.block i;
          bounds = record { start = bounds_read.0 i; end = bounds_read.1 i };
          nodes = nodes_back i;
          blocks = blocks_back i;
        })

-- ---- the whole
module _ (k : Keep) (w : Whole k) where
  abbrev laid : Laid k (layout k)
  laid = laid_out_lem k w.filled

  keep_in_layout : keep_in (layout k) ≡ k
  keep_in_layout = keep_back k (layout k) laid w.filled

  layout_readable : Readable (layout k)
  layout_readable = record {
    measure = measured_back k (layout k) laid;
    some = rw (nodes_read k (layout k) laid) w.some;
    nodes_rise = rw keep_in_layout w.nodes_rise;
    answers = rw (path_read k (layout k) laid, nodes_read k (layout k) laid) (answers_back k (layout k) laid);
    blocks_rise = rw keep_in_layout w.blocks_rise;
    inside = rw keep_in_layout w.inside;
  }

  -- "Reading what was written gives it back"
  pub given_back : read_keep (layout k) ≡ kept k
  given_back = read_readable (layout k) ((readable_exactly (layout k)).1 layout_readable) ∙ ap kept keep_in_layout
