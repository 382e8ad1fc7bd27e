-- "what was read, laid out again, is the same file": each part is what stands in the file, and the parts are without gaps.
use Prim.Native.Nat.{ℕ, ◌+◌, ◌*◌, ◌<◌}
use native.Mathlib.Omega.{arith}
use mathlib.Core.Path.{◌≡◌, refl}
use mathlib.Core.List.{List, [], ◌∷◌, ◌++◌}
use lib.ListN.{length, get_or, take}
use lib.Seq.{take_all}
use Rattle.field.specs.Number.{le32}
use Rattle.list.specs.Lists.{column, bytes_of}
use Rattle.list.proofs.Written.{bytes_column}
use Rattle.keep_file.specs.Keep.{Keep}
use Rattle.keep_file.specs.Layout.{nodes_start, blocks_start, file_end, header, answer_bytes, nodes_bytes, blocks_bytes, layout}
use Rattle.keep_file.specs.Reading.{answer_at, bytes_at, kept_at, path_length_in, node_count_in, block_count_in, keep_in, kept, read_keep}
use Rattle.keep_file.specs.Readable.{Readable}
use Rattle.keep_file.proofs.Places.{length_kept}
use Rattle.keep_file.proofs.Refusing.{read_kept}
use Rattle.keep_file.proofs.Lengths.{path_length_lem}
use Rattle.keep_file.proofs.Entries.{part, part_on, entries_again}
use Rattle.keep_file.proofs.Values.{three_again, answer_again}

module _ (file : List ℕ) (small : (i : ℕ) → get_or file i 0 < 256) (r : Readable file) where
  abbrev p : ℕ
  p = path_length_in file

  abbrev n : ℕ
  n = node_count_in file

  abbrev b : ℕ
  b = block_count_in file

  size : length file ≡ file_end p n b
  size = r.measure.file_length

  -- ---- the parts
  header_again : header p n b ≡ take 24 file
  unfolding column
  header_again =
      let s = size in
      let m = r.measure in
      rw (← m.end_offset, ← m.blocks_offset, ← m.nodes_offset) (bytes_column file small 0 6 (omega arith))

  result_again : bytes_of (le32 file (p + 24) ∷ le32 file (p + 28) ∷ le32 file (p + 32) ∷ []) ≡ part file (p + 24) 12
  result_again =
      let s = size in
      let second : p + 24 + 4 ≡ p + 28 = omega arith in
      let third : p + 24 + 8 ≡ p + 32 = omega arith in
      rw (second, third) at (three_again file (p + 24) small (omega arith))

  bounds_again : bytes_of (le32 file (p + 4132) ∷ le32 file (p + 4136) ∷ []) ≡ part file (p + 4132) 8
  unfolding column
  bounds_again =
      let s = size in
      let second : p + 4132 + 4 ≡ p + 4136 = omega arith in
      rw second at (bytes_column file small (p + 4132) 2 (omega arith))

  nodes_again : nodes_bytes (kept_at 16 answer_at file (nodes_start p) n) ≡ part file (nodes_start p) (16 * n)
  nodes_again =
      let s = size in
      entries_again 12 answer_bytes file small answer_at (nodes_start p) n (omega arith)
      (λ i h. answer_again file (nodes_start p + 16 * i + 4) small (omega arith) (r.answers i h))

  blocks_again : blocks_bytes (kept_at 4100 bytes_at file (blocks_start p n) b) ≡ part file (blocks_start p n) (4100 * b)
  unfolding bytes_at
  blocks_again = let s = size in entries_again 4096 (λ bytes. bytes) file small bytes_at (blocks_start p n) b (omega arith) (λ i h. refl)

  -- ---- the file
  front : (at n m : ℕ) → at + n ≡ m → take at file ++ part file at n ≡ take m file
  front at n m h = rw (part_on file 0 at at n (omega arith), h)

  joined : take 24 file ++ part file 24 p ++ part file (p + 24) 12 ++ part file (p + 36) 4096 ++ part file (p + 4132) 8
      ++ part file (nodes_start p) (16 * n) ++ part file (blocks_start p n) (4100 * b) ≡ file
  joined =
      let s = size in
      rw (
        front 24 p (p + 24) (omega arith),
        front (p + 24) 12 (p + 36) (omega arith),
        front (p + 36) 4096 (p + 4132) (omega arith),
        front (p + 4132) 8 (p + 4140) (omega arith),
        front (p + 4140) (16 * n) (blocks_start p n) refl,
        front (blocks_start p n) (4100 * b) (file_end p n b) refl,
      )
      (take_all (file_end p n b) file (omega arith))

  keep_again : layout (keep_in file) ≡ file
  unfolding layout keep_in bytes_at
  keep_again =
      rw (
        path_length_lem file r.measure,
        length_kept 16 answer_at file (nodes_start p) n,
        length_kept 4100 bytes_at file (blocks_start p n) b,
        header_again,
        result_again,
        bounds_again,
        nodes_again,
        blocks_again,
      )
      joined

-- "what was read, laid out again, is the same file"
pub laid_again : (file : List ℕ) (k : Keep) → read_keep file ≡ kept k → ((i : ℕ) → get_or file i 0 < 256) → layout k ≡ file
laid_again file k e small = let t = read_kept file e in rw t.1 (keep_again file small t.0)
