-- The file of what a pull left: its parts, how long they are, and how they come together.
use Prim.Native.Nat.{ℕ, ◌+◌, ◌*◌, ◌≤◌, ◌<◌}
use native.Mathlib.Omega.{arith}
use mathlib.Core.Path.{◌≡◌, sym, ap, ◌∙◌}
use mathlib.Core.List.{List, ◌++◌}
use lib.ListN.{length, drop, length-append}
use borrow.Author.Tests.{le-leb, lt-leb}
use Rattle.field.specs.Card.{card_of}
use Rattle.checkpoint.specs.declared.Volume.{Volume}
use Rattle.nat.specs.Table.{table_answer, TableAnswer}
use Rattle.list.specs.Lists.{entries, bytes_of}
use Rattle.list.proofs.Entries.{length_numbers}
use Rattle.list.proofs.Rises.{all_map}
use Rattle.buffer.specs.Laid.{laid_at}
use Rattle.buffer.proofs.Laying.{LaidSo, laid_first, laid_more}
use Rattle.pull.specs.declared.Pulled.{Pulled}
use Rattle.pull.specs.Pull.{Result, nodes_left, blocks_left}
use Rattle.field.proofs.Blocks.{length_block}
use Rattle.keep_file.specs.Keep.{Kept, kept_by}
use Rattle.keep_file.specs.Layout.{answer_bytes, layout}
use Rattle.keep_file.specs.Readable.{Filled}
use Rattle.keep_file.proofs.Found.{length_by, all_by}
use Rattle.keep_file.proofs.Parts.{answers_sized, layout_length}
use Rattle.keep_file.proofs.Entries.{length_entries}
use Rattle.keep.specs.Writing.{writing, refused_keep, file_written}
use Rattle.keep.specs.Parts.{nodes_of, blocks_of, front_of, keep_found, end_found, Keepable}

-- ---- the parts
pub front_length : (v : Volume) (path : List ℕ) (index : ℕ) (p : Pulled) (block : List ℕ) → length block ≡ 4096
    → length (front_of v path index p block) ≡ length path + 4140
unfolding front_of bytes_of
front_length v path index p block whole = simp length-append (omega arith)

module _ (image : List ℕ) (v : Volume) (path : List ℕ) (index : ℕ) (r : Result) (h : Keepable (card_of image) v path r) where
  abbrev nodes : List ℕ
  nodes = nodes_of (card_of image) v (nodes_left r)

  abbrev blocks : List ℕ
  blocks = blocks_of (card_of image) (blocks_left r)

  abbrev front : List ℕ
  front = front_of v path index r.numbers r.memory.block

  nodes_length : length nodes ≡ 16 * r.numbers.node_count
  nodes_length =
      let ks : List (Kept TableAnswer) = kept_by (table_answer (card_of image) v) (entries (nodes_left r)) in
      length_entries 12 answer_bytes ks (answers_sized ks)
      ∙ ap (λ (n : ℕ). 16 * n) (length_by (table_answer (card_of image) v) (entries (nodes_left r)) ∙ length_numbers _ _ _)

  found_filled : Filled (keep_found (card_of image) v path index r)
  unfolding keep_found
  found_filled = record {
    block = h.whole;
    blocks = all_by (λ k. length k.value ≡ 4096) (card_of image).block (entries (blocks_left r))
        (all_map (λ b q. length_block image b q) (entries (blocks_left r)) h.inside);
  }

  blocks_length : length blocks ≡ 4100 * r.numbers.block_count
  unfolding keep_found
  blocks_length =
      let bs : List ℕ = entries (blocks_left r) in
      length_entries 4096 (λ (bytes : List ℕ). bytes) (kept_by (card_of image).block bs) found_filled.blocks
      ∙ ap (λ (n : ℕ). 4100 * n) (length_by (card_of image).block bs ∙ length_numbers _ _ _)

  -- the file is its parts
  found_parts : layout (keep_found (card_of image) v path index r) ≡ front ++ nodes ++ blocks
  unfolding layout keep_found front_of
  found_parts = rw (
    length_by (table_answer (card_of image) v),
    length_by (card_of image).block,
    length_numbers (nodes_left r).bytes,
    length_numbers (blocks_left r).bytes,
  )

  pub found_length : length (layout (keep_found (card_of image) v path index r)) ≡ end_found path r
  unfolding keep_found
  found_length =
      layout_length (keep_found (card_of image) v path index r) found_filled
      ∙ rw (
        length_by (table_answer (card_of image) v),
        length_by (card_of image).block,
        length_numbers (nodes_left r).bytes,
        length_numbers (blocks_left r).bytes,
      )

  -- laid part by part
  pub file_laid : (d : List ℕ) {d1 d2 d3 : List ℕ} → d1 ≡ laid_at 0 front d → d2 ≡ laid_at (length path + 4140) nodes d1
      → d3 ≡ laid_at (length path + 4140 + 16 * r.numbers.node_count) blocks d2 → end_found path r ≤ length d
      → d3 ≡ laid_at 0 (layout (keep_found (card_of image) v path index r)) d
  file_laid d e1 e2 e3 room =
      let n = r.numbers.node_count in
      let b = r.numbers.block_count in
      let one : LaidSo 0 d front (length path + 4140) _ =
      record { bytes = e1; size = front_length v path index r.numbers r.memory.block h.whole; fits = omega arith } in
      let two = laid_more one (length path + 4140) nodes (16 * n) e2 (omega arith) nodes_length (omega arith) in
      let three = laid_more two (length path + 4140 + 16 * n) blocks (4100 * b) e3 (omega arith) blocks_length (omega arith) in
      three.bytes ∙ ap (λ (l : List ℕ). laid_at 0 l d) (sym found_parts)

-- ---- the room
pub room_fits : (file room : List ℕ) → length file ≤ length room
    → file_written file room ≡ writing (record { answer = 0; length = length file }) (file ++ drop (length file) room)
unfolding file_written
room_fits file room h = rw (le-leb (length file) (length room) h)

module _ (file room : List ℕ) {end : ℕ} (size : length file ≡ end) where
  pub room_short : length room < end → refused_keep 17 room ≡ file_written file room
  unfolding file_written
  room_short h = rw (lt-leb (length file) (length room) (omega arith))

  pub room_enough : {room' : List ℕ} → end ≤ length room → room' ≡ laid_at 0 file room
      → writing (record { answer = 0; length = end }) room' ≡ file_written file room
  room_enough h e = rw (room_fits file room (omega arith), e, laid_first file room, ← size)
