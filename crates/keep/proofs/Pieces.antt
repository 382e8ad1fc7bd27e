-- The parts of a keep file as the writer lays them, piece by piece.
use Prim.Native.Nat.{ℕ, ◌+◌, ◌≤◌, ◌<◌}
use native.Mathlib.Omega.{arith}
use mathlib.Core.Path.{◌≡◌, refl, ap, ◌∙◌}
use mathlib.Core.List.{List, [], ◌∷◌, ◌++◌, append_assoc}
use lib.ListN.{length}
use Rattle.field.specs.Card.{Card, card_of}
use Rattle.field.proofs.Blocks.{length_block, length_of_block}
use Rattle.checkpoint.specs.declared.Volume.{Volume}
use Rattle.nat.specs.Table.{TableAnswer, table_answer}
use Rattle.list.specs.Lists.{bytes_of}
use Rattle.buffer.specs.Laid.{laid_at}
use Rattle.buffer.proofs.Laying.{LaidSo, laid_more}
use Rattle.pull.specs.declared.Pulled.{Pulled}
use Rattle.keep_file.specs.Layout.{nodes_start, blocks_start, file_end, header, answer_bytes}
use Rattle.keep_file.proofs.Values.{answer_size}
use Rattle.keep.specs.Parts.{node_entry, block_entry, front_of}

-- ---- numbers
module _ (d : List ℕ) (at : ℕ) {e : List ℕ} where
  -- the first piece
  first : (n : ℕ) (p : List ℕ) → e ≡ laid_at at p d → length p ≡ n → at + n ≤ length d → LaidSo at d p n e
  first n p g size room = record { bytes = g; size = size; fits = room }

  pub three_laid : (a b c : ℕ) {f g : List ℕ} → e ≡ laid_at at (bytes_of (a ∷ [])) d → f ≡ laid_at (at + 4) (bytes_of (b ∷ [])) e
      → g ≡ laid_at (at + 8) (bytes_of (c ∷ [])) f → at + 12 ≤ length d → g ≡ laid_at at (bytes_of (a ∷ b ∷ c ∷ [])) d
  unfolding bytes_of
  three_laid a b c p q r room =
      let one = first 4 (bytes_of (a ∷ [])) p refl (omega arith) in
      let two = laid_more one (at + 4) (bytes_of (b ∷ [])) 4 q refl refl (omega arith) in
      (laid_more two (at + 8) (bytes_of (c ∷ [])) 4 r refl refl room).bytes

-- ---- entries
pub node_size : (card : Card) (v : Volume) (n : ℕ) → length (node_entry card v n) ≡ 16
unfolding bytes_of
node_size card v n = let size = answer_size (table_answer card v n) in omega arith

pub block_size : (image : List ℕ) (b : ℕ) → b < (card_of image).blocks → length (block_entry (card_of image) b) ≡ 4100
unfolding bytes_of
block_size image b h = let size = length_block image b h in omega arith

module _ (d : List ℕ) (at : ℕ) {e f : List ℕ} where
  pub node_laid : (card : Card) (v : Volume) (n : ℕ) {t : TableAnswer} → e ≡ laid_at at (bytes_of (n ∷ [])) d
      → f ≡ laid_at (at + 4) (answer_bytes t) e → t ≡ table_answer card v n → at + 16 ≤ length d → f ≡ laid_at at (node_entry card v n) d
  unfolding bytes_of
  node_laid card v n {t} p q s room =
      let one = first d at 4 (bytes_of (n ∷ [])) p refl (omega arith) in
      (laid_more one (at + 4) (answer_bytes t) 12 q refl (answer_size t) room).bytes
      ∙ ap (λ (u : TableAnswer). laid_at at (bytes_of (n ∷ []) ++ answer_bytes u) d) s

  pub block_laid : (image : List ℕ) (b : ℕ) {l : List ℕ} → b < (card_of image).blocks → e ≡ laid_at at (bytes_of (b ∷ [])) d
      → f ≡ laid_at (at + 4) l e → l ≡ (card_of image).block b → at + 4100 ≤ length d → f ≡ laid_at at (block_entry (card_of image) b) d
  unfolding bytes_of
  block_laid image b {l} h p q s room =
      let one = first d at 4 (bytes_of (b ∷ [])) p refl (omega arith) in
      (laid_more one (at + 4) l 4096 q refl (length_of_block image b h s) room).bytes
      ∙ ap (λ (u : List ℕ). laid_at at (bytes_of (b ∷ []) ++ u) d) s

-- ---- before the lists
module _ (d : List ℕ) (p n b : ℕ) where
  pub header_laid : {e f : List ℕ} → e ≡ laid_at 0 (bytes_of (p ∷ n ∷ b ∷ [])) d
      → f ≡ laid_at 12 (bytes_of (nodes_start p ∷ blocks_start p n ∷ file_end p n b ∷ [])) e → 24 ≤ length d → f ≡ laid_at 0 (header p n b) d
  unfolding bytes_of
  header_laid q r room =
      let one = first d 0 12 (bytes_of (p ∷ n ∷ b ∷ [])) q refl (omega arith) in
      (laid_more one 12 (bytes_of (nodes_start p ∷ blocks_start p n ∷ file_end p n b ∷ [])) 12 r refl refl room).bytes

module _ (d : List ℕ) (v : Volume) (path : List ℕ) (index : ℕ) (r : Pulled) (block : List ℕ) (whole : length block ≡ 4096)
    (room : length path + 4140 ≤ length d) where
  pub front_laid : {d1 d2 d3 d4 d5 d6 : List ℕ} → d1 ≡ laid_at 0 (header (length path) r.node_count r.block_count) d
      → d2 ≡ laid_at 24 path d1 → d3 ≡ laid_at (length path + 24) (bytes_of (index ∷ r.answer ∷ r.byte_count ∷ [])) d2
      → d4 ≡ laid_at (length path + 36) block d3 → d5 ≡ laid_at (length path + 4132) (bytes_of (v.areas.main ∷ [])) d4
      → d6 ≡ laid_at (length path + 4136) (bytes_of (v.areas.main_end ∷ [])) d5 → d6 ≡ laid_at 0 (front_of v path index r block) d
  unfolding front_of bytes_of
  front_laid e1 e2 e3 e4 e5 e6 =
      let n : ℕ = length path in
      let before : List ℕ =
      header n r.node_count r.block_count ++ path ++ bytes_of (index ∷ r.answer ∷ r.byte_count ∷ []) ++ block in
      let one = first d 0 24 (header n r.node_count r.block_count) e1 refl (omega arith) in
      let two = laid_more one 24 path n e2 refl refl (omega arith) in
      let three = laid_more two (n + 24) (bytes_of (index ∷ r.answer ∷ r.byte_count ∷ [])) 12 e3 (omega arith) refl (omega arith) in
      let four = laid_more three (n + 36) block 4096 e4 (omega arith) whole (omega arith) in
      let five = laid_more four (n + 4132) (bytes_of (v.areas.main ∷ [])) 4 e5 (omega arith) refl (omega arith) in
      (laid_more five (n + 4136) (bytes_of (v.areas.main_end ∷ [])) 4 e6 (omega arith) refl (omega arith)).bytes
      ∙ ap (λ (l : List ℕ). laid_at 0 l d) (append_assoc before (bytes_of (v.areas.main ∷ [])) (bytes_of (v.areas.main_end ∷ [])))
