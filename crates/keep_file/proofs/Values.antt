-- The two kinds of values that entries have, table answers and blocks: written and read, read and written.
use Prim.Native.Nat.{ℕ, ◌+◌, ◌≤◌, ◌<◌}
use native.Mathlib.Omega.{arith}
use mathlib.Core.Path.{◌≡◌}
use mathlib.Core.List.{List, [], ◌∷◌, ◌++◌}
use mathlib.Core.Logic.{inl, inr}
use lib.ListN.{length, get_or, drop}
use lib.Seq.{take_at}
use borrow.Author.Tests.{eq-eqb, ne_eqb}
use Rattle.field.specs.Number.{le32}
use Rattle.nat.specs.Table.{TableAnswer, OutOfRange, Entry}
use Rattle.list.specs.Lists.{column, bytes_of}
use Rattle.list.proofs.Written.{length_bytes, column_bytes, bytes_column}
use Rattle.keep_file.specs.Layout.{answer_bytes}
use Rattle.keep_file.specs.Reading.{answer_at, bytes_at}
use Rattle.keep_file.specs.Readable.{TableAnswerAt}
use Rattle.keep_file.proofs.Entries.{part}

-- ---- three numbers
pub record Three (file : List ℕ) (at x y z : ℕ) : Type 0 where
  pub one : le32 file at ≡ x
  pub two : le32 file (at + 4) ≡ y
  pub three : le32 file (at + 8) ≡ z

module _ (file : List ℕ) (at : ℕ) where
  third : at + 4 + 4 ≡ at + 8
  third = omega arith

  pub three_read : (x y z : ℕ) (r : List ℕ) → drop at file ≡ bytes_of (x ∷ y ∷ z ∷ []) ++ r → Three file at x y z
  unfolding column
  three_read x y z r e = let h = rw third at (column_bytes file at (x ∷ y ∷ z ∷ []) r e) in record { one = cc; two = cc; three = cc }

  pub three_again : ((i : ℕ) → get_or file i 0 < 256) → at + 12 ≤ length file
      → bytes_of (le32 file at ∷ le32 file (at + 4) ∷ le32 file (at + 8) ∷ []) ≡ part file at 12
  unfolding column
  three_again small h = rw third at (bytes_column file small at 3 h)

-- ---- a table answer
pub answer_size : (a : TableAnswer) → length (answer_bytes a) ≡ 12
answer_size OutOfRange = length_bytes (9 ∷ 0 ∷ 0 ∷ [])
answer_size (Entry inode address) = length_bytes (0 ∷ inode ∷ address ∷ [])

module _ (file : List ℕ) (at : ℕ) where
  pub answer_stands : (a : TableAnswer) (r : List ℕ) → drop at file ≡ answer_bytes a ++ r → TableAnswerAt file at
  answer_stands OutOfRange r e = let t = three_read file at 9 0 0 r e in inr (t.one, t.two, t.three)
  answer_stands (Entry inode address) r e = inl (three_read file at 0 inode address r e).one

  pub answer_read : (a : TableAnswer) (r : List ℕ) → drop at file ≡ answer_bytes a ++ r → answer_at file at ≡ a
  unfolding answer_at
  answer_read OutOfRange r e =
      let t = three_read file at 9 0 0 r e in
      let n : le32 file at ≡ 9 = t.one in
      rw (ne_eqb (le32 file at) 0 (λ z. omega arith))
  answer_read (Entry inode address) r e =
      let t = three_read file at 0 inode address r e in
      rw (eq-eqb (le32 file at) 0 t.one, t.two, t.three)

  pub answer_again : ((i : ℕ) → get_or file i 0 < 256) → at + 12 ≤ length file → TableAnswerAt file at
      → answer_bytes (answer_at file at) ≡ part file at 12
  unfolding answer_at
  answer_again small h (inl e) = rw (eq-eqb (le32 file at) 0 e) (rw e at (three_again file at small h))
  answer_again small h (inr e) =
      let n : le32 file at ≡ 9 = e.0 in
      rw (ne_eqb (le32 file at) 0 (λ z. omega arith)) (rw (n, e.1, e.2) at (three_again file at small h))

  -- ---- a block
  pub block_read : (a r : List ℕ) → length a ≡ 4096 → drop at file ≡ a ++ r → bytes_at file at ≡ a
  unfolding bytes_at
  block_read a r l e = rw e (take_at a r 4096 l)
