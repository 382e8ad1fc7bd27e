-- Pieces laid one behind the other are laid as one.
use Prim.Native.Nat.{ℕ, suc, ◌+◌, ◌%◌, ◌/◌, ◌≤◌}
use native.Mathlib.Omega.{arith}
use mathlib.Core.Path.{◌≡◌, sym, ap, ◌∙◌}
use mathlib.Core.List.{List, [], ◌∷◌, ◌++◌, append_assoc, append-nil}
use lib.ListN.{length, take, drop, take-append-drop, length-append}
use lib.Seq.{length-take-le, take_at, drop-append-add, drop-drop, sets-eq}
use Rattle.field.specs.Number.{put32_at}
use Rattle.list.specs.Lists.{bytes_of}
use Rattle.buffer.specs.Laid.{laid_at}

pub laid_none : (at : ℕ) (d : List ℕ) → laid_at at [] d ≡ d
unfolding laid_at
laid_none at d = let e : at + 0 ≡ at = omega arith in rw (e, append-nil (take at d)) (take-append-drop at d)

-- all from the start on
pub laid_first : (file d : List ℕ) → laid_at 0 file d ≡ file ++ drop (length file) d
unfolding laid_at
laid_first file d = let e : 0 + length file ≡ length file = omega arith in rw e

module _ (at : ℕ) (p d : List ℕ) (fits : at + length p ≤ length d) where
  -- what stands before the piece's end
  abbrev front : List ℕ
  front = take at d ++ p

  front_length : length front ≡ at + length p
  front_length = length-append (take at d) p ∙ rw (length-take-le at d (omega arith))

  -- a second piece right behind it
  pub laid_behind : (q : List ℕ) → laid_at (at + length p) q (laid_at at p d) ≡ laid_at at (p ++ q) d
  unfolding laid_at
  laid_behind q =
      let rest : List ℕ = drop (at + length p) d in
      let first : take (at + length p) (front ++ rest) ≡ front = take_at front rest (at + length p) front_length in
      let last : drop (at + length p + length q) (front ++ rest) ≡ drop (at + length p + length q) d =
      ap (λ (n : ℕ). drop (n + length q) (front ++ rest)) (sym front_length) ∙ drop-append-add front rest (length q)
      ∙ drop-drop (length q) (at + length p) d in
      let size : at + length (p ++ q) ≡ at + length p + length q = rw (length-append p q) (omega arith) in
      rw (first, last, size, append_assoc (take at d) p q)

-- a number stored
pub laid_number : (d : List ℕ) (at x : ℕ) → at + 4 ≤ length d → put32_at d at x ≡ laid_at at (bytes_of (x ∷ [])) d
unfolding laid_at put32_at bytes_of
laid_number d at x h =
    let e : at + 1 ≡ suc at = omega arith in
    let f : at + 2 ≡ suc (suc at) = omega arith in
    let g : at + 3 ≡ suc (suc (suc at)) = omega arith in
    rw (e, f, g) (sets-eq (x % 256 ∷ x / 256 % 256 ∷ x / 65536 % 256 ∷ x / 16777216 ∷ []) d at h)

-- ---- piece by piece

-- from an offset on of d the bytes p were laid, n of them: now e is there
pub record LaidSo (at : ℕ) (d p : List ℕ) (n : ℕ) (e : List ℕ) : Type 0 where
  pub bytes : e ≡ laid_at at p d
  pub size : length p ≡ n
  pub fits : at + n ≤ length d

-- and q behind them
pub laid_more : {at : ℕ} {d p : List ℕ} {n : ℕ} {e : List ℕ} → LaidSo at d p n e → (place : ℕ) (q : List ℕ) (m : ℕ) {f : List ℕ}
    → f ≡ laid_at place q e → place ≡ at + n → length q ≡ m → at + (n + m) ≤ length d → LaidSo at d (p ++ q) (n + m) f
laid_more {at} {d} {p} {n} {e} so place q m g here long room =
    let size = so.size in
    let starts : place ≡ at + length p = omega arith in
    record {
      bytes = g ∙ rw (starts, so.bytes) (laid_behind at p d (omega arith) q);
      size = length-append p q ∙ omega arith;
      fits = room;
    }
