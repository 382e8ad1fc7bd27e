-- Numbers that stand a width apart, as a loop sees them: at turn i of n it stands at an offset, and `column w l at (n - i)` is left.
use Prim.Native.Nat.{ℕ, suc, ◌+◌, ◌-◌, ◌*◌, ◌≤◌, ◌<◌}
use mathlib.Core.Path.{◌≡◌, sym, ap}
use mathlib.Core.List.{List, [], ◌∷◌}
use native.Mathlib.Nat.{mul-zero, mul-suc, mul-le-mul_left}
use native.Mathlib.Numerals.{add-one}
use native.Mathlib.Omega.{arith}
use Rattle.field.specs.Number.{le32}
use Rattle.list.specs.Lists.{numbers, column}
use Rattle.list.proofs.Written.{column_numbers}

-- entries are the numbers four bytes apart
pub numbers_column : (l : List ℕ) (i k : ℕ) → numbers l i k ≡ column 4 l (4 * i) k
numbers_column l i k = let e : 0 + 4 * i ≡ 4 * i = omega arith in sym (rw e at (column_numbers l 0 i k))

-- ---- offsets
module _ (w i : ℕ) where
  -- one more is one width on
  pub width_next : w * (i + 1) ≡ w * i + w
  width_next = rw (add-one i) (mul-suc w i)

  pub offset_next : (s : ℕ) → s + w * (i + 1) ≡ s + w * i + w
  offset_next s = omega (arith, width_next)

  -- each of n lies inside the n widths
  width_inside : (n : ℕ) → i < n → w * i + w ≤ w * n
  width_inside n h = omega (arith, width_next, mul-le-mul_left {m = i + 1} {n = n} w (omega arith))

-- a loop over n numbers, the first at s: turn i stands at `at`
pub record Turn (s w n i at : ℕ) : Type 0 where
  pub within : i ≤ n
  pub stands : at ≡ s + w * i

pub turn_first : (s w n : ℕ) → Turn s w n 0 s
turn_first s w n = record { within = omega arith; stands = omega (arith, mul-zero w) }

module _ {s w n i at : ℕ} (t : Turn s w n i at) (h : i < n) where
  pub turn_inside : at + w ≤ s + w * n
  turn_inside = omega (arith, width_inside w i n h)

  pub turn_next : Turn s w n (i + 1) (at + w)
  turn_next = record { within = omega arith; stands = omega (arith, offset_next w i s) }

module _ (w : ℕ) (l : List ℕ) where
  -- ---- the turns

  -- before the first turn all are left
  pub column_starts : (at n : ℕ) → column w l at (n - 0) ≡ column w l at n
  column_starts at n = let e : n - 0 ≡ n = omega arith in ap (column w l at) e

  -- at a turn: the number that stands here, and what is left a width on
  pub column_next : (at on : ℕ) → on ≡ at + w → (i n : ℕ) → i < n → column w l at (n - i) ≡ le32 l at ∷ column w l on (n - (i + 1))
  unfolding column
  column_next at on e i n h = let f : n - i ≡ suc (n - (i + 1)) = omega arith in rw (e, f)

  pub column_over : (at i n : ℕ) → n ≤ i → column w l at (n - i) ≡ []
  unfolding column
  column_over at i n h = let e : n - i ≡ 0 = omega arith in ap (column w l at) e

  -- the same, by the turn's number
  pub column_first : (s n : ℕ) → column w l (s + w * 0) (n - 0) ≡ column w l s n
  column_first s n = let e : s + w * 0 ≡ s = omega (arith, mul-zero w) in rw e (column_starts s n)
