-- The loops turn by turn: the test of a column's numbers, and the test that they rise.
-- At turn i of n the numbers of `column w l at (n - i)` are left, and number i stands there.
use mathlib.Core.Path.{◌≡◌, refl, sym, ap, ◌∙◌}
use mathlib.Core.Bool.{Bool, true, false}
use mathlib.Core.List.{List, [], ◌∷◌}
use Prim.Native.Nat.{ℕ, zero, suc, ◌+◌, ◌-◌, ◌*◌, ◌≤◌, ◌<◌}
use native.Mathlib.Nat.{mul-zero, mul-suc}
use native.Mathlib.Omega.{arith}
use borrow.Author.Tests.{lt-ltb, le-ltb}
use Rattle.field.specs.Number.{le32}
use Rattle.field.specs.Choice.{choose}
use Rattle.list.specs.Lists.{AllOf, column}
use Rattle.list.proofs.Columns.{column_first, column_next, column_over, offset_next}
use Rattle.compare.specs.Lists.{rising_after, is_rising}
use Rattle.list.specs.Search.{searched}
use Rattle.list.proofs.Searching.{none_left, passed, failed}

-- ---- a search
module _ {A : Type 0} (test : ℕ → Bool) (found : ℕ → A) (other : A) (w : ℕ) (l : List ℕ) (s n : ℕ) where
  -- what the search of the numbers from number i on comes to
  abbrev pub Left : ℕ → A
  Left i = searched test found other (column w l (s + w * i) (n - i))

  pub search_starts : searched test found other (column w l s n) ≡ Left 0
  search_starts = rw (column_first w l s n)

  pub search_over : (i : ℕ) → n ≤ i → Left i ≡ other
  search_over i h = rw (column_over w l (s + w * i) i n h) (none_left test found other)

  -- r is whether number i passes
  module _ (i : ℕ) (h : i < n) {r : Bool} (t : r ≡ test (le32 l (s + w * i))) where
    pub search_on : r ≡ true → Left i ≡ Left (i + 1)
    search_on p = rw (column_next w l (s + w * i) (s + w * (i + 1)) (offset_next w i s) i n h) (passed test found other _ (sym t ∙ p))

    pub search_stops : r ≡ false → Left i ≡ found (le32 l (s + w * i))
    search_stops p = rw (column_next w l (s + w * i) (s + w * (i + 1)) (offset_next w i s) i n h) (failed test found other _ (sym t ∙ p))

-- what holds of all numbers holds of number i
pub all_at : (P : ℕ → Type 0) (w : ℕ) (l : List ℕ) (s n : ℕ) → AllOf P (column w l s n) → (i : ℕ) → i < n → P (le32 l (s + w * i))
unfolding column
all_at P w l s zero a i h = absurd (omega arith)
all_at P w l s (suc n) a zero h = let e : s + w * 0 ≡ s = omega (arith, mul-zero w) in rw e a.0
all_at P w l s (suc n) a (suc i) h =
    let e : s + w * suc i ≡ s + w + w * i = omega (arith, mul-suc w i) in
    rw e (all_at P w l (s + w) n a.1 i (omega arith))

-- what is found may be looked at afterwards
choose_then : {A B : Type 0} (f : A → B) (t : Bool) (a b : A) → f (choose t a b) ≡ choose t (f a) (f b)
choose_then f true a b = refl
choose_then f false a b = refl

pub searched_then : {A B : Type 0} (f : A → B) (test : ℕ → Bool) (found : ℕ → A) (other : A) (l : List ℕ)
    → f (searched test found other l) ≡ searched test (λ x. f (found x)) (f other) l
unfolding searched
searched_then f test found other [] = refl
searched_then {B = B} f test found other (x ∷ xs) =
    choose_then f (test x) _ _ ∙ ap (λ (y : B). choose (test x) y (f (found x))) (searched_then f test found other xs)

-- ---- rising
module _ (w : ℕ) (l : List ℕ) (s n : ℕ) where
  pub rises_empty : n ≡ 0 → is_rising (column w l s n) ≡ true
  unfolding column is_rising
  rises_empty e = rw e

  -- what is left after number i - 1, which is x
  abbrev pub RisesOn : ℕ → ℕ → Bool
  RisesOn x i = rising_after x (column w l (s + w * i) (n - i))

  pub rises_first : (n ≡ 0 → ⊥) → {x : ℕ} → x ≡ le32 l (s + w * 0) → is_rising (column w l s n) ≡ RisesOn x 1
  unfolding is_rising
  rises_first z e = rw (← column_first w l s n, column_next w l (s + w * 0) (s + w * 1) (offset_next w 0 s) 0 n (omega arith), ← e)

  module _ (i x : ℕ) where
    pub rises_over : n ≤ i → RisesOn x i ≡ true
    unfolding rising_after
    rises_over h = rw (column_over w l (s + w * i) i n h)

    module _ (h : i < n) {y : ℕ} (e : y ≡ le32 l (s + w * i)) where
      pub rises_on : x < y → RisesOn x i ≡ RisesOn y (i + 1)
      unfolding rising_after
      rises_on p = rw (column_next w l (s + w * i) (s + w * (i + 1)) (offset_next w i s) i n h, ← e, lt-ltb x y p)

      pub rises_stops : y ≤ x → RisesOn x i ≡ false
      unfolding rising_after
      rises_stops p = rw (column_next w l (s + w * i) (s + w * (i + 1)) (offset_next w i s) i n h, ← e, le-ltb x y p)
