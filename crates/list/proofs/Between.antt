-- The search of a rising list for the place of a number: x goes between what is known to be below it and what is known to be above it.
-- Nothing here says where to look next.
use Prim.Native.Nat.{ℕ, ◌+◌, ◌-◌, ◌*◌, ◌≤◌, ◌<◌}
use native.Mathlib.Omega.{arith}
use mathlib.Core.Path.{◌≡◌, refl, ap, subst, ◌∙◌}
use mathlib.Core.Bool.{Bool, true, false}
use mathlib.Core.Logic.{◌⊎◌, inl, inr, ⊎_elim}
use mathlib.Core.List.{List, [], ◌∷◌, ◌++◌}
use lib.Dec.{ltb}
use borrow.Author.Tests.{ltb-true, ltb-false}
use Rattle.field.specs.Number.{le32}
use Rattle.std.specs.Prelude.{Some, None}
use Rattle.list.specs.Lists.{Rising, numbers}
use Rattle.list.specs.Insertion.{Placed}
use Rattle.list.proofs.Entries.{Passed, numbers_cut, numbers_cons, passed_start, passed_above, placed_first, placed_before, placed_there}

-- the entries before `low` are below x, those from `high` on above it
pub record Between (l : List ℕ) (n x low high : ℕ) : Type 0 where
  pub within : low ≤ high
  pub few : high ≤ n
  pub below : (low ≡ 0) ⊎ (le32 l (4 * (low - 1)) < x)
  pub above : Passed l n x high

pub between_start : (l : List ℕ) (n x : ℕ) → Between l n x 0 n
between_start l n x = record { within = omega arith; few = omega arith; below = inl refl; above = passed_start l n x }

rising_back : (a b : List ℕ) → Rising (a ++ b) → Rising b
rising_back [] b r = r
rising_back (x ∷ a) b r = rising_back a b r.1

-- an entry is below the next
next_above : (l : List ℕ) (n : ℕ) → Rising (numbers l 0 n) → (i : ℕ) → i + 1 < n → le32 l (4 * i) < le32 l (4 * (i + 1))
next_above l n rises i h =
    let back = rising_back (numbers l 0 i) (numbers l i (n - i)) (subst Rising (numbers_cut l i n (omega arith)) rises) in
    let two = numbers_cons l i n (omega arith) ∙ ap (λ (s : List ℕ). le32 l (4 * i) ∷ s) (numbers_cons l (i + 1) n h) in
    (subst Rising two back).0.0

module _ {l : List ℕ} {n x low high : ℕ} (go : Between l n x low high) where
  -- an entry in between is below x, or above it
  pub between_low : (i : ℕ) → low ≤ i → i < high → le32 l (4 * i) < x → Between l n x (i + 1) high
  between_low i p q g =
      let e : i + 1 - 1 ≡ i = omega arith in
      record { within = omega arith; few = go.few; below = inr (subst (λ (k : ℕ). le32 l (4 * k) < x) (omega arith) g); above = go.above }

  pub between_high : (i : ℕ) → low ≤ i → i < high → x < le32 l (4 * i) → Between l n x low i
  between_high i p q g =
      let few = go.few in
      record { within = p; few = omega arith; below = go.below; above = passed_above l n x i (omega arith) g }

  module _ (rises : Rising (numbers l 0 n)) where
    -- an entry in between is x
    pub between_there : (i : ℕ) → i < high → le32 l (4 * i) ≡ x → Placed l n x None
    between_there i q g =
        let few = go.few in
        let e : i + 1 - 1 ≡ i = omega arith in
        placed_there l n x rises (i + 1) (omega arith) (omega arith) (behind (ltb (i + 1) n) refl)
        (subst (λ (k : ℕ). le32 l (4 * k) ≡ x) (omega arith) g)
      where
        behind : (b : Bool) → ltb (i + 1) n ≡ b → Passed l n x (i + 1)
        behind true e =
            let more = ltb-true (i + 1) n e in
            let next = next_above l n rises i more in
            passed_above l n x (i + 1) more (omega arith)
        behind false e =
            let least = ltb-false (i + 1) n e in
            let few = go.few in
            subst (Passed l n x) (omega arith) (passed_start l n x)

    -- nothing is in between
    pub between_end : high ≤ low → Placed l n x (Some low)
    between_end h = ⊎_elim first later go.below
      where
        here : Passed l n x low
        here = let inside = go.within in subst (Passed l n x) (omega arith) go.above

        first : low ≡ 0 → Placed l n x (Some low)
        first e = subst (λ (k : ℕ). Placed l n x (Some k)) (omega arith) (placed_first l n x low (omega arith) here)

        later : le32 l (4 * (low - 1)) < x → Placed l n x (Some low)
        later g = by_zero (ltb 0 low) refl
          where
            by_zero : (b : Bool) → ltb 0 low ≡ b → Placed l n x (Some low)
            by_zero false e = let least = ltb-false 0 low e in first (omega arith)
            by_zero true e =
                let some = ltb-true 0 low e in
                let inside = go.within in
                let few = go.few in
                placed_before l n x rises low some (omega arith) here g
