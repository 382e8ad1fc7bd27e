-- The search of entries, step by step and what it comes to, so that no caller opens `search_from`.
use mathlib.Core.Path.{◌≡◌}
use mathlib.Core.List.{List}
use mathlib.Core.Logic.{⊎_elim}
use mathlib.Core.Bool.{true, false}
use Rattle.std.specs.Prelude.{Some, None}
use Prim.Native.Nat.{ℕ, zero, suc, ◌+◌, ◌-◌, ◌*◌, ◌≤◌, ◌<◌}
use native.Mathlib.Omega.{arith}
use native.Mathlib.Nat.{mul-suc, mul-le-mul_left}
use lib.Dec.{eqb}
use borrow.Author.Tests.{eq-eqb, ne_eqb, eqb-true, eqb-false}
use Rattle.field.specs.Number.{le16}
use Rattle.field.proofs.Choosing.{either}
use Rattle.journal.specs.Journal.{entry_start, number_of, search_from, journal_find}

-- ---- entry by entry, as the code goes
module _ (width : ℕ) (journal : List ℕ) (number : ℕ) {count i : ℕ} where
  pub search_found : i < count → number_of width journal i ≡ number
      → search_from width journal number (count - i) i ≡ Some (entry_start width i)
  unfolding search_from
  search_found h e = let more : count - i ≡ suc (count - (i + 1)) = omega arith in rw (more, eq-eqb _ _ e)

  pub search_passed : i < count → (number_of width journal i ≡ number → ⊥)
      → search_from width journal number (count - i) i ≡ search_from width journal number (count - (i + 1)) (i + 1)
  unfolding search_from
  search_passed h n = let more : count - i ≡ suc (count - (i + 1)) = omega arith in rw (more, ne_eqb _ _ n)

  pub search_over : count ≤ i → search_from width journal number (count - i) i ≡ None
  unfolding search_from
  search_over h = let none : count - i ≡ 0 = omega arith in rw none

pub ruleset search_steps = (search_found, search_passed, search_over)

-- ---- what the search of k entries from entry i on came to
module _ (width : ℕ) (journal : List ℕ) (number : ℕ) where
  -- an entry that has the number and is one of them
  pub record Found (k i at : ℕ) : Type 0 where
    pub entry : ℕ
    pub below : entry < i + k
    pub starts : at ≡ entry_start width entry
    pub named : number_of width journal entry ≡ number

  pub found_entry : (k i at : ℕ) → search_from width journal number k i ≡ Some at → Found k i at
  unfolding search_from
  found_entry zero i at e = let z : ◌≡◌ {A = ℕ} 0 1 = cc in absurd (omega arith)
  found_entry (suc k) i at e =
      ⊎_elim (λ (t : eqb (number_of width journal i) number ≡ true).
      let here : Some (entry_start width i) ≡ Some at = rw t at e in
      record { entry = i; below = omega arith; starts = cc; named = eqb-true _ _ t })
      (λ (t : eqb (number_of width journal i) number ≡ false).
      let later : search_from width journal number k (i + 1) ≡ Some at = rw t at e in
      let f = found_entry k (i + 1) at later in
      record { entry = f.entry; below = omega (arith, f.below); starts = f.starts; named = f.named })
      (either (eqb (number_of width journal i) number))

  -- if there is one, the search finds one
  pub absent_entry : (k i : ℕ) → search_from width journal number k i ≡ None → (j : ℕ) → i ≤ j → j < i + k → number_of width journal j ≡ number → ⊥
  unfolding search_from
  absent_entry zero i e j l m n = omega arith
  absent_entry (suc k) i e j l m n =
      ⊎_elim (λ (t : eqb (number_of width journal i) number ≡ true).
      let here : Some (entry_start width i) ≡ None = rw t at e in
      let z : ◌≡◌ {A = ℕ} 0 1 = cc in omega arith)
      (λ (t : eqb (number_of width journal i) number ≡ false).
      let later : search_from width journal number k (i + 1) ≡ None = rw t at e in
      let other : i ≡ j → ⊥ = λ s. eqb-false (number_of width journal i) number t (rw s n) in
      absent_entry k (i + 1) later j (omega arith) (omega arith) n)
      (either (eqb (number_of width journal i) number))

-- an entry that is found lies among those that are counted
pub found_inside : (width : ℕ) (journal : List ℕ) (number at : ℕ) → journal_find width journal number ≡ Some at
    → at + width ≤ entry_start width (le16 journal 0)
unfolding journal_find
found_inside width journal number at e =
    let f = found_entry width journal number (le16 journal 0) 0 at e in
    let starts : at ≡ 2 + width * f.entry = f.starts in
    let further : width * suc f.entry ≡ width * f.entry + width = mul-suc width f.entry in
    let most : width * suc f.entry ≤ width * le16 journal 0 = mul-le-mul_left width (omega (arith, f.below)) in
    omega arith
