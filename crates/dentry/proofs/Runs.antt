-- A run of free slots is one shorter a slot further on; a scan passes it at once, in one turn, and meets at most one run more than
-- entries. So it takes at most 2e + 1 turns for e entries.
use Prim.Native.Nat.{ℕ, zero, suc, ◌+◌, ◌-◌, ◌≤◌, ◌<◌}
use native.Mathlib.Omega.{arith}
use native.Mathlib.Nat.{zero-add}
use mathlib.Core.Path.{◌≡◌, refl, sym, ap, ap₂, ◌∙◌}
use mathlib.Core.Logic.{◌⊎◌, inl, inr}
use mathlib.Core.Bool.{true, false}
use mathlib.Core.List.{List}
use lib.Dec.{ltb}
use borrow.Author.Tests.{lt-ltb, le-ltb, eq-eqb, ne_eqb, ltb-true, ltb-false}
use Rattle.field.specs.Map.{low_bit, zeros_from}
use Rattle.field.proofs.Choosing.{either}
use Rattle.field.proofs.Maps.{low_bit_lem}
use Rattle.dentry.specs.declared.Layout.{Layout}
use Rattle.dentry.specs.declared.Slot.{Slot}
use Rattle.dentry.specs.declared.Slot.TheVariants.{Free, Match, Other, Malformed}
use Rattle.dentry.specs.Slot.{Wanted, slot_at, slots_from}
use Rattle.dentry.specs.Scan.{free_run, tally_after, tally_from, ends_run, entries_from, runs_from, turns_from, entries_in, turns_in, turns_most}
use Rattle.dentry.proofs.Cases.{bit_of, slot_free, slot_bit}

-- ---- a run from a slot on
module _ (l : Layout) (part : List ℕ) (slot : ℕ) where
  run_over : l.slots ≤ slot → free_run l part slot ≡ 0
  unfolding zeros_from
  run_over h = let p : l.slots - slot ≡ 0 = omega arith in rw p

  module _ (h : slot < l.slots) where
    to_next : l.slots - slot ≡ suc (l.slots - (slot + 1))
    to_next = omega arith

    pub run_free : low_bit part slot ≡ 0 → free_run l part slot ≡ suc (free_run l part (slot + 1))
    unfolding zeros_from
    run_free z = rw (to_next, z)

    run_used : low_bit part slot ≡ 1 → free_run l part slot ≡ 0
    unfolding zeros_from
    run_used z = rw (to_next, z)

  -- it is counted at its last slot
  ends_last : free_run l part slot ≡ 1 → ends_run l part slot ≡ 1
  ends_last e = rw (eq-eqb (free_run l part slot) 1 e)

  ends_not : (free_run l part slot ≡ 1 → ⊥) → ends_run l part slot ≡ 0
  ends_not d = rw (ne_eqb (free_run l part slot) 1 d)

-- ---- one slot of a scan
module _ (of : ℕ → ℕ) (l : Layout) (part : List ℕ) (w : Wanted) where
  tally_none : (slot : ℕ) → tally_from of l part w 0 slot ≡ 0
  unfolding tally_from
  tally_none slot = refl

  pub tally_over : (n slot : ℕ) → l.slots ≤ slot → tally_from of l part w n slot ≡ 0
  unfolding tally_from
  tally_over zero slot h = refl
  tally_over (suc n) slot h = rw (le-ltb slot l.slots h)

  tally_step : {o : Slot} (n slot : ℕ) → slot < l.slots → o ≡ slot_at l part w slot
      → tally_from of l part w (suc n) slot ≡ of slot + tally_after (tally_from of l part w n) slot o
  unfolding tally_from
  tally_step n slot h p = rw (lt-ltb slot l.slots h, p)

module _ (l : Layout) (part : List ℕ) (w : Wanted) (n slot : ℕ) (h : slot < l.slots) where
  abbrev entries : ℕ
  entries = entries_from l part w (suc n) slot

  abbrev runs : ℕ
  runs = runs_from l part w (suc n) slot

  -- a free slot: one of several of its run, or the last
  step_free : Free ≡ slot_at l part w slot
      → (entries ≡ entries_from l part w n (slot + 1)) × (runs ≡ ends_run l part slot + runs_from l part w n (slot + 1))
  step_free p =
      let bit = slot_bit l part w slot p in
      let e = tally_step (low_bit part) l part w n slot h p in
      let r = tally_step (ends_run l part) l part w n slot h p in
      (omega arith, r)

  -- an entry: one is counted, and no run
  pub step_used : {o : Slot} → o ≡ slot_at l part w slot → bit_of o ≡ 1
      → (entries ≡ 1 + tally_after (entries_from l part w n) slot o) × (runs ≡ tally_after (runs_from l part w n) slot o)
  step_used {o = o} p u =
      let bit = slot_bit l part w slot p ∙ u in
      let e = tally_step (low_bit part) l part w n slot h p in
      let r = tally_step (ends_run l part) l part w n slot h p in
      let none = run_used l part slot h bit in
      let no = ends_not l part slot (λ q. omega arith) in (
        e ∙ ap (λ (b : ℕ). b + tally_after (entries_from l part w n) slot o) bit,
        r ∙ ap (λ (b : ℕ). b + tally_after (runs_from l part w n) slot o) no ∙ zero-add _,
      )

-- ---- the bound
module _ (l : Layout) (part : List ℕ) (w : Wanted) where
  -- at most one run more than entries, none more where the first slot isn't free, and at most an entry a turn of the recursion
  abbrev Few : ℕ → ℕ → Type 0
  Few n slot =
      (runs_from l part w n slot ≤ entries_from l part w n slot + 1) × (free_run l part slot ≡ 0 → runs_from l part w n slot ≤ entries_from l part w n slot)
      × (entries_from l part w n slot ≤ n)

  few_free : (n slot : ℕ) → slot < l.slots → Free ≡ slot_at l part w slot → Few n (slot + 1) → (m : ℕ) → free_run l part (slot + 1) ≡ m → Few (suc n) slot
  few_free n slot h p few zero z =
      let run = run_free l part slot h (slot_bit l part w slot p) in
      let one = ends_last l part slot (run ∙ ap suc z) in
      let s = step_free l part w n slot h p in
      let fewer = few.1 z in
      let most = few.2 in
      (omega arith, λ none. omega arith, omega arith)
  few_free n slot h p few (suc m) z =
      let run = run_free l part slot h (slot_bit l part w slot p) in
      let more = ends_not l part slot (λ q. omega arith) in
      let s = step_free l part w n slot h p in
      let fewer = few.0 in
      let most = few.2 in
      (omega arith, λ none. omega arith, omega arith)

  few_step : (n slot : ℕ) → ((next : ℕ) → Few n next) → slot < l.slots → (o : Slot) → o ≡ slot_at l part w slot → Few (suc n) slot
  few_step n slot ih h Free p = few_free n slot h p (ih (slot + 1)) (free_run l part (slot + 1)) refl
  few_step n slot ih h (Match ino) p = let s = step_used l part w n slot h p refl in (omega arith, λ z. omega arith, omega arith)
  few_step n slot ih h (Other slots) p =
      let s = step_used l part w n slot h p refl in
      let few = (ih (slot + slots)).0 in
      let most = (ih (slot + slots)).2 in
      (omega arith, λ z. omega arith, omega arith)
  few_step n slot ih h Malformed p = let s = step_used l part w n slot h p refl in (omega arith, λ z. omega arith, omega arith)

  few_over : (n slot : ℕ) → l.slots ≤ slot → Few n slot
  few_over n slot h =
      let entries = tally_over (low_bit part) l part w n slot h in
      let runs = tally_over (ends_run l part) l part w n slot h in
      (omega arith, λ z. omega arith, omega arith)

  runs_few : (n slot : ℕ) → Few n slot
  runs_few zero slot =
      let entries = tally_none (low_bit part) l part w slot in
      let runs = tally_none (ends_run l part) l part w slot in
      (omega arith, λ z. omega arith, omega arith)
  runs_few (suc n) slot = go (runs_few n) (either (ltb slot l.slots))
    where
      go : ((next : ℕ) → Few n next) → (ltb slot l.slots ≡ true) ⊎ (ltb slot l.slots ≡ false) → Few (suc n) slot
      go ih (inl t) = few_step n slot ih (ltb-true slot l.slots t) (slot_at l part w slot) refl
      go ih (inr f) = few_over (suc n) slot (ltb-false slot l.slots f)

  pub turns_most_lem : turns_in l part w ≤ turns_most l part w
  turns_most_lem = let few = (runs_few l.slots 0).0 in omega arith

  pub entries_most : entries_in l part w ≤ l.slots
  entries_most = (runs_few l.slots 0).2

-- ---- a run at once

-- where a run begins there is a free slot, and behind it the rest of the run
module _ (l : Layout) (part : List ℕ) (slot : ℕ) where
  run_first : {r : ℕ} → free_run l part slot ≡ suc r → (slot < l.slots) × (low_bit part slot ≡ 0) × (free_run l part (slot + 1) ≡ r)
  run_first {r = r} e = go (either (ltb slot l.slots))
    where
      under : slot < l.slots → (low_bit part slot ≡ 0) ⊎ (low_bit part slot ≡ 1) → (slot < l.slots) × (low_bit part slot ≡ 0) × (free_run l part (slot + 1) ≡ r)
      under h (inl z) = let run = run_free l part slot h z in (h, z, omega arith)
      under h (inr u) = let none = run_used l part slot h u in absurd (omega arith)

      go : (ltb slot l.slots ≡ true) ⊎ (ltb slot l.slots ≡ false) → (slot < l.slots) × (low_bit part slot ≡ 0) × (free_run l part (slot + 1) ≡ r)
      go (inl t) = under (ltb-true slot l.slots t) (low_bit_lem part slot)
      go (inr f) = let none = run_over l part slot (ltb-false slot l.slots f) in absurd (omega arith)

module _ (l : Layout) (part : List ℕ) (w : Wanted) where
  -- it holds nothing
  pub slots_run : (r n slot : ℕ) → free_run l part slot ≡ r → slots_from l part w (r + n) slot ≡ slots_from l part w n (slot + r)
  unfolding slots_from
  slots_run zero n slot e =
      let p : zero + n ≡ n = omega arith in
      let q : slot + zero ≡ slot = omega arith in
      ap₂ (λ (m s : ℕ). slots_from l part w m s) p (sym q)
  slots_run (suc r) n slot e =
      let first = run_first l part slot e in
      let p : suc r + n ≡ suc (r + n) = omega arith in
      let q : slot + 1 + r ≡ slot + suc r = omega arith in
      ap (λ (m : ℕ). slots_from l part w m slot) p
      ∙ rw (lt-ltb slot l.slots first.0, slot_free l part w slot first.1)
      (slots_run r n (slot + 1) first.2 ∙ ap (λ (s : ℕ). slots_from l part w n s) q)

  -- and takes one turn
  pub turns_run : (r n slot : ℕ) → free_run l part slot ≡ suc r → turns_from l part w (suc r + n) slot ≡ 1 + turns_from l part w n (slot + suc r)
  turns_run zero n slot e =
      let first = run_first l part slot e in
      let s = step_free l part w n slot first.0 (sym (slot_free l part w slot first.1)) in
      let one = ends_last l part slot e in
      let p : suc zero + n ≡ suc n = omega arith in
      let q : slot + 1 ≡ slot + suc zero = omega arith in
      let all : turns_from l part w (suc n) slot ≡ 1 + turns_from l part w n (slot + 1) = omega arith in
      ap (λ (m : ℕ). turns_from l part w m slot) p ∙ all ∙ ap (λ (i : ℕ). 1 + turns_from l part w n i) q
  turns_run (suc r) n slot e =
      let first = run_first l part slot e in
      let s = step_free l part w (suc r + n) slot first.0 (sym (slot_free l part w slot first.1)) in
      let more = ends_not l part slot (λ q. omega arith) in
      let p : suc (suc r) + n ≡ suc (suc r + n) = omega arith in
      let q : slot + 1 + suc r ≡ slot + suc (suc r) = omega arith in
      let one : turns_from l part w (suc (suc r + n)) slot ≡ turns_from l part w (suc r + n) (slot + 1) = omega arith in
      ap (λ (m : ℕ). turns_from l part w m slot) p ∙ one ∙ turns_run r n (slot + 1) first.2 ∙ ap (λ (i : ℕ). 1 + turns_from l part w n i) q
