-- What a slot is, case by case.
use Prim.Native.Nat.{ℕ, ◌+◌, ◌*◌, ◌≤◌}
use native.Mathlib.Omega.{arith}
use mathlib.Core.Path.{◌≡◌, refl, sym, ap, ◌∙◌}
use mathlib.Core.Logic.{◌⊎◌, inl, inr}
use mathlib.Core.Bool.{Bool, true, false, and-false}
use mathlib.Core.List.{List}
use lib.ListN.{length}
use lib.Dec.{eqb}
use borrow.Author.Tests.{eq-eqb, ne_eqb}
use Rattle.field.specs.Number.{le32}
use Rattle.field.specs.Map.{low_bit}
use Rattle.field.specs.Choice.{choose}
use Rattle.field.specs.Bytes.{same_at}
use Rattle.field.proofs.Choosing.{needed_le}
use Rattle.field.proofs.Maps.{low_bit_lem}
use Rattle.dentry.specs.declared.Layout.{Layout}
use Rattle.dentry.specs.declared.Slot.{Slot}
use Rattle.dentry.specs.declared.Slot.TheVariants.{Free, Match, Other, Malformed}
use Rattle.dentry.specs.Slot.{Wanted, entry_at, length_in, slots_for, well_formed, matches, slot_at}

-- ---- one slot, in the order of its tests
module _ (l : Layout) (part : List ℕ) (w : Wanted) (slot : ℕ) where
  pub slot_free : low_bit part slot ≡ 0 → slot_at l part w slot ≡ Free
  unfolding slot_at
  slot_free z = rw (eq-eqb (low_bit part slot) 0 z)

  pub slot_malformed : {size : ℕ} → (low_bit part slot ≡ 0 → ⊥) → size ≡ length_in part slot → well_formed l slot size ≡ false
      → slot_at l part w slot ≡ Malformed
  unfolding slot_at
  slot_malformed used e f = rw (ne_eqb (low_bit part slot) 0 used, ← e, f)

-- a slot in which a well-formed entry starts
pub record Formed (l : Layout) (part : List ℕ) (slot size : ℕ) : Type 0 where
  pub used : low_bit part slot ≡ 0 → ⊥
  pub sized : size ≡ length_in part slot
  pub fits : well_formed l slot size ≡ true

module _ {l : Layout} {part : List ℕ} (w : Wanted) {slot size : ℕ} (here : Formed l part slot size) where
  by_match : slot_at l part w slot ≡ choose (matches l part w slot) (Match (le32 part (entry_at slot + 4))) (Other (slots_for size))
  unfolding slot_at
  by_match = rw (ne_eqb (low_bit part slot) 0 here.used, ← here.sized, here.fits)

  module _ {hash : ℕ} (p : hash ≡ le32 part (entry_at slot)) where
    pub other_hash : (hash ≡ w.hash → ⊥) → slot_at l part w slot ≡ Other (slots_for size)
    unfolding matches
    other_hash d = by_match ∙ rw (← p, ne_eqb hash w.hash d)

    module _ (q : hash ≡ w.hash) where
      pub other_length : (size ≡ length w.name → ⊥) → slot_at l part w slot ≡ Other (slots_for size)
      unfolding matches
      other_length d = by_match ∙ rw (← p, eq-eqb hash w.hash q, ← here.sized, ne_eqb size (length w.name) d)

      module _ (e : size ≡ length w.name) {same : Bool} (s : same ≡ same_at part (l.names + 8 * slot) w.name) where
        by_bytes : matches l part w slot ≡ same
        unfolding matches
        by_bytes = rw (← p, eq-eqb hash w.hash q, ← here.sized, eq-eqb size (length w.name) e, ← s)

        pub other_bytes : same ≡ false → slot_at l part w slot ≡ Other (slots_for size)
        other_bytes f = by_match ∙ rw (by_bytes, f)

        pub slot_match : same ≡ true → {ino : ℕ} → ino ≡ le32 part (entry_at slot + 4) → slot_at l part w slot ≡ Match ino
        slot_match f i = by_match ∙ rw (by_bytes, f, ← i)

-- what a well-formed entry's test says
pub formed : (l : Layout) (slot size : ℕ) → well_formed l slot size ≡ true → (1 ≤ size) × (slot + slots_for size ≤ l.slots)
unfolding well_formed
formed l slot size h = (needed_le (λ e. rw e) h, needed_le (λ e. rw (e, and-false _)) h)

-- where the choices end at `Other`, the entry is well-formed
other_tests : (free formed same : Bool) (n m ino : ℕ)
    → Other n ≡ choose free Free (choose formed (choose same (Match ino) (Other m)) Malformed) → (formed ≡ true) × (n ≡ m)
other_tests true f s n m i p = let z : ◌≡◌ {A = ℕ} 0 1 = cc in absurd (omega arith)
other_tests false false s n m i p = let z : ◌≡◌ {A = ℕ} 0 1 = cc in absurd (omega arith)
other_tests false true true n m i p = let z : ◌≡◌ {A = ℕ} 0 1 = cc in absurd (omega arith)
other_tests false true false n m i p = (refl, cc)

-- an entry that is passed has a slot at least, and all of them lie before the end
pub other_bounds_lem : (l : Layout) (part : List ℕ) (w : Wanted) (slot n : ℕ) → Other n ≡ slot_at l part w slot → (1 ≤ n) × (slot + n ≤ l.slots)
unfolding slot_at
other_bounds_lem l part w slot n p =
    let size = length_in part slot in
    let t = other_tests (eqb (low_bit part slot) 0) (well_formed l slot size) (matches l part w slot) n (slots_for size) (le32 part (entry_at slot + 4)) p in
    let f = formed l slot size t.0 in
    let q : n ≡ slots_for size = t.1 in
    omega arith

-- ---- its bit, which is set in all cases but one
abbrev pub bit_of : Slot → ℕ
bit_of Free = 0
bit_of (Match ino) = 1
bit_of (Other slots) = 1
bit_of Malformed = 1

set_bit : (formed same : Bool) (m ino : ℕ) → bit_of (choose formed (choose same (Match ino) (Other m)) Malformed) ≡ 1
set_bit true true m i = refl
set_bit true false m i = refl
set_bit false s m i = refl

pub slot_bit : (l : Layout) (part : List ℕ) (w : Wanted) (slot : ℕ) {o : Slot} → o ≡ slot_at l part w slot → low_bit part slot ≡ bit_of o
unfolding slot_at
slot_bit l part w slot p = go (low_bit_lem part slot) ∙ ap bit_of (sym p)
  where
    size : ℕ
    size = length_in part slot

    go : (low_bit part slot ≡ 0) ⊎ (low_bit part slot ≡ 1) → low_bit part slot ≡ bit_of (slot_at l part w slot)
    go (inl z) = rw (eq-eqb (low_bit part slot) 0 z, z)
    go (inr u) =
        let used : low_bit part slot ≡ 0 → ⊥ = λ z. omega arith in
        rw (ne_eqb (low_bit part slot) 0 used, u)
        (sym (set_bit (well_formed l slot size) (matches l part w slot) (slots_for size) (le32 part (entry_at slot + 4))))
