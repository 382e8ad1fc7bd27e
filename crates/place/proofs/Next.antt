-- The next index of the same leaf: as long as the leaf has a further slot, the index behind a place's is the next slot's.
use mathlib.Core.Path.{◌≡◌, refl, sym, ap, ◌∙◌}
use Prim.Native.Nat.{ℕ, ◌+◌, ◌<◌}
use native.Mathlib.Omega.{arith}
use Rattle.place.specs.declared.Place.{Place}
use Rattle.place.specs.declared.Place.TheVariants.{Inode, Direct, Indirect, Double, Past}
use Rattle.place.specs.Place.{place_of, index_of, SlotsIn}
use Rattle.place.specs.Leaf.{leaf_of, slot_of, slots_of, next_slot}
use Rattle.place.proofs.Inverse.{cases, slots_in, place_of_index}

-- ---- what stays and what doesn't, from a slot to the next
pub next_leaf : (p : Place) → leaf_of (next_slot p) ≡ leaf_of p
next_leaf (Inode s) = refl
next_leaf (Direct n s) = refl
next_leaf (Indirect n k s) = refl
next_leaf (Double n k s) = refl
next_leaf Past = refl

pub next_slots : (A : ℕ) (p : Place) → slots_of A (next_slot p) ≡ slots_of A p
next_slots A (Inode s) = refl
next_slots A (Direct n s) = refl
next_slots A (Indirect n k s) = refl
next_slots A (Double n k s) = refl
next_slots A Past = refl

module _ (A : ℕ) where
  pub next_slot_lem : (p : Place) → slot_of p + 1 < slots_of A p → slot_of (next_slot p) ≡ slot_of p + 1
  next_slot_lem (Inode s) h = refl
  next_slot_lem (Direct n s) h = refl
  next_slot_lem (Indirect n k s) h = refl
  next_slot_lem (Double n k s) h = refl
  next_slot_lem Past h = absurd (omega arith)

  next_in : (p : Place) → SlotsIn A p → slot_of p + 1 < slots_of A p → SlotsIn A (next_slot p)
  next_in (Inode s) g h = h
  next_in (Direct n s) g h = (g.0, h)
  next_in (Indirect n k s) g h = (g.0, g.1, h)
  next_in (Double n k s) g h = (g.0, g.1, h)
  next_in Past g h = tt

  next_index : (p : Place) → slot_of p + 1 < slots_of A p → index_of A (next_slot p) ≡ index_of A p + 1
  next_index (Inode s) h = refl
  next_index (Direct n s) h = omega arith
  next_index (Indirect n k s) h = omega arith
  next_index (Double n k s) h = omega arith
  next_index Past h = absurd (omega arith)

  -- behind the last index there is no slot, so a place with a further one leads back to its index
  index_back : (index : ℕ) → let p = place_of A index in slot_of p + 1 < slots_of A p → index_of A p ≡ index
  index_back index =
      cases (λ p. slot_of p + 1 < slots_of A p → index_of A p ≡ index) A index (λ l h. refl) (λ i e l h. omega arith) (λ i e l h. omega arith)
      (λ i e l h. omega arith) (λ l h. absurd (omega arith))

  pub next_place : (index : ℕ) → let p = place_of A index in slot_of p + 1 < slots_of A p → place_of A (index + 1) ≡ next_slot p
  next_place index h =
      let p = place_of A index in
      let next : index + 1 ≡ index_of A (next_slot p) = sym (next_index p h ∙ ap (λ (i : ℕ). i + 1) (index_back index h)) in
      ap (place_of A) next ∙ place_of_index A (next_slot p) (next_in p (slots_in A index) h)
