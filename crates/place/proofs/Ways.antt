-- What code that follows a way needs to know of it: the array gives the steps back, and each slot is one that there is.
-- Each law goes through the five kinds of places once.
use mathlib.Core.Path.{◌≡◌, refl, ap, ◌∙◌}
use Prim.Native.Nat.{ℕ, zero, suc, ◌+◌, ◌≤◌, ◌<◌}
use native.Mathlib.Omega.{arith}
use mathlib.Core.List.{List, [], ◌∷◌, ◌++◌}
use lib.ListN.{length, take, drop, get_or}
use Rattle.place.specs.declared.Place.{Place}
use Rattle.place.specs.declared.Place.TheVariants.{Inode, Direct, Indirect, Double, Past}
use Rattle.place.specs.declared.Step.{Step}
use Rattle.place.specs.declared.Way.{Way}
use Rattle.place.specs.Place.{place_of, SlotsIn}
use Rattle.place.specs.Way.{step, way_of, in_array}
use Rattle.place.proofs.Inverse.{slots_in}

-- the steps of a way in the code's array
abbrev pub steps_of : Way → List Step
steps_of w = take w.count w.steps

-- the slot of a step of the array
abbrev pub slot_at : Way → ℕ → ℕ
slot_at w k = (get_or w.steps k (step 0 0)).slot

-- up to four nodes written over an array of zeros
pub over_zeros : (nodes : List Step) → length nodes ≤ 4
    → nodes ++ drop (length nodes) (step 0 0 ∷ step 0 0 ∷ step 0 0 ∷ step 0 0 ∷ []) ≡ (in_array nodes).steps
over_zeros [] h = refl
over_zeros (a ∷ []) h = refl
over_zeros (a ∷ b ∷ []) h = refl
over_zeros (a ∷ b ∷ c ∷ []) h = refl
over_zeros (a ∷ b ∷ c ∷ d ∷ []) h = refl
over_zeros (a ∷ b ∷ c ∷ d ∷ e ∷ rest) h = absurd (omega arith)

steps_back : (p : Place) → steps_of (in_array (way_of p)) ≡ way_of p
steps_back (Inode s) = refl
steps_back (Direct n s) = refl
steps_back (Indirect n k s) = refl
steps_back (Double n k s) = refl
steps_back Past = refl

few : (p : Place) → ((in_array (way_of p)).count ≤ 4) × (length (in_array (way_of p)).steps ≡ 4)
few (Inode s) = (omega arith, refl)
few (Direct n s) = (omega arith, refl)
few (Indirect n k s) = (omega arith, refl)
few (Double n k s) = (omega arith, refl)
few Past = (omega arith, refl)

-- the slots of the nodes on the way
node_slots : (A : ℕ) (p : Place) → SlotsIn A p → (k : ℕ) → 1 ≤ k → k < (in_array (way_of p)).count → slot_at (in_array (way_of p)) k < 1018
node_slots A (Inode s) h k a b = absurd (omega arith)
node_slots A (Direct n s) h zero a b = absurd (omega arith)
node_slots A (Direct n s) h (suc zero) a b = h.1
node_slots A (Direct n s) h (suc (suc k)) a b = absurd (omega arith)
node_slots A (Indirect n m s) h zero a b = absurd (omega arith)
node_slots A (Indirect n m s) h (suc zero) a b = h.1
node_slots A (Indirect n m s) h (suc (suc zero)) a b = h.2
node_slots A (Indirect n m s) h (suc (suc (suc k))) a b = absurd (omega arith)
node_slots A (Double n m s) h zero a b = absurd (omega arith)
node_slots A (Double n m s) h (suc zero) a b = h.0
node_slots A (Double n m s) h (suc (suc zero)) a b = h.1
node_slots A (Double n m s) h (suc (suc (suc zero))) a b = h.2
node_slots A (Double n m s) h (suc (suc (suc (suc k)))) a b = absurd (omega arith)
node_slots A Past h k a b = absurd (omega arith)

-- the slot in the inode: of an address, where that is all of the way, or of a node number
inode_slot : (A : ℕ) (p : Place) → SlotsIn A p → slot_at (in_array (way_of p)) 0 < A + 5
inode_slot A (Inode s) h = omega arith
inode_slot A (Direct n s) h = omega arith
inode_slot A (Indirect n k s) h = omega arith
inode_slot A (Double n k s) h = omega arith
inode_slot A Past h = omega arith

number_slot : (A : ℕ) (p : Place) → SlotsIn A p → 2 ≤ (in_array (way_of p)).count → slot_at (in_array (way_of p)) 0 < 5
number_slot A (Inode s) h e = absurd (omega arith)
number_slot A (Direct n s) h e = omega arith
number_slot A (Indirect n k s) h e = omega arith
number_slot A (Double n k s) h e = omega arith
number_slot A Past h e = absurd (omega arith)

-- the same of what `find_way` gives
module _ (A index : ℕ) {w : Way} (e : w ≡ in_array (way_of (place_of A index))) where
  pub way_steps : steps_of w ≡ way_of (place_of A index)
  way_steps = ap steps_of e ∙ steps_back (place_of A index)

  pub way_few : (w.count ≤ 4) × (length w.steps ≡ 4)
  way_few = rw e (few (place_of A index))

  pub way_node_slots : (k : ℕ) → 1 ≤ k → k < w.count → slot_at w k < 1018
  way_node_slots = rw e (node_slots A (place_of A index) (slots_in A index))

  pub way_inode_slot : slot_at w 0 < A + 5
  way_inode_slot = rw e (inode_slot A (place_of A index) (slots_in A index))

  pub way_number_slot : 2 ≤ w.count → slot_at w 0 < 5
  way_number_slot = rw e (number_slot A (place_of A index) (slots_in A index))
