-- Neighbouring indexes, fewer than 1,018 of them, lie in at most two leaves: each has the leaf of the first or of the last. A leaf is
-- told by the index of its first block, which is 0 in the inode and A + 1018 q in the nodes.
use Prim.Native.Nat.{ℕ, ◌+◌, ◌*◌, ◌/◌, ◌%◌, ◌<◌, ◌≤◌}
use native.Mathlib.Omega.{arith}
use mathlib.Core.Path.{◌≡◌, refl, sym, ap, ◌∙◌}
use mathlib.Core.Bool.{Bool, true, false}
use mathlib.Core.Logic.{◌⊎◌, inl, inr, ⊎_elim}
use lib.Dec.{eqb}
use borrow.Author.Tests.{eqb-true, eqb-false}
use Rattle.place.specs.declared.Place.{Place}
use Rattle.place.specs.declared.Place.TheVariants.{Inode, Direct, Indirect, Double, Past}
use Rattle.place.specs.Place.{place_of, last_index, index_of, SlotsIn}
use Rattle.place.specs.Leaf.{leaf_of}
use Rattle.place.proofs.Inverse.{cases, slots_in, place_of_index}

-- the index of the first block of a place's leaf
abbrev first_of : ℕ → Place → ℕ
first_of A p = index_of A (leaf_of p)

first_in : (A : ℕ) (p : Place) → SlotsIn A p → SlotsIn A (leaf_of p)
first_in A (Inode s) h = omega arith
first_in A (Direct n s) h = (h.0, omega arith)
first_in A (Indirect n k s) h = (h.0, h.1, omega arith)
first_in A (Double n k s) h = (h.0, h.1, omega arith)
first_in A Past h = tt

-- it tells the leaf
first_leaf : (A index : ℕ) → place_of A (first_of A (place_of A index)) ≡ leaf_of (place_of A index)
first_leaf A index = place_of_index A (leaf_of (place_of A index)) (first_in A (place_of A index) (slots_in A index))

-- where an index lies, and where its leaf begins
data Lies (A index first : ℕ) : Type 0 where
  in_inode : index < A → first ≡ 0 → Lies A index first
  in_node : (q : ℕ) → first ≡ A + 1018 * q → first ≤ index → index < first + 1018 → index ≤ last_index A → Lies A index first
  beyond : last_index A < index → first ≡ A + 1057052516 → Lies A index first

lies : (A index : ℕ) → Lies A index (first_of A (place_of A index))
lies A index =
    cases (λ p. Lies A index (first_of A p)) A index (λ l. in_inode l refl)
    (λ i e l. in_node (i / 1018) (omega arith) (omega arith) (omega arith) (omega arith))
    (λ i e l. in_node (2 + (1018 * (i / 1036324) + i % 1036324 / 1018)) (omega arith) (omega arith) (omega arith) (omega arith))
    (λ i e l. in_node (2038 + (1018 * (i / 1036324) + i % 1036324 / 1018)) (omega arith) (omega arith) (omega arith) (omega arith))
    (λ l. beyond (omega arith) refl)

-- of three indexes in a row, the last less than 1,018 behind the first, the middle one's leaf is the first one's or the last one's
middle : (A i j k a b c : ℕ) → i ≤ j → j ≤ k → k < i + 1018 → Lies A i a → Lies A j b → Lies A k c → (b ≡ a) ⊎ (b ≡ c)
middle A i j k a b c p q r (in_inode h e) (in_inode h' e') z = inl (omega arith)
middle A i j k a b c p q r (in_inode h e) (in_node n f g l m) (in_node n' f' g' l' m') = inr (omega arith)
middle A i j k a b c p q r (in_inode h e) (in_node n f g l m) (in_inode h' e') = absurd (omega arith)
middle A i j k a b c p q r (in_inode h e) (in_node n f g l m) (beyond h' e') = absurd (omega arith)
middle A i j k a b c p q r (in_inode h e) (beyond h' e') z = absurd (omega arith)
middle A i j k a b c p q r (in_node n f g l m) (in_inode h e) z = absurd (omega arith)
middle A i j k a b c p q r (in_node n f g l m) (in_node n' f' g' l' m') (in_inode h e) = absurd (omega arith)
middle A i j k a b c p q r (in_node n f g l m) (in_node n' f' g' l' m') (in_node n'' f'' g'' l'' m'') = go (eqb b a) refl
  where
    go : (t : Bool) → eqb b a ≡ t → (b ≡ a) ⊎ (b ≡ c)
    go true e = inl (eqb-true b a e)
    go false e = let d = eqb-false b a e in inr (omega arith)
middle A i j k a b c p q r (in_node n f g l m) (in_node n' f' g' l' m') (beyond h e) = inl (omega arith)
middle A i j k a b c p q r (in_node n f g l m) (beyond h e) (in_inode h' e') = absurd (omega arith)
middle A i j k a b c p q r (in_node n f g l m) (beyond h e) (in_node n' f' g' l' m') = absurd (omega arith)
middle A i j k a b c p q r (in_node n f g l m) (beyond h e) (beyond h' e') = inr (omega arith)
middle A i j k a b c p q r (beyond h e) (in_inode h' e') z = absurd (omega arith)
middle A i j k a b c p q r (beyond h e) (in_node n f g l m) z = absurd (omega arith)
middle A i j k a b c p q r (beyond h e) (beyond h' e') z = inl (omega arith)

pub two_leaves : (A i j k : ℕ) → i ≤ j → j ≤ k → k < i + 1018
    → (leaf_of (place_of A j) ≡ leaf_of (place_of A i)) ⊎ (leaf_of (place_of A j) ≡ leaf_of (place_of A k))
two_leaves A i j k p q r = ⊎_elim (λ e. inl (same i e)) (λ e. inr (same k e)) (middle A i j k _ _ _ p q r (lies A i) (lies A j) (lies A k))
  where
    same : (h : ℕ) → first_of A (place_of A j) ≡ first_of A (place_of A h) → leaf_of (place_of A j) ≡ leaf_of (place_of A h)
    same h e = sym (first_leaf A j) ∙ ap (place_of A) e ∙ first_leaf A h
