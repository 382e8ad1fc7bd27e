-- Place and index lead to each other, so no two indexes share a place and every place with slots that there are has its index.
-- Each law goes through the four tests of `place_of` once, by `cases`.
use mathlib.Core.Path.{◌≡◌, refl, sym, ap, ◌∙◌}
use mathlib.Core.Bool.{Bool, true, false}
use Prim.Native.Nat.{ℕ, ◌+◌, ◌-◌, ◌*◌, ◌/◌, ◌%◌, ◌<◌, ◌≤◌}
use native.Mathlib.Omega.{arith}
use lib.Dec.{ltb}
use borrow.Author.Tests.{ltb-true, ltb-false}
use Rattle.field.specs.Choice.{choose}
use Rattle.place.specs.declared.Place.{Place}
use Rattle.place.specs.declared.Place.TheVariants.{Inode, Direct, Indirect, Double, Past}
use Rattle.place.specs.Place.{place_of, last_index, index_of, SlotsIn, NodesIn}

-- what holds of one thing where a test is true, and of the other where it is false, holds of the choice
by_test : (P : Place → Type 0) (m n : ℕ) (p q : Place) → (m < n → P p) → (n ≤ m → P q) → P (choose (ltb m n) p q)
by_test P m n p q f g = go (ltb m n) refl
  where
    go : (b : Bool) → ltb m n ≡ b → P (choose b p q)
    go true e = f (ltb-true m n e)
    go false e = g (ltb-false m n e)

-- what holds of the place of an index, kind by kind, holds of `place_of`
pub cases : (P : Place → Type 0) (A index : ℕ)
    → (index < A → P (Inode index))
    → ((i : ℕ) → index ≡ A + i → i < 2036 → P (Direct (i / 1018) (i % 1018)))
    → ((i : ℕ) → index ≡ A + 2036 + i → i < 2072648 → P (Indirect (i / 1036324) (i % 1036324 / 1018) (i % 1018)))
    → ((i : ℕ) → index ≡ A + 2074684 + i → i < 1054977832 → P (Double (i / 1036324) (i % 1036324 / 1018) (i % 1018)))
    → (A + 1057052516 ≤ index → P Past)
    → P (place_of A index)
unfolding place_of
cases P A index inode direct indirect double past =
    by_test P index A _ _ inode
    (λ p. by_test P (index - A) 2036 _ _ (λ l. direct (index - A) (omega arith) l)
    (λ q. by_test P (index - A - 2036) 2072648 _ _ (λ l. indirect (index - A - 2036) (omega arith) l)
    (λ r. by_test P (index - A - 2036 - 2072648) 1054977832 _ _ (λ l. double (index - A - 2036 - 2072648) (omega arith) l) (λ s. past (omega arith)))))

-- a number below an indirect node, taken apart again
two_levels : (i n k s : ℕ) → i ≡ 1036324 * n + (1018 * k + s) → (k < 1018) × (s < 1018)
    → (i / 1036324 ≡ n) × (i % 1036324 / 1018 ≡ k) × (i % 1018 ≡ s)
two_levels i n k s e h = (omega arith, omega arith, omega arith)

-- the slots on the way are there, whatever the index
pub slots_in : (A index : ℕ) → SlotsIn A (place_of A index)
slots_in A index =
    cases (SlotsIn A) A index (λ l. l) (λ i e l. (omega arith, omega arith)) (λ i e l. (omega arith, omega arith, omega arith))
    (λ i e l. (omega arith, omega arith, omega arith)) (λ l. tt)

-- and so are the nodes on the way
pub nodes_in_lem : (A index : ℕ) → NodesIn (place_of A index)
nodes_in_lem A index =
    cases NodesIn A index (λ l. tt) (λ i e l. omega arith) (λ i e l. (omega arith, omega arith)) (λ i e l. (omega arith, omega arith)) (λ l. tt)

-- a place leads back to its index
pub index_of_place : (A index : ℕ) → index ≤ last_index A → index_of A (place_of A index) ≡ index
index_of_place A index h =
    cases (λ p. index_of A p ≡ index) A index (λ l. refl) (λ i e l. omega arith) (λ i e l. omega arith) (λ i e l. omega arith)
    (λ l. omega arith)

-- exactly the indexes behind the last have no place
pub past : (A index : ℕ) → last_index A < index → place_of A index ≡ Past
past A index h =
    cases (λ p. p ≡ Past) A index (λ l. absurd (omega arith)) (λ i e l. absurd (omega arith)) (λ i e l. absurd (omega arith))
    (λ i e l. absurd (omega arith)) (λ l. refl)

pub not_past : (A index : ℕ) → index ≤ last_index A → place_of A index ≡ Past → ⊥
not_past A index h e =
    let same : index ≡ A + 1057052516 = sym (index_of_place A index h) ∙ ap (index_of A) e in
    omega arith

-- no two indexes share a place
pub place_once : (A i j : ℕ) → i ≤ last_index A → j ≤ last_index A → place_of A i ≡ place_of A j → i ≡ j
place_once A i j h g e = sym (index_of_place A i h) ∙ ap (index_of A) e ∙ index_of_place A j g

-- an index leads back to its place: of the five kinds only the place's own is possible
pub place_of_index : (A : ℕ) (p : Place) → SlotsIn A p → place_of A (index_of A p) ≡ p
place_of_index A (Inode s) h =
    cases (λ q. q ≡ Inode s) A s (λ l. refl) (λ i e l. absurd (omega arith)) (λ i e l. absurd (omega arith)) (λ i e l. absurd (omega arith))
    (λ l. absurd (omega arith))
place_of_index A (Direct n s) h =
    cases (λ q. q ≡ Direct n s) A (index_of A (Direct n s)) (λ l. absurd (omega arith))
    (λ i e l.
    let a : i / 1018 ≡ n = omega arith in
    let b : i % 1018 ≡ s = omega arith in
    cc) (λ i e l. absurd (omega arith)) (λ i e l. absurd (omega arith)) (λ l. absurd (omega arith))
place_of_index A (Indirect n k s) h =
    cases (λ q. q ≡ Indirect n k s) A (index_of A (Indirect n k s)) (λ l. absurd (omega arith)) (λ i e l. absurd (omega arith))
    (λ i e l.
    let d = two_levels i n k s (omega arith) (h.1, h.2) in
    cc) (λ i e l. absurd (omega arith)) (λ l. absurd (omega arith))
place_of_index A (Double n k s) h =
    cases (λ q. q ≡ Double n k s) A (index_of A (Double n k s)) (λ l. absurd (omega arith)) (λ i e l. absurd (omega arith))
    (λ i e l. absurd (omega arith))
    (λ i e l.
    let d = two_levels i n k s (omega arith) (h.1, h.2) in
    cc) (λ l. absurd (omega arith))
place_of_index A Past h =
    cases (λ q. q ≡ Past) A (index_of A Past) (λ l. absurd (omega arith)) (λ i e l. absurd (omega arith)) (λ i e l. absurd (omega arith))
    (λ i e l. absurd (omega arith)) (λ l. refl)
