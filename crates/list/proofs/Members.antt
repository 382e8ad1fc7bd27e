-- Rising lists by their members: one is determined by them, and is no longer than any list that has them all. A number that is in
-- it already goes in without a change. And the union of two.
use Prim.Native.Nat.{ℕ, ◌<◌, ◌≤◌}
use native.Mathlib.Omega.{arith}
use mathlib.Core.Path.{◌≡◌, refl, sym, ap, subst}
use mathlib.Core.Bool.{Bool, true, false}
use mathlib.Core.List.{List, [], ◌∷◌, Memᴰ}
use mathlib.Core.Logic.{◌⊎◌, inl, inr, ⊎_elim, ◌↔◌}
use lib.ListN.{length}
use lib.Dec.{eqb}
use borrow.Author.Tests.{eqb-true, eqb-false, le-ltb, eq-eqb, ne_eqb}
use Rattle.field.specs.Choice.{choose}
use Rattle.list.specs.Lists.{insert, union, AllOf, Rising}
use Rattle.list.proofs.Rises.{all_map, all_mem, mem_all, all_insert, insert_all, rising_insert}

-- a list that a number is in has some
pub mem_some : {x : ℕ} {l : List ℕ} → Memᴰ x l → 1 ≤ length l
mem_some {l = []} m = absurd (mathlib.Core.List.Memᴰ.not-nil m)
mem_some {l = y ∷ l} m = omega arith

-- ---- there already
-- the head of a rising list is below x, or x
above : (x y : ℕ) (ys : List ℕ) → Rising (y ∷ ys) → Memᴰ x ys → y < x
above x y ys r m = all_mem (λ z. y < z) ys r.0 m

pub insert_again : (x : ℕ) (l : List ℕ) → Rising l → Memᴰ x l → insert x l ≡ l
unfolding insert
insert_again x [] r m = absurd (mathlib.Core.List.Memᴰ.not-nil m)
insert_again x (y ∷ ys) r m =
    ⊎_elim (λ e. rw (le-ltb x y (omega arith), eq-eqb x y e))
    (λ t.
    let h = above x y ys r t in
    rw (le-ltb x y (omega arith), ne_eqb x y (λ e. omega arith)) (ap (λ (l : List ℕ). y ∷ l) (insert_again x ys r.1 t)))
    (mathlib.Core.List.Memᴰ.cases_cons m)

-- ---- no longer than a list that has all of it
without : ℕ → List ℕ → List ℕ
without x [] = []
without x (y ∷ ys) = choose (eqb x y) (without x ys) (y ∷ without x ys)

without_le : (x : ℕ) (l : List ℕ) → length (without x l) ≤ length l
unfolding without
without_le x [] = omega arith
without_le x (y ∷ ys) = go (eqb x y) (without_le x ys)
  where
    go : (b : Bool) → length (without x ys) ≤ length ys → length (choose b (without x ys) (y ∷ without x ys)) ≤ length (y ∷ ys)
    go true h = omega arith
    go false h = omega arith

without_lt : (x : ℕ) (l : List ℕ) → Memᴰ x l → length (without x l) < length l
unfolding without
without_lt x [] m = absurd (mathlib.Core.List.Memᴰ.not-nil m)
without_lt x (y ∷ ys) m = go (eqb x y) refl (without_lt x ys)
  where
    go : (b : Bool) → eqb x y ≡ b → (Memᴰ x ys → length (without x ys) < length ys) → length (choose b (without x ys) (y ∷ without x ys)) < length (y ∷ ys)
    go true e ih = let h = without_le x ys in omega arith
    go false e ih = ⊎_elim (λ f. absurd (eqb-false x y e f)) (λ t. let h = ih t in omega arith) (mathlib.Core.List.Memᴰ.cases_cons m)

without_mem : (x z : ℕ) (l : List ℕ) → Memᴰ z l → x < z → Memᴰ z (without x l)
unfolding without
without_mem x z [] m h = absurd (mathlib.Core.List.Memᴰ.not-nil m)
without_mem x z (y ∷ ys) m h = go (eqb x y) refl (λ t. without_mem x z ys t h)
  where
    go : (b : Bool) → eqb x y ≡ b → (Memᴰ z ys → Memᴰ z (without x ys)) → Memᴰ z (choose b (without x ys) (y ∷ without x ys))
    go true e ih =
        let f = eqb-true x y e in
        ⊎_elim (λ g. absurd (omega arith)) ih (mathlib.Core.List.Memᴰ.cases_cons m)
    go false e ih = ⊎_elim (λ g. mathlib.Core.List.Memᴰ.head g) (λ t. mathlib.Core.List.Memᴰ.tail (ih t)) (mathlib.Core.List.Memᴰ.cases_cons m)

all_without : (x : ℕ) (xs l : List ℕ) → AllOf (λ z. Memᴰ z xs) l → AllOf (λ z. x < z) l → AllOf (λ z. Memᴰ z (without x xs)) l
all_without x xs [] a b = tt
all_without x xs (y ∷ ys) a b = (without_mem x y xs a.0 b.0, all_without x xs ys a.1 b.1)

pub rising_few : (l xs : List ℕ) → Rising l → AllOf (λ z. Memᴰ z xs) l → length l ≤ length xs
rising_few [] xs r a = omega arith
rising_few (x ∷ l) xs r a =
    let h = without_lt x xs a.0 in
    let g = rising_few l (without x xs) r.1 (all_without x xs l a.1 r.0) in
    omega arith

-- ---- determined by its members
all_tail : (x : ℕ) (ys l : List ℕ) → AllOf (λ z. Memᴰ z (x ∷ ys)) l → AllOf (λ z. x < z) l → AllOf (λ z. Memᴰ z ys) l
all_tail x ys [] a b = tt
all_tail x ys (y ∷ l) a b =
    (⊎_elim (λ e. let h = b.0 in absurd (omega arith)) (λ t. t) (mathlib.Core.List.Memᴰ.cases_cons a.0), all_tail x ys l a.1 b.1)

pub rising_same : (a b : List ℕ) → Rising a → Rising b → AllOf (λ z. Memᴰ z b) a → AllOf (λ z. Memᴰ z a) b → a ≡ b
rising_same [] [] r q f g = refl
rising_same [] (y ∷ b) r q f g = absurd (mathlib.Core.List.Memᴰ.not-nil g.0)
rising_same (x ∷ a) [] r q f g = absurd (mathlib.Core.List.Memᴰ.not-nil f.0)
rising_same (x ∷ a) (y ∷ b) r q f g =
    let xy : x ≡ y =
    ⊎_elim (λ e. e)
    (λ t. ⊎_elim (λ e. sym e) (λ s. let h = above x y b q t in let k = above y x a r s in absurd (omega arith)) (mathlib.Core.List.Memᴰ.cases_cons g.0))
    (mathlib.Core.List.Memᴰ.cases_cons f.0) in
    let g' : AllOf (λ z. Memᴰ z (x ∷ a)) b = g.1 in
    let f' : AllOf (λ z. Memᴰ z (y ∷ b)) a = f.1 in
    let rest =
    rising_same a b r.1 q.1 (all_tail y b a f' (subst (λ (w : ℕ). AllOf (λ z. w < z) a) xy r.0))
    (all_tail x a b g' (subst (λ (w : ℕ). AllOf (λ z. w < z) b) (sym xy) q.0)) in
    λ i. xy i ∷ rest i

-- ---- a union
pub all_union : (P : ℕ → Type 0) (a b : List ℕ) → AllOf P (union a b) → AllOf P a × AllOf P b
unfolding union
all_union P [] b h = (tt, h)
all_union P (x ∷ a) b h =
    let i = all_insert P x (union a b) h in
    let r = all_union P a b i.1 in
    ((i.0, r.0), r.1)

pub union_all : (P : ℕ → Type 0) (a b : List ℕ) → AllOf P a → AllOf P b → AllOf P (union a b)
unfolding union
union_all P [] b f g = g
union_all P (x ∷ a) b f g = insert_all P x (union a b) f.0 (union_all P a b f.1 g)

pub union_rising : (a b : List ℕ) → Rising b → Rising (union a b)
unfolding union
union_rising [] b r = r
union_rising (x ∷ a) b r = rising_insert x (union a b) (union_rising a b r)

-- a rising list that has all of both and no more is their union
pub union_is : (a b l : List ℕ) → Rising b → Rising l → AllOf (λ z. Memᴰ z l) a → AllOf (λ z. Memᴰ z l) b
    → AllOf (λ z. Memᴰ z (union a b)) l → l ≡ union a b
union_is a b l r q f g h = rising_same l (union a b) q (union_rising a b r) h (union_all _ a b f g)

-- a number is in a union if it is in one of the two
pub in_union : (x : ℕ) (a b : List ℕ) → Memᴰ x (union a b) ↔ (Memᴰ x a ⊎ Memᴰ x b)
in_union x a b =
    let both = all_union (λ z. Memᴰ z (union a b)) a b (mem_all (union a b)) in (
      all_mem _ (union a b) (union_all (λ z. Memᴰ z a ⊎ Memᴰ z b) a b (all_map (λ _ m. inl m) a (mem_all a)) (all_map (λ _ m. inr m) b (mem_all b))),
      ⊎_elim (all_mem _ a both.0) (all_mem _ b both.1),
    )

pub union_none : (a : List ℕ) → Rising a → union a [] ≡ a
union_none a r = sym (union_is a [] a tt r (mem_all a) tt (all_union _ a [] (mem_all (union a []))).0)
