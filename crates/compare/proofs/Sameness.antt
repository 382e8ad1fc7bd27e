-- What each test of sameness says: a test is passed exactly by equal things.
use mathlib.Core.Path.{◌≡◌, refl, ap}
use mathlib.Core.Bool.{Bool, true, ◌&&◌, and-eq-true_iff}
use mathlib.Core.List.{List, [], ◌∷◌}
use Prim.Native.Nat.{ℕ}
use lib.Dec.{eqb}
use lib.Pointwise.{pointwise}
use borrow.Author.Tests.{eqb-true, eq-eqb}
use Rattle.field.proofs.Choosing.{clash}
use Rattle.nat.specs.Table.{TableAnswer, OutOfRange, Entry}
use Rattle.node.specs.Node.{Bounds}
use Rattle.compare.specs.Difference.{same_bounds, same_answer, same_bytes}

-- both tests are passed, and so the two pairs are equal
both : (a b c d : ℕ) → (eqb a b && eqb c d) ≡ true → (a ≡ b) × (c ≡ d)
both a b c d h = let t = (and-eq-true_iff _ _).0 h in (eqb-true _ _ t.0, eqb-true _ _ t.1)

itself : (a b : ℕ) → (eqb a a && eqb b b) ≡ true
itself a b = rw (eq-eqb a a refl) (eq-eqb b b refl)

pub same_bounds_lem : (m n : Bounds) → same_bounds m n ≡ true → m ≡ n
same_bounds_lem m n h = let t = both _ _ _ _ h in λ i. record { start = t.0 i; end = t.1 i }

pub bounds_same : {m n : Bounds} → m ≡ n → same_bounds m n ≡ true
bounds_same {m = m} e = rw (← e) (itself m.start m.end)

pub same_answer_lem : (t s : TableAnswer) → same_answer t s ≡ true → t ≡ s
same_answer_lem OutOfRange OutOfRange h = refl
same_answer_lem OutOfRange (Entry j b) h = absurd (clash h refl)
same_answer_lem (Entry i a) OutOfRange h = absurd (clash h refl)
same_answer_lem (Entry i a) (Entry j b) h = let t = both _ _ _ _ h in λ k. Entry (t.0 k) (t.1 k)

answer_itself : (t : TableAnswer) → same_answer t t ≡ true
answer_itself OutOfRange = refl
answer_itself (Entry i a) = itself i a

pub answer_same : {t s : TableAnswer} → t ≡ s → same_answer t s ≡ true
answer_same {t = t} e = rw (← e) (answer_itself t)

pub same_bytes_lem : (xs ys : List ℕ) → same_bytes xs ys ≡ true → xs ≡ ys
unfolding same_bytes
same_bytes_lem [] [] h = refl
same_bytes_lem [] (y ∷ ys) h = absurd (clash h refl)
same_bytes_lem (x ∷ xs) [] h = absurd (clash h refl)
same_bytes_lem (x ∷ xs) (y ∷ ys) h =
    let t = (and-eq-true_iff _ _).0 h in
    λ i. eqb-true x y t.0 i ∷ same_bytes_lem xs ys t.1 i

bytes_itself : (xs : List ℕ) → same_bytes xs xs ≡ true
unfolding same_bytes
bytes_itself [] = refl
bytes_itself (x ∷ xs) = rw (eq-eqb x x refl) (bytes_itself xs)

pub bytes_same : {xs ys : List ℕ} → xs ≡ ys → same_bytes xs ys ≡ true
bytes_same {xs = xs} e = rw (← e) (bytes_itself xs)

-- what `==` says of two slices
pub pointwise_same : (xs ys : List ℕ) → pointwise eqb xs ys ≡ same_bytes xs ys
unfolding same_bytes
pointwise_same [] [] = refl
pointwise_same [] (y ∷ ys) = refl
pointwise_same (x ∷ xs) [] = refl
pointwise_same (x ∷ xs) (y ∷ ys) = ap (λ (t : Bool). eqb x y && t) (pointwise_same xs ys)
