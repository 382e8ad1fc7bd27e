-- Insertion in a rising list: what holds of all elements after it, that the list still rises, how long it is, and where the new
-- number stands if the list is searched from its end.
use Prim.Native.Nat.{ℕ, ◌+◌, ◌<◌, ◌≤◌}
use native.Mathlib.Omega.{arith}
use native.Mathlib.Nat.{lt_trans}
use mathlib.Core.Path.{◌≡◌, refl, sym, subst, ◌∙◌}
use mathlib.Core.Bool.{Bool, true, false}
use mathlib.Core.List.Memᴰ
use mathlib.Core.List.{List, [], ◌∷◌, ◌++◌, append_assoc, Memᴰ}
use mathlib.Core.Logic.{⊎_elim}
use lib.ListN.{length}
use lib.Dec.{ltb, eqb}
use borrow.Author.Tests.{ltb-true, ltb-false, eqb-true, eqb-false}
use Rattle.list.specs.Lists.{insert, AllOf, Rising}

-- ---- the cases of an insertion, for a proof by induction
data Inserted (x y : ℕ) : Type 0 where
  before : x < y → ((ys : List ℕ) → insert x (y ∷ ys) ≡ x ∷ y ∷ ys) → Inserted x y
  there : x ≡ y → ((ys : List ℕ) → insert x (y ∷ ys) ≡ y ∷ ys) → Inserted x y
  after : y < x → ((ys : List ℕ) → insert x (y ∷ ys) ≡ y ∷ insert x ys) → Inserted x y

inserted : (x y : ℕ) → Inserted x y
unfolding insert
inserted x y = go (ltb x y) refl (eqb x y) refl
  where
    go : (a : Bool) → ltb x y ≡ a → (b : Bool) → eqb x y ≡ b → Inserted x y
    go true p b q = before (ltb-true x y p) (λ ys. rw p)
    go false p true q = there (eqb-true x y q) (λ ys. rw (p, q))
    go false p false q =
        let h : y ≤ x = ltb-false x y p in
        let g : x ≡ y → ⊥ = eqb-false x y q in
        after (omega arith) (λ ys. rw (p, q))

insert_nil : (x : ℕ) → insert x [] ≡ x ∷ []
unfolding insert
insert_nil x = refl

-- ---- what holds of all elements
pub all_map : {P Q : ℕ → Type 0} → ((x : ℕ) → P x → Q x) → (l : List ℕ) → AllOf P l → AllOf Q l
all_map f [] h = tt
all_map f (x ∷ xs) h = (f x h.0, all_map f xs h.1)

-- holds of each member
pub all_mem : (P : ℕ → Type 0) {x : ℕ} (l : List ℕ) → AllOf P l → Memᴰ x l → P x
all_mem P [] h m = absurd (Memᴰ.not-nil m)
all_mem P (y ∷ ys) h m = ⊎_elim (λ e. subst P (sym e) h.0) (λ r. all_mem P ys h.1 r) (Memᴰ.cases_cons m)

pub mem_all : (l : List ℕ) → AllOf (λ x. Memᴰ x l) l
mem_all [] = tt
mem_all (y ∷ ys) = (Memᴰ.head refl, all_map (λ x m. Memᴰ.tail m) ys (mem_all ys))

-- holds of all of an insertion: of the new element and of all the old
pub all_insert : (P : ℕ → Type 0) (x : ℕ) (l : List ℕ) → AllOf P (insert x l) → P x × AllOf P l
all_insert P x [] h = ((subst (AllOf P) (insert_nil x) h).0, tt)
all_insert P x (y ∷ ys) h = go (inserted x y) (all_insert P x ys)
  where
    go : Inserted x y → (AllOf P (insert x ys) → P x × AllOf P ys) → P x × AllOf P (y ∷ ys)
    go (before l e) ih = let k = subst (AllOf P) (e ys) h in (k.0, k.1)
    go (there q e) ih = let k = subst (AllOf P) (e ys) h in (subst P (sym q) k.0, k)
    go (after l e) ih = let k = subst (AllOf P) (e ys) h in ((ih k.1).0, (k.0, (ih k.1).1))

pub insert_all : (P : ℕ → Type 0) (x : ℕ) (l : List ℕ) → P x → AllOf P l → AllOf P (insert x l)
insert_all P x [] p h = subst (AllOf P) (sym (insert_nil x)) (p, tt)
insert_all P x (y ∷ ys) p h = go (inserted x y) (insert_all P x ys p h.1)
  where
    go : Inserted x y → AllOf P (insert x ys) → AllOf P (insert x (y ∷ ys))
    go (before l e) ih = subst (AllOf P) (sym (e ys)) (p, h)
    go (there q e) ih = subst (AllOf P) (sym (e ys)) h
    go (after l e) ih = subst (AllOf P) (sym (e ys)) (h.0, ih)

-- ---- rising, and the length
pub rising_insert : (x : ℕ) (l : List ℕ) → Rising l → Rising (insert x l)
rising_insert x [] r = subst Rising (sym (insert_nil x)) (tt, tt)
rising_insert x (y ∷ ys) r = go (inserted x y) (rising_insert x ys r.1)
  where
    go : Inserted x y → Rising (insert x ys) → Rising (insert x (y ∷ ys))
    go (before l e) ih = subst Rising (sym (e ys)) ((l, all_map (λ z h. lt_trans l h) ys r.0), r)
    go (there q e) ih = subst Rising (sym (e ys)) r
    go (after l e) ih = subst Rising (sym (e ys)) (insert_all (λ z. y < z) x ys l r.0, ih)

pub length_insert : (x : ℕ) (l : List ℕ) → length (insert x l) ≤ length l + 1
length_insert x [] = rw (insert_nil x) (omega arith)
length_insert x (y ∷ ys) = go (inserted x y) (length_insert x ys)
  where
    go : Inserted x y → length (insert x ys) ≤ length ys + 1 → length (insert x (y ∷ ys)) ≤ length (y ∷ ys) + 1
    go (before l e) ih = rw (e ys) (omega arith)
    go (there q e) ih = rw (e ys) (omega arith)
    go (after l e) ih = rw (e ys) (omega arith)

pub insert_more : (x : ℕ) (l : List ℕ) → length l ≤ length (insert x l)
insert_more x [] = rw (insert_nil x) (omega arith)
insert_more x (y ∷ ys) = go (inserted x y) (insert_more x ys)
  where
    go : Inserted x y → length ys ≤ length (insert x ys) → length (y ∷ ys) ≤ length (insert x (y ∷ ys))
    go (before l e) ih = rw (e ys) (omega arith)
    go (there q e) ih = rw (e ys) (omega arith)
    go (after l e) ih = rw (e ys) (omega arith)

-- ---- from the end

-- a number above x keeps its place, and so do all behind it
pub insert_front : (x : ℕ) (a : List ℕ) (y : ℕ) (b : List ℕ) → x < y → insert x (a ++ (y ∷ b)) ≡ insert x a ++ (y ∷ b)
insert_front x [] y b h = go (inserted x y)
  where
    go : Inserted x y → insert x (y ∷ b) ≡ insert x [] ++ (y ∷ b)
    go (before l e) = rw (insert_nil x) (e b)
    go (there q e) = absurd (omega arith)
    go (after l e) = absurd (omega arith)
insert_front x (z ∷ a) y b h = go (inserted x z) (insert_front x a y b h)
  where
    go : Inserted x z → insert x (a ++ (y ∷ b)) ≡ insert x a ++ (y ∷ b) → insert x (z ∷ (a ++ (y ∷ b))) ≡ insert x (z ∷ a) ++ (y ∷ b)
    go (before l e) ih = rw (e a, e (a ++ (y ∷ b)))
    go (there q e) ih = rw (e a, e (a ++ (y ∷ b)))
    go (after l e) ih = rw (e a, e (a ++ (y ∷ b)), ih)

all_front : (P : ℕ → Type 0) (a b : List ℕ) → AllOf P (a ++ b) → AllOf P a
all_front P [] b h = tt
all_front P (x ∷ a) b h = (h.0, all_front P a b h.1)

-- the front of a rising list rises
pub rising_front : (a b : List ℕ) → Rising (a ++ b) → Rising a
rising_front [] b h = tt
rising_front (x ∷ a) b h = (all_front (λ y. x < y) a b h.0, rising_front a b h.1)

-- one number more at the end
pub all_behind : (P : ℕ → Type 0) (a : List ℕ) (x : ℕ) → AllOf P a → P x → AllOf P (a ++ (x ∷ []))
all_behind P [] x h p = (p, tt)
all_behind P (y ∷ a) x h p = (h.0, all_behind P a x h.1 p)

-- a number above all others, behind them
pub rising_behind : (a : List ℕ) (x : ℕ) → Rising a → AllOf (λ y. y < x) a → Rising (a ++ (x ∷ []))
rising_behind [] x r h = (tt, tt)
rising_behind (y ∷ a) x r h = (all_behind (λ z. y < z) a x r.0 h.0, rising_behind a x r.1 h.1)

-- its last number is above all others
rising_last : (a : List ℕ) (y : ℕ) → Rising (a ++ (y ∷ [])) → AllOf (λ z. z < y) a
rising_last [] y h = tt
rising_last (x ∷ a) y h = (all_mem (λ z. x < z) (a ++ (y ∷ [])) h.0 (last a), rising_last a y h.1)
  where
    last : (b : List ℕ) → Memᴰ y (b ++ (y ∷ []))
    last [] = Memᴰ.head refl
    last (z ∷ b) = Memᴰ.tail (last b)

-- behind numbers below x, an insertion goes on in what follows them
insert_behind : (x : ℕ) (a b : List ℕ) → AllOf (λ z. z < x) a → insert x (a ++ b) ≡ a ++ insert x b
insert_behind x [] b h = refl
insert_behind x (z ∷ a) b h = go (inserted x z) (insert_behind x a b h.1)
  where
    go : Inserted x z → insert x (a ++ b) ≡ a ++ insert x b → insert x (z ∷ (a ++ b)) ≡ z ∷ (a ++ insert x b)
    go (before l e) ih = let g = h.0 in absurd (omega arith)
    go (there q e) ih = let g = h.0 in absurd (omega arith)
    go (after l e) ih = rw (e (a ++ b), ih)

-- a number above the last one goes behind it
pub insert_last : (x : ℕ) (a : List ℕ) (y : ℕ) → Rising (a ++ (y ∷ [])) → y < x → insert x (a ++ (y ∷ [])) ≡ (a ++ (y ∷ [])) ++ (x ∷ [])
insert_last x a y r h = insert_behind x a (y ∷ []) (all_map (λ z q. lt_trans q h) a (rising_last a y r)) ∙ go (inserted x y)
  where
    go : Inserted x y → a ++ insert x (y ∷ []) ≡ (a ++ (y ∷ [])) ++ (x ∷ [])
    go (before l e) = absurd (omega arith)
    go (there q e) = absurd (omega arith)
    go (after l e) = rw (e [], insert_nil x) (sym (append_assoc a (y ∷ []) (x ∷ [])))

-- the last one is there already
pub insert_there : (x : ℕ) (a : List ℕ) → Rising (a ++ (x ∷ [])) → insert x (a ++ (x ∷ [])) ≡ a ++ (x ∷ [])
insert_there x a r = insert_behind x a (x ∷ []) (rising_last a x r) ∙ go (inserted x x)
  where
    go : Inserted x x → a ++ insert x (x ∷ []) ≡ a ++ (x ∷ [])
    go (before l e) = absurd (omega arith)
    go (there q e) = rw (e [])
    go (after l e) = absurd (omega arith)
