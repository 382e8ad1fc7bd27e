-- Runs of entries in lent bytes: how a search and a shift see them, and what an insertion leaves.
use Prim.Native.Nat.{ℕ, zero, suc, ◌+◌, ◌-◌, ◌*◌, ◌≤◌, ◌<◌}
use mathlib.Core.Path.{◌≡◌, refl, ap, sym, subst, ◌∙◌}
use mathlib.Core.List.{List, [], ◌∷◌, ◌++◌, append_assoc, append-nil}
use native.Mathlib.Omega.{arith}
use lib.ListN.{length, get_or, drop, length-append, length-drop, length-set}
use lib.Seq.{drop-drop}
use Rattle.std.specs.List.{CopiedTo, SameBelow}
use Rattle.std.proofs.Math.Seq.{paste}
use Rattle.std.proofs.lemmas.List.Edits.{drop-paste}
use Rattle.field.specs.Number.{le16, le32, put32_at}
use Rattle.std.specs.Prelude.{Option, Some, None}
use Rattle.list.specs.Lists.{insert, Rising, numbers, Holds, Grown, HasInserted}
use Rattle.list.specs.Insertion.{Placed, Shifted}
use Rattle.list.proofs.Rises.{insert_more, insert_front, insert_last, insert_there, rising_front}
use Rattle.list.proofs.Stores.{drop_put, le32_other, le32_put}

-- ---- runs of entries
pub length_numbers : (l : List ℕ) (i k : ℕ) → length (numbers l i k) ≡ k
unfolding numbers
length_numbers l i zero = refl
length_numbers l i (suc k) = ap suc (length_numbers l (i + 1) k)

-- a run after a run
numbers_add : (l : List ℕ) (i j k : ℕ) → numbers l i (j + k) ≡ numbers l i j ++ numbers l (i + j) k
unfolding numbers
numbers_add l i zero k = let e : i + 0 ≡ i = omega arith in let f : 0 + k ≡ k = omega arith in rw (e, f)
numbers_add l i (suc j) k =
    let e : i + 1 + j ≡ i + suc j = omega arith in
    let f : suc j + k ≡ suc (j + k) = omega arith in
    let r = numbers_add l (i + 1) j k in
    rw f (ap (λ (s : List ℕ). le32 l (4 * i) ∷ s) (rw e at r))

-- a loop's turn: entry i of n is the next
pub numbers_cons : (l : List ℕ) (i n : ℕ) → i < n → numbers l i (n - i) ≡ le32 l (4 * i) ∷ numbers l (i + 1) (n - (i + 1))
unfolding numbers
numbers_cons l i n h = let e : n - i ≡ suc (n - (i + 1)) = omega arith in ap (λ (k : ℕ). numbers l i k) e

pub numbers_nil : (l : List ℕ) (i n : ℕ) → n ≤ i → numbers l i (n - i) ≡ []
unfolding numbers
numbers_nil l i n h = let e : n - i ≡ 0 = omega arith in ap (λ (k : ℕ). numbers l i k) e

module _ (l : List ℕ) (i : ℕ) where
  -- the first n in two parts
  pub numbers_cut : (n : ℕ) → i ≤ n → numbers l 0 n ≡ numbers l 0 i ++ numbers l i (n - i)
  numbers_cut n h =
      let e : i + (n - i) ≡ n = omega arith in
      let z : 0 + i ≡ i = omega arith in
      rw (e, z) at (numbers_add l 0 i (n - i))

  -- the first ones and one more
  numbers_snoc : numbers l 0 (i + 1) ≡ numbers l 0 i ++ (le32 l (4 * i) ∷ [])
  unfolding numbers
  numbers_snoc = let z : 0 + i ≡ i = omega arith in rw z at (numbers_add l 0 i 1)

-- the first i and the last of them
numbers_last : (l : List ℕ) (i : ℕ) → 0 < i → numbers l 0 i ≡ numbers l 0 (i - 1) ++ (le32 l (4 * (i - 1)) ∷ [])
numbers_last l i z = let e : i - 1 + 1 ≡ i = omega arith in rw e at (numbers_snoc l (i - 1))

-- two byte lists with the same numbers in a run
numbers_same : (l m : List ℕ) (i k : ℕ)
    → ((j : ℕ) → i ≤ j → j < i + k → le32 m (4 * j) ≡ le32 l (4 * j)) → numbers m i k ≡ numbers l i k
unfolding numbers
numbers_same l m i zero f = refl
numbers_same l m i (suc k) f =
    let r : numbers m (i + 1) k ≡ numbers l (i + 1) k = numbers_same l m (i + 1) k (λ j p q. f j (omega arith) (omega arith)) in
    let e : le32 m (4 * i) ≡ le32 l (4 * i) = f i (omega arith) (omega arith) in
    λ t. e t ∷ r t

-- ---- the search

-- x goes among the first i entries, and all from entry i on keep their order behind it
abbrev pub Passed : List ℕ → ℕ → ℕ → ℕ → Type 0
Passed l n x i = insert x (numbers l 0 n) ≡ insert x (numbers l 0 i) ++ numbers l i (n - i)

module _ (l : List ℕ) (n x : ℕ) where
  pub passed_start : Passed l n x n
  passed_start = rw (numbers_nil l n n (omega arith)) (sym (append-nil _))

  -- entry i is above x, and so are all behind it
  pub passed_above : (i : ℕ) → i < n → x < le32 l (4 * i) → Passed l n x i
  passed_above i h g =
      let c = numbers_cons l i n h in
      ap (insert x) (numbers_cut l i n (omega arith) ∙ ap (λ (s : List ℕ). numbers l 0 i ++ s) c)
      ∙ insert_front x (numbers l 0 i) (le32 l (4 * i)) (numbers l (i + 1) (n - (i + 1))) g
      ∙ ap (λ (s : List ℕ). insert x (numbers l 0 i) ++ s) (sym c)

  -- all are above x
  pub placed_first : (i : ℕ) → i ≤ 0 → Passed l n x i → Placed l n x (Some 0)
  unfolding numbers insert
  placed_first i h p = let z : i ≡ 0 = omega arith in (omega arith, rw z at p)

  module _ (rises : Rising (numbers l 0 n)) (i : ℕ) (z : 0 < i) (h : i ≤ n) (p : Passed l n x i) where
    front : Rising (numbers l 0 (i - 1) ++ (le32 l (4 * (i - 1)) ∷ []))
    front = subst Rising (numbers_last l i z) (rising_front (numbers l 0 i) (numbers l i (n - i)) (subst Rising (numbers_cut l i n h) rises))

    -- the entry before i is below x
    pub placed_before : le32 l (4 * (i - 1)) < x → Placed l n x (Some i)
    placed_before g =
        let e : insert x (numbers l 0 i) ≡ numbers l 0 i ++ (x ∷ []) =
        rw (numbers_last l i z) (insert_last x (numbers l 0 (i - 1)) (le32 l (4 * (i - 1))) front g) in
        (h, p ∙ rw (e, append_assoc))

    -- the entry before i is x
    pub placed_there : le32 l (4 * (i - 1)) ≡ x → Placed l n x None
    placed_there g =
        let r : Rising (numbers l 0 (i - 1) ++ (x ∷ [])) = rw g at front in
        let e : insert x (numbers l 0 i) ≡ numbers l 0 i = rw (numbers_last l i z, g) (insert_there x (numbers l 0 (i - 1)) r) in
        p ∙ rw e (sym (numbers_cut l i n h))

-- ---- the shift

-- after a store at entry i: the run up to it, and a run after it
pub put_front : (l : List ℕ) (i x : ℕ) → 4 * (i + 1) ≤ length l → numbers (put32_at l (4 * i) x) 0 (i + 1) ≡ numbers l 0 i ++ (x ∷ [])
put_front l i x h =
    let s : numbers (put32_at l (4 * i) x) 0 i ≡ numbers l 0 i =
    numbers_same l (put32_at l (4 * i) x) 0 i (λ j p q. le32_other l (4 * i) x (4 * j) (λ a b c d e. omega arith)) in
    rw (numbers_snoc (put32_at l (4 * i) x) i, s, le32_put l (4 * i) x (omega arith))

put_back : (l : List ℕ) (i x k : ℕ) → numbers (put32_at l (4 * i) x) (i + 1) k ≡ numbers l (i + 1) k
put_back l i x k = numbers_same l (put32_at l (4 * i) x) (i + 1) k (λ j p q. le32_other l (4 * i) x (4 * j) (λ a b c d e. omega arith))

-- entries i to n of o, moved up by one
numbers_moved : (o m : List ℕ) (i k : ℕ) → ((j : ℕ) → i ≤ j → j < i + k → le32 m (4 * (j + 1)) ≡ le32 o (4 * j))
    → numbers m (i + 1) k ≡ numbers o i k
unfolding numbers
numbers_moved o m i zero f = refl
numbers_moved o m i (suc k) f =
    let r : numbers m (i + 1 + 1) k ≡ numbers o (i + 1) k = numbers_moved o m (i + 1) k (λ j p q. f j (omega arith) (omega arith)) in
    let e : le32 m (4 * (i + 1)) ≡ le32 o (4 * i) = f i (omega arith) (omega arith) in
    λ t. e t ∷ r t

-- what a move of the entries p to n of o by one, and a store at entry p, leave
module _ (o m : List ℕ) (p n x : ℕ) (few : p ≤ n) (room : 4 * (n + 1) ≤ length o) (size : length m ≡ length o)
    (after : m ≡ paste o (4 * p + 4) (drop (4 * p) o) (4 * n - 4 * p)) (moved : CopiedTo o m (4 * p) (4 * p + 4) (4 * n - 4 * p))
    (below : SameBelow o m (4 * p + 4)) where
  byte_moved : (a b : ℕ) → 4 * p ≤ b → b < 4 * n → a ≡ b + 4 → get_or m a 0 ≡ get_or o b 0
  byte_moved a b low high e =
      let there : 4 * p + (a - (4 * p + 4)) ≡ b = omega arith in
      rw there at (moved a 0 (omega arith) (omega arith))

  entry_moved : (j : ℕ) → p ≤ j → j < p + (n - p) → le32 m (4 * (j + 1)) ≡ le32 o (4 * j)
  unfolding le32 le16
  entry_moved j h g =
      let low : j < n = omega arith in
      rw (
        byte_moved (4 * (j + 1)) (4 * j) (omega arith) (omega arith) (omega arith),
        byte_moved (4 * (j + 1) + 1) (4 * j + 1) (omega arith) (omega arith) (omega arith),
        byte_moved (4 * (j + 1) + 2) (4 * j + 2) (omega arith) (omega arith) (omega arith),
        byte_moved (4 * (j + 1) + 2 + 1) (4 * j + 2 + 1) (omega arith) (omega arith) (omega arith),
      )

  entry_below : (j : ℕ) → 0 ≤ j → j < 0 + p → le32 m (4 * j) ≡ le32 o (4 * j)
  unfolding le32 le16
  entry_below j z h =
      rw (
        below (4 * j) 0 (omega arith),
        below (4 * j + 1) 0 (omega arith),
        below (4 * j + 2) 0 (omega arith),
        below (4 * j + 2 + 1) 0 (omega arith),
      )

  stored : numbers (put32_at m (4 * p) x) 0 (n + 1) ≡ numbers o 0 p ++ (x ∷ numbers o p (n - p))
  stored =
      let parts = numbers_cut (put32_at m (4 * p) x) (p + 1) (n + 1) (omega arith) in
      let back : n + 1 - (p + 1) ≡ n - p = omega arith in
      parts ∙ rw (
        put_front m p x (omega arith),
        back,
        put_back m p x (n - p),
        numbers_same o m 0 p entry_below,
        numbers_moved o m p (n - p) entry_moved,
        append_assoc,
      )

  kept : drop (4 * (n + 1)) m ≡ drop (4 * (n + 1)) o
  kept =
      let end : 4 * p + 4 + (4 * n - 4 * p) ≡ 4 * (n + 1) = omega arith in
      let enough : 4 * n - 4 * p ≤ length (drop (4 * p) o) = rw (length-drop (4 * p) o) (omega arith) in
      let cut = drop-paste o (4 * p + 4) (drop (4 * p) o) (4 * n - 4 * p) (omega arith) enough in
      ap (drop (4 * (n + 1))) after
      ∙ subst (λ k. drop k (paste o (4 * p + 4) (drop (4 * p) o) (4 * n - 4 * p)) ≡ drop k o) end cut

  pub shifted : {l : List ℕ} → l ≡ put32_at m (4 * p) x → Shifted o p n x l
  shifted e = record { list = rw e stored; rest = rw e (drop_put m (4 * p) x (4 * (n + 1)) (omega arith) ∙ kept) }

-- ---- the two ways of an insertion
module _ (l : List ℕ) (n x : ℕ) {r : Option ℕ} (place : Placed l n x r) where
  pub inserted_there : r ≡ None → HasInserted l n x l n
  inserted_there e =
      let h : Placed l n x None = rw e at place in
      record { list = sym h; grown = record { more = omega arith; rest = refl; size = refl } }

  module _ (p : ℕ) (e : r ≡ Some p) where
    before : Placed l n x (Some p)
    before = rw e at place

    pub spot_within : p ≤ n
    spot_within = before.0

    -- so there is room for one more
    pub before_room : Holds x l n → 4 * (n + 1) ≤ length l
    before_room h =
        let fits = h.room in
        let within = spot_within in
        let a = ap length before.1 ∙ length-append (numbers l 0 p) (x ∷ numbers l p (n - p)) in
        let b = length_numbers l 0 p in
        let c = length_numbers l p (n - p) in
        omega arith

    pub inserted_before : {m : List ℕ} → Shifted l p n x m → length m ≡ length l → HasInserted l n x m (n + 1)
    inserted_before s z = record { list = s.list ∙ sym before.1; grown = record { more = omega arith; rest = s.rest; size = z } }

-- ---- what was written since a list was lent, over two steps
drop_more : (l d : List ℕ) (a b : ℕ) → a ≤ b → drop a l ≡ drop a d → drop b l ≡ drop b d
drop_more l d a b h e =
    let s : a + (b - a) ≡ b = omega arith in
    let p : drop (a + (b - a)) l ≡ drop (a + (b - a)) d = sym (drop-drop (b - a) a l) ∙ ap (drop (b - a)) e ∙ drop-drop (b - a) a d in
    rw s at p

pub grown_same : (l : List ℕ) (n : ℕ) → Grown l n l n
grown_same l n = record { more = omega arith; rest = refl; size = refl }

-- a store behind the first n
pub put_grown : (l : List ℕ) (n x : ℕ) → Grown l n (put32_at l (4 * n) x) (n + 1)
unfolding put32_at
put_grown l n x = record { more = omega arith; rest = drop_put l (4 * n) x (4 * (n + 1)) (omega arith); size = simp length-set }

pub grown_on : {d l m : List ℕ} {n p q : ℕ} → Grown d n l p → Grown l p m q → Grown d n m q
grown_on {d = d} {l = l} {p = p} {q = q} g h = record {
  more = omega arith;
  rest = h.rest ∙ drop_more l d (4 * p) (4 * q) (let k : p ≤ q = h.more in omega arith) g.rest;
  size = h.size ∙ g.size;
}

-- ---- room in a list

-- the numbers that are there lie inside it
pub holds_inside : {x n : ℕ} {l : List ℕ} → Holds x l n → 4 * n ≤ length l
holds_inside {x = x} {n = n} {l = l} h =
    let a = insert_more x (numbers l 0 n) in
    let b = length_numbers l 0 n in
    let c = h.room in
    omega arith
