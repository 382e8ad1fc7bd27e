-- Numbers written as bytes are the numbers read, and what stands at the front of lent bytes as the equation of a public contract.
-- Where bytes are given back it matters that each is below 256, which code knows of every byte of its slices.
use Prim.Native.Nat.{ℕ, zero, suc, ◌+◌, ◌*◌, ◌/◌, ◌%◌, ◌≤◌, ◌<◌}
use native.Mathlib.Omega.{arith}
use native.Mathlib.Numerals.{add-one}
use mathlib.Core.Path.{◌≡◌, refl, sym, ap, ◌∙◌}
use mathlib.Core.List.{List, [], ◌∷◌, ◌++◌}
use lib.ListN.{length, get_or, take, drop, take-append-drop, length-append, length-drop}
use lib.Seq.{drop-cons, drop_at, get_or-drop}
use Rattle.field.specs.Number.{le16, le32}
use Rattle.list.specs.Lists.{numbers, column, bytes_of, over}
use Rattle.list.proofs.Entries.{length_numbers}

digits : (a b c d : ℕ) → a < 256 → b < 256 → c < 256 → d < 256 → let x = a + 256 * b + 65536 * (c + 256 * d) in
    (x % 256 ≡ a) × (x / 256 % 256 ≡ b) × (x / 65536 % 256 ≡ c) × (x / 16777216 ≡ d)
digits a b c d p q r s = (omega arith, omega arith, omega arith, omega arith)

drop_one : (l : List ℕ) (j : ℕ) → j < length l → drop j l ≡ get_or l j 0 ∷ drop (j + 1) l
drop_one l j h = drop-cons l j 0 h ∙ ap (λ (k : ℕ). get_or l j 0 ∷ drop k l) (sym (add-one j))

drop_four : (l : List ℕ) (j : ℕ) → j + 4 ≤ length l
    → drop j l ≡ get_or l j 0 ∷ get_or l (j + 1) 0 ∷ get_or l (j + 2) 0 ∷ get_or l (j + 2 + 1) 0 ∷ drop (j + 4) l
drop_four l j h =
    let e : j + 1 + 1 ≡ j + 2 = omega arith in
    let f : j + 2 + 1 + 1 ≡ j + 4 = omega arith in
    let p : drop (j + 1) l ≡ get_or l (j + 1) 0 ∷ drop (j + 2) l = rw e at (drop_one l (j + 1) (omega arith)) in
    let q : drop (j + 2) l ≡ get_or l (j + 2) 0 ∷ drop (j + 2 + 1) l = drop_one l (j + 2) (omega arith) in
    let r : drop (j + 2 + 1) l ≡ get_or l (j + 2 + 1) 0 ∷ drop (j + 4) l = rw f at (drop_one l (j + 2 + 1) (omega arith)) in
    drop_one l j (omega arith) ∙ rw (p, q, r)

bytes_numbers : (l : List ℕ) → ((k : ℕ) → get_or l k 0 < 256) → (n i : ℕ) → 4 * (i + n) ≤ length l
    → bytes_of (numbers l i n) ≡ take (4 * n) (drop (4 * i) l)
unfolding numbers bytes_of le32 le16
bytes_numbers l f zero i h = refl
bytes_numbers l f (suc n) i h =
    let e : 4 * suc n ≡ suc (suc (suc (suc (4 * n)))) = omega arith in
    let g : 4 * (i + 1) ≡ 4 * i + 4 = omega arith in
    let q = digits (get_or l (4 * i) 0) (get_or l (4 * i + 1) 0) (get_or l (4 * i + 2) 0) (get_or l (4 * i + 2 + 1) 0) (f _) (f _) (f _) (f _) in
    let ih : bytes_of (numbers l (i + 1) n) ≡ take (4 * n) (drop (4 * i + 4) l) = rw g at (bytes_numbers l f n (i + 1) (omega arith)) in
    rw (e, drop_four l (4 * i) (omega arith), q.0, q.1, q.2, q.3, ih) refl

-- The public equation: the first n numbers are ns, and all behind them is as d has it.
pub over_written : (l d : List ℕ) {ns : List ℕ} (n : ℕ) → numbers l 0 n ≡ ns → drop (4 * n) l ≡ drop (4 * n) d
    → ((k : ℕ) → get_or l k 0 < 256) → 4 * n ≤ length l → l ≡ over ns d
unfolding over
over_written l d n e r f h =
    let p : bytes_of (numbers l 0 n) ≡ take (4 * n) l = bytes_numbers l f n 0 (omega arith) in
    rw (← e, length_numbers l 0 n, p, ← r) (sym (take-append-drop (4 * n) l))

-- A number behind a front is read at its offset behind it.
pub le32_drop : (l : List ℕ) (at i : ℕ) → le32 l (at + i) ≡ le32 (drop at l) i
unfolding le32 le16
le32_drop l at i = rw (
  byte i (at + i) refl,
  byte (i + 1) (at + i + 1) (omega arith),
  byte (i + 2) (at + i + 2) (omega arith),
  byte (i + 2 + 1) (at + i + 2 + 1) (omega arith),
)
  where
    byte : (j m : ℕ) → at + j ≡ m → get_or (drop at l) j 0 ≡ get_or l m 0
    byte j m e = rw (get_or-drop at l j 0, e)

-- The numbers written are the numbers read.
numbers_drop : (l : List ℕ) (i k : ℕ) → numbers l (i + 1) k ≡ numbers (drop 4 l) i k
unfolding numbers
numbers_drop l i zero = refl
numbers_drop l i (suc k) =
    let e : 4 * (i + 1) ≡ 4 + 4 * i = omega arith in
    rw (e, le32_drop l 4 (4 * i), numbers_drop l (i + 1) k)

numbers_bytes : (ns r : List ℕ) → numbers (bytes_of ns ++ r) 0 (length ns) ≡ ns
unfolding numbers bytes_of le32 le16
numbers_bytes [] r = refl
numbers_bytes (x ∷ xs) r =
    let e : x % 256 + 256 * (x / 256 % 256) + 65536 * (x / 65536 % 256 + 256 * (x / 16777216)) ≡ x = omega arith in
    rw (e, numbers_drop (bytes_of (x ∷ xs) ++ r) 0 (length xs), numbers_bytes xs r)

pub numbers_over : (ns d : List ℕ) → numbers (over ns d) 0 (length ns) ≡ ns
unfolding over
numbers_over ns d = numbers_bytes ns (drop (4 * length ns) d)

pub length_bytes : (ns : List ℕ) → length (bytes_of ns) ≡ 4 * length ns
unfolding bytes_of
length_bytes [] = refl
length_bytes (x ∷ xs) = let ih = length_bytes xs in omega arith

-- behind what was written all is as it was
pub drop_over : (ns d : List ℕ) → drop (4 * length ns) (over ns d) ≡ drop (4 * length ns) d
unfolding over
drop_over ns d = drop_at (bytes_of ns) (drop (4 * length ns) d) (4 * length ns) (length_bytes ns)

-- what was written lies inside the slice
pub over_inside : (ns d : List ℕ) → 4 * length ns ≤ length (over ns d)
unfolding over
over_inside ns d = omega (arith, length-append (bytes_of ns) (drop (4 * length ns) d), length_bytes ns)

-- ---- the same at an offset: numbers without gaps
pub column_numbers : (l : List ℕ) (at i k : ℕ) → column 4 l (at + 4 * i) k ≡ numbers (drop at l) i k
unfolding column numbers
column_numbers l at i zero = refl
column_numbers l at i (suc k) =
    let e : at + 4 * i + 4 ≡ at + 4 * (i + 1) = omega arith in
    rw (e, le32_drop l at (4 * i), column_numbers l at (i + 1) k)

column_start : (l : List ℕ) (at k : ℕ) → column 4 l at k ≡ numbers (drop at l) 0 k
column_start l at k = let e : at + 4 * 0 ≡ at = omega arith in rw e at (column_numbers l at 0 k)

pub column_bytes : (l : List ℕ) (at : ℕ) (ns r : List ℕ) → drop at l ≡ bytes_of ns ++ r → column 4 l at (length ns) ≡ ns
column_bytes l at ns r e = rw (column_start l at (length ns), e) (numbers_bytes ns r)

pub bytes_column : (l : List ℕ) → ((k : ℕ) → get_or l k 0 < 256) → (at n : ℕ) → at + 4 * n ≤ length l
    → bytes_of (column 4 l at n) ≡ take (4 * n) (drop at l)
bytes_column l f at n h =
    rw (column_start l at n) (bytes_numbers (drop at l) (λ k. rw (get_or-drop at l k 0) (f (at + k))) n 0 (rw (length-drop at l) (omega arith)))
