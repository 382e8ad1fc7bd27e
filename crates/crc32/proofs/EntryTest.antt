-- The table's rule at all entries, from two tests that antt computes: the first row is eight steps of each byte, and each
-- later entry is eight steps, taken by the first row, of the entry a row before it.
use mathlib.Core.Path.{◌≡◌, sym, ap, ◌∙◌}
use mathlib.Core.Bool.{Bool, true, false, ◌&&◌}
use mathlib.Core.List.{List, [], ◌∷◌}
use Prim.Native.Nat.{ℕ, zero, suc, ◌+◌, ◌*◌, ◌/◌, ◌%◌, ◌<◌}
use native.Mathlib.Nat.{mod-lt, add-zero, zero-add, add-suc, suc-add, le_of_suc-le-suc, not-suc-le-zero}
use native.Mathlib.Omega.{arith}
use lib.Bits.{bit_xor}
use lib.Dec.{T, eqb, eqb→eq, lit<}
use lib.Ieee.Fits.{and_l, and_r}
use lib.ListN.{length, get_or, take, drop, length-take, length-drop}
use lib.Seq.{get_or-take, get_or-drop}
use Rattle.crc32.specs.Checksum.{crc_bits}
use Rattle.crc32.specs.Table.{IsTable}
use Rattle.crc32.proofs.Linear.{bits_add, one_byte}

-- The test: each number of the second list is what f makes of the one at its place in the first.
abbrev pub follows : (ℕ → ℕ) → List ℕ → List ℕ → Bool
follows f xs [] = true
follows f [] (y ∷ ys) = false
follows f (x ∷ xs) (y ∷ ys) = eqb y (f x) && follows f xs ys

-- For both tests: what a test that passes says of one place.
followed : (f : ℕ → ℕ) (xs ys : List ℕ) → T (follows f xs ys) → (i : ℕ) → i < length ys → get_or ys i 0 ≡ f (get_or xs i 0)
followed f xs [] t i h = absurd (not-suc-le-zero h)
followed f [] (y ∷ ys) t i h = absurd t
followed f (x ∷ xs) (y ∷ ys) t zero h = eqb→eq y (f x) (and_l (eqb y (f x)) (follows f xs ys) t)
followed f (x ∷ xs) (y ∷ ys) t (suc i) h = followed f xs ys (and_r (eqb y (f x)) (follows f xs ys) t) i (le_of_suc-le-suc h)

-- n numbers from i on.
abbrev pub count : ℕ → ℕ → List ℕ
count zero i = []
count (suc n) i = i ∷ count n (suc i)

-- For the first row: what stands among them.
count_at : (n i k : ℕ) → k < n → get_or (count n i) k 0 ≡ i + k
count_at zero i k h = absurd (not-suc-le-zero h)
count_at (suc n) i zero h = sym (add-zero i)
count_at (suc n) i (suc k) h = count_at n (suc i) k (le_of_suc-le-suc h) ∙ suc-add i k ∙ sym (add-suc i k)

-- Eight steps by the first row.
abbrev pub stepped : List ℕ → ℕ → ℕ
stepped table v = bit_xor (get_or table (v % 256) 0) (v / 256)

module _ (table : List ℕ) (size : length table ≡ 2048) (first : T (follows (crc_bits 8) (count 256 0) (take 256 table)))
    (later : T (follows (stepped table) table (drop 256 table))) where
  -- For `entry_is`: the first row.
  row : (k : ℕ) → k < 256 → get_or table k 0 ≡ crc_bits 8 k
  row k h =
      let l : k < length (take 256 table) = rw length-take (omega arith) in
      sym (get_or-take 256 table k 0 h)
      ∙ followed (crc_bits 8) (count 256 0) (take 256 table) first k l
      ∙ ap (crc_bits 8) (count_at 256 0 k h ∙ zero-add k)

  -- For `entry_is`: a row after another.
  next : (i : ℕ) → i < 1792 → get_or table (256 + i) 0 ≡ crc_bits 8 (get_or table i 0)
  next i h =
      let l : i < length (drop 256 table) = rw length-drop (omega arith) in
      let v : ℕ = get_or table i 0 in
      sym (get_or-drop 256 table i 0)
      ∙ followed (stepped table) table (drop 256 table) later i l
      ∙ ap (λ (x : ℕ). bit_xor x (v / 256)) (row (v % 256) (mod-lt v (lit< tt)))
      ∙ sym (one_byte v)

  -- For `is_table`: row by row.
  entry_is : (j k : ℕ) → j < 8 → k < 256 → get_or table (256 * j + k) 0 ≡ crc_bits (8 * (j + 1)) k
  entry_is zero k h l =
      let e : 256 * 0 + k ≡ k = omega arith in
      rw e (row k l)
  entry_is (suc j) k h l =
      let e : 256 * suc j + k ≡ 256 + (256 * j + k) = omega arith in
      let q : 8 * (suc j + 1) ≡ 8 * (j + 1) + 8 = omega arith in
      rw (e, q)
      (next (256 * j + k) (omega arith) ∙ ap (crc_bits 8) (entry_is j k (omega arith) l) ∙ sym (bits_add (8 * (j + 1)) 8 k))

  -- For the code's constant.
  pub is_table : IsTable table
  is_table = record { entry = entry_is }
