-- Zeros of a map counted in words. A count over any digits is cut, stopped and gone on with by the same laws; the digits of a word
-- that is read from a map are the map's bits, lowest first.
use Prim.Native.Nat.{ℕ, zero, suc, min, ◌+◌, ◌-◌, ◌*◌, ◌/◌, ◌%◌, ◌^◌, ◌≤◌, ◌<◌}
use native.Mathlib.Nat.{mul_assoc, add-mul-div_left, add-mul-mod_self_left, div-eq_of_lt, eq-zero-or-pos}
use native.Mathlib.Omega.{arith}
use mathlib.Core.Path.{◌≡◌, refl, sym, ap, ap₂, ◌∙◌}
use mathlib.Core.List.{List}
use mathlib.Core.Logic.{⊎_elim}
use lib.ListN.{get_or}
use lib.Count.{under, count_trailing_zeros}
use lib.Pow.{pow_pos, pow-add, shr-shr}
use Rattle.field.specs.Number.{le16, le32, le64}
use Rattle.field.specs.Map.{low_bit, zeros_from, low_zeros}
use Rattle.field.proofs.Widths.{le16_fits, le32_fits}

-- ---- zeros of any digits
module _ (bit : ℕ → ℕ) where
  -- there are at most as many as are counted over
  pub zeros_le : (n b : ℕ) → zeros_from bit n b ≤ n
  unfolding zeros_from
  zeros_le zero b = omega arith
  zeros_le (suc n) b = step (bit b) (zeros_le n (b + 1))
    where
      step : (d : ℕ) {z : ℕ} → z ≤ n → under d z ≤ suc n
      step zero h = omega arith
      step (suc d) h = omega arith

  -- over fewer digits than there are zeros, all are
  zeros_part : (n m b : ℕ) → m ≤ zeros_from bit n b → zeros_from bit m b ≡ m
  unfolding zeros_from
  zeros_part n zero b h = refl
  zeros_part zero (suc m) b h = absurd (omega arith)
  zeros_part (suc n) (suc m) b h = step (bit b) (zeros_part n m (b + 1)) h
    where
      step : (d : ℕ) {y z : ℕ} → (m ≤ z → y ≡ m) → suc m ≤ under d z → under d y ≡ suc m
      step zero f k = ap suc (f (omega arith))
      step (suc d) f k = absurd (omega arith)

  -- a set digit ends the count, however many more are counted over
  zeros_stop : (n m b : ℕ) → zeros_from bit n b < n → zeros_from bit n b < m → zeros_from bit m b ≡ zeros_from bit n b
  unfolding zeros_from
  zeros_stop zero m b h k = absurd (omega arith)
  zeros_stop (suc n) zero b h k = absurd (omega arith)
  zeros_stop (suc n) (suc m) b h k = step (bit b) (zeros_stop n m (b + 1)) h k
    where
      step : (d : ℕ) {y z : ℕ} → (z < n → z < m → y ≡ z) → under d z < suc n → under d z < suc m → under d y ≡ under d z
      step zero f p q = ap suc (f (omega arith) (omega arith))
      step (suc d) f p q = refl

  -- behind digits that are all 0 the count goes on
  zeros_on : (n m b : ℕ) → zeros_from bit n b ≡ n → zeros_from bit (n + m) b ≡ n + zeros_from bit m (b + n)
  unfolding zeros_from
  zeros_on zero m b h =
      let p : zero + m ≡ m = omega arith in
      let q : b + zero ≡ b = omega arith in
      let r : zero + zeros_from bit m b ≡ zeros_from bit m b = omega arith in
      rw (p, q, r)
  zeros_on (suc n) m b h =
      let p : suc n + m ≡ suc (n + m) = omega arith in
      let q : b + 1 + n ≡ b + suc n = omega arith in
      ap (λ (k : ℕ). zeros_from bit k b) p
      ∙ step (bit b) (zeros_from bit m (b + suc n)) h (λ e. zeros_on n m (b + 1) e ∙ ap (λ (i : ℕ). n + zeros_from bit m i) q)
    where
      step : (d x : ℕ) {y z : ℕ} → under d z ≡ suc n → (z ≡ n → y ≡ n + x) → under d y ≡ suc n + x
      step zero x e f = let g = f (omega arith) in omega arith
      step (suc d) x e f = absurd (omega arith)

  -- a run of n zeros from digit b on, and z of the w digits behind it
  module _ (n w z b : ℕ) (run : zeros_from bit n b ≡ n) (behind : z ≡ zeros_from bit w (b + n)) where
    -- the run goes on as far as those reach
    pub run_on : (k : ℕ) → n ≤ k → k ≤ n + z → zeros_from bit k b ≡ k
    run_on k h l =
        let e : k ≡ n + (k - n) = omega arith in
        ap (λ (i : ℕ). zeros_from bit i b) e ∙ zeros_on n (k - n) b run ∙ ap (λ (i : ℕ). n + i) (zeros_part w (k - n) (b + n) (omega arith)) ∙ sym e

    -- and ends where a digit is set
    pub run_end : (k : ℕ) → z < w → n + z < k → zeros_from bit k b ≡ n + z
    run_end k h l =
        let e : k ≡ n + (k - n) = omega arith in
        let s : zeros_from bit (k - n) (b + n) ≡ zeros_from bit w (b + n) = zeros_stop w (k - n) (b + n) (omega arith) (omega arith) in
        ap (λ (i : ℕ). zeros_from bit i b) e ∙ zeros_on n (k - n) b run ∙ ap (λ (i : ℕ). n + i) (s ∙ sym behind)

-- digits that are the same have the same zeros
zeros_same : (f g : ℕ → ℕ) (n a b : ℕ) → ((i : ℕ) → i < n → f (a + i) ≡ g (b + i)) → zeros_from f n a ≡ zeros_from g n b
unfolding zeros_from
zeros_same f g zero a b h = refl
zeros_same f g (suc n) a b h =
    let p : a ≡ a + 0 = omega arith in
    let q : b + 0 ≡ b = omega arith in
    let first : f a ≡ g b = ap f p ∙ h 0 (omega arith) ∙ ap g q in
    ap₂ under first (zeros_same f g n (a + 1) (b + 1) later)
  where
    later : (i : ℕ) → i < n → f (a + 1 + i) ≡ g (b + 1 + i)
    later i k =
        let p : a + 1 + i ≡ a + (i + 1) = omega arith in
        let q : b + (i + 1) ≡ b + 1 + i = omega arith in
        ap f p ∙ h (i + 1) (omega arith) ∙ ap g q

-- ---- the digits of a number
abbrev digit : ℕ → ℕ → ℕ
digit x i = x / 2 ^ i % 2

-- zeros at the end of a number are those of its digits
trailing_zeros : (x k i : ℕ) → count_trailing_zeros k (x / 2 ^ i) ≡ zeros_from (digit x) k i
unfolding count_trailing_zeros zeros_from
trailing_zeros x zero i = refl
trailing_zeros x (suc k) i = ap (under (digit x i)) (ap (count_trailing_zeros k) (shr-shr x i 1) ∙ trailing_zeros x k (i + 1))

-- a set digit above a single zero
single_zero : (x : ℕ) → x % 4 ≡ 2 → count_trailing_zeros 64 x ≡ 1
unfolding count_trailing_zeros
single_zero x h =
    let p : x % 2 ≡ 0 = omega arith in
    let half : x / 2 ≡ 2 * (x / 4) + 1 = omega arith in
    let odd : (2 * (x / 4) + 1) % 2 ≡ 1 = omega arith in
    rw (p, half, odd)

-- those of one number above another of w digits
module _ (w lo hi : ℕ) where
  lower_digit : (i : ℕ) → i < w → digit (lo + 2 ^ w * hi) i ≡ digit lo i
  lower_digit i h =
      let k : ℕ = w - suc i in
      let e : w ≡ i + (1 + k) = omega arith in
      let p : 2 ^ w ≡ 2 ^ i * (2 * 2 ^ k) = ap (λ (x : ℕ). 2 ^ x) e ∙ pow-add 2 i (1 + k) ∙ ap (λ (x : ℕ). 2 ^ i * x) (pow-add 2 1 k) in
      let q : 2 ^ w * hi ≡ 2 ^ i * (2 * (2 ^ k * hi)) =
      ap (λ (x : ℕ). x * hi) p ∙ mul_assoc (2 ^ i) (2 * 2 ^ k) hi ∙ ap (λ (x : ℕ). 2 ^ i * x) (mul_assoc 2 (2 ^ k) hi) in
      ap (λ (x : ℕ). (lo + x) / 2 ^ i % 2) q ∙ ap (λ (x : ℕ). x % 2) (add-mul-div_left lo (2 * (2 ^ k * hi)) (pow_pos i))
      ∙ add-mul-mod_self_left (lo / 2 ^ i) 2 (2 ^ k * hi)

  upper_digit : lo < 2 ^ w → (i : ℕ) → digit (lo + 2 ^ w * hi) (w + i) ≡ digit hi i
  upper_digit h i =
      let p : (lo + 2 ^ w * hi) / 2 ^ w ≡ lo / 2 ^ w + hi = add-mul-div_left lo hi (pow_pos w) in
      let q : lo / 2 ^ w ≡ 0 = div-eq_of_lt h in
      let e : (lo + 2 ^ w * hi) / 2 ^ w ≡ hi = omega arith in
      ap (λ (x : ℕ). x % 2) (sym (shr-shr (lo + 2 ^ w * hi) w i) ∙ ap (λ (x : ℕ). x / 2 ^ i) e)

-- ---- a word of a map
module _ (map : List ℕ) (bytes : (k : ℕ) → get_or map k 0 < 256) where
  -- so many bytes from byte k on, and the number whose digits they show
  abbrev Shown : ℕ → ℕ → ℕ → Type 0
  Shown k n x = (i : ℕ) → i < 8 * n → digit x i ≡ low_bit map (8 * k + i)

  shown_8 : (k : ℕ) → Shown k 1 (get_or map k 0)
  unfolding low_bit
  shown_8 k i h =
      let e : (8 * k + i) / 8 ≡ k = omega arith in
      let f : (8 * k + i) % 8 ≡ i = omega arith in
      rw (e, f)

  -- one number above another, in twice as many bytes
  shown_twice : (n k lo hi : ℕ) → lo < 2 ^ (8 * n) → Shown k n lo → Shown (k + n) n hi → Shown k (n + n) (lo + 2 ^ (8 * n) * hi)
  shown_twice n k lo hi fits p q i h = ⊎_elim (λ z. above (omega arith)) (λ z. below (omega arith)) (eq-zero-or-pos (8 * n - i))
    where
      below : i < 8 * n → digit (lo + 2 ^ (8 * n) * hi) i ≡ low_bit map (8 * k + i)
      below l = lower_digit (8 * n) lo hi i l ∙ p i l

      above : 8 * n ≤ i → digit (lo + 2 ^ (8 * n) * hi) i ≡ low_bit map (8 * k + i)
      above l =
          let j : ℕ = i - 8 * n in
          let e : i ≡ 8 * n + j = omega arith in
          let f : 8 * (k + n) + j ≡ 8 * k + i = omega arith in
          ap (digit (lo + 2 ^ (8 * n) * hi)) e ∙ upper_digit (8 * n) lo hi fits j ∙ q j (omega arith) ∙ ap (low_bit map) f

  shown_16 : (k : ℕ) → Shown k 2 (le16 map k)
  unfolding le16
  shown_16 k = shown_twice 1 k (get_or map k 0) (get_or map (k + 1) 0) (bytes k) (shown_8 k) (shown_8 (k + 1))

  shown_32 : (k : ℕ) → Shown k 4 (le32 map k)
  unfolding le32
  shown_32 k = shown_twice 2 k (le16 map k) (le16 map (k + 2)) (le16_fits map bytes k) (shown_16 k) (shown_16 (k + 2))

  shown_64 : (k : ℕ) → Shown k 8 (le64 map k)
  unfolding le64
  shown_64 k = shown_twice 4 k (le32 map k) (le32 map (k + 4)) (le32_fits map bytes k) (shown_32 k) (shown_32 (k + 4))

  -- the word from the byte of bit b on: as a shift leaves the bits before b out, so many of its digits are left
  module _ (b : ℕ) where
    abbrev word : ℕ
    word = le64 map (b / 8)

    abbrev most : ℕ
    most = 64 - b % 8

    word_digits : zeros_from (digit word) most (b % 8) ≡ low_zeros map most b
    word_digits = zeros_same (digit word) (low_bit map) most (b % 8) b same
      where
        same : (i : ℕ) → i < most → digit word (b % 8 + i) ≡ low_bit map (b + i)
        same i h =
            let e : 8 * (b / 8) + (b % 8 + i) ≡ b + i = omega arith in
            shown_64 (b / 8) (b % 8 + i) (omega arith) ∙ ap (low_bit map) e

    -- zeros that end in the word, and zeros to its end: the shift brings in more that aren't the map's
    pub word_ends : count_trailing_zeros 64 (word / 2 ^ (b % 8)) < most → count_trailing_zeros 64 (word / 2 ^ (b % 8)) ≡ low_zeros map most b
    word_ends h =
        let e = trailing_zeros word 64 (b % 8) in
        e ∙ sym (zeros_stop (digit word) 64 most (b % 8) (omega arith) (omega arith)) ∙ word_digits

    pub word_one : word / 2 ^ (b % 8) % 4 ≡ 2 → 1 ≡ low_zeros map most b
    word_one h =
        let e = single_zero (word / 2 ^ (b % 8)) h in
        sym e ∙ word_ends (omega arith)

    pub word_passed : most ≤ count_trailing_zeros 64 (word / 2 ^ (b % 8)) → most ≡ low_zeros map most b
    word_passed h =
        let e = trailing_zeros word 64 (b % 8) in
        sym (zeros_part (digit word) 64 most (b % 8) (omega arith)) ∙ word_digits

    -- either way there are as many as the lower of the two
    pub word_least : min (count_trailing_zeros 64 (word / 2 ^ (b % 8))) most ≡ low_zeros map most b
    word_least = ⊎_elim (λ z. passed (omega arith)) (λ z. ends (omega arith)) (eq-zero-or-pos (most - count_trailing_zeros 64 (word / 2 ^ (b % 8))))
      where
        passed : most ≤ count_trailing_zeros 64 (word / 2 ^ (b % 8)) → min (count_trailing_zeros 64 (word / 2 ^ (b % 8))) most ≡ low_zeros map most b
        passed h = let e = word_passed h in omega arith

        ends : count_trailing_zeros 64 (word / 2 ^ (b % 8)) < most → min (count_trailing_zeros 64 (word / 2 ^ (b % 8))) most ≡ low_zeros map most b
        ends h = let e = word_ends h in omega arith
