-- The ones of a map by bytes, and by eight bytes at once: the map's bits from the top of each byte are the digits of the byte.
use mathlib.Core.Path.{◌≡◌, sym, ap, ◌∙◌}
use mathlib.Core.List.{List}
use Prim.Native.Nat.{ℕ, zero, suc, ◌+◌, ◌-◌, ◌*◌, ◌/◌, ◌%◌, ◌^◌, ◌≤◌, ◌<◌}
use native.Mathlib.Omega.{arith}
use native.Mathlib.Numerals.{add-one}
use native.Mathlib.Nat.{pow-suc, div-div-eq-div-mul, mul_comm, add_comm}
use lib.ListN.{get_or}
use lib.Count.{ones, ones_step, ones_cat}
use Rattle.field.specs.Number.{le16, le32, le64}
use Rattle.field.specs.Map.{top_bit}
use Rattle.field.proofs.Maps.{top_bit_lem}
use Rattle.field.proofs.Widths.{le16_fits, le32_fits}
use Rattle.sit.specs.Entry.{ones_below}

-- no more ones than bits
pub ones_most : (map : List ℕ) (b : ℕ) → ones_below b map ≤ b
unfolding ones_below
ones_most map zero = omega arith
ones_most map (suc b) = omega (arith, ones_most map b, top_bit_lem map b)

ones_next : (map : List ℕ) (b : ℕ) → ones_below (b + 1) map ≡ ones_below b map + top_bit map b
unfolding ones_below
ones_next map b = rw (add-one b)

-- the digits of hi above the w digits of lo
ones_joined : (w lo hi : ℕ) → lo < 2 ^ w → ones (lo + 2 ^ w * hi) ≡ ones lo + ones hi
ones_joined w lo hi h =
    ap ones (add_comm lo (2 ^ w * hi) ∙ ap (λ (x : ℕ). x + lo) (mul_comm (2 ^ w) hi)) ∙ ones_cat w hi lo h ∙ add_comm (ones hi) (ones lo)

module _ (map : List ℕ) (bytes : (k : ℕ) → get_or map k 0 < 256) where
  module _ (k : ℕ) where
    abbrev byte : ℕ
    byte = get_or map k 0

    bit_of_byte : (j : ℕ) → j < 8 → top_bit map (8 * k + j) ≡ byte / 2 ^ (7 - j) % 2
    unfolding top_bit
    bit_of_byte j h =
        let e : (8 * k + j) / 8 ≡ k = omega arith in
        let f : (8 * k + j) % 8 ≡ j = omega arith in
        rw (e, f)

    -- the upper j bits of a byte
    upper_bits : (j : ℕ) → j ≤ 8 → ones_below (8 * k + j) map ≡ ones_below (8 * k) map + ones (byte / 2 ^ (8 - j))
    unfolding ones
    upper_bits zero h =
        let e : 8 * k + 0 ≡ 8 * k = omega arith in
        let z : byte / 256 ≡ 0 = omega (arith, bytes k) in
        rw (e, z) (omega arith)
    upper_bits (suc j) h =
        let m : 7 - j ≡ 8 - suc j = omega arith in
        let p : 2 ^ (7 - j) * 2 ≡ 2 ^ (8 - j) = sym (pow-suc 2 (7 - j)) ∙ ap (λ (x : ℕ). 2 ^ x) (let q : suc (7 - j) ≡ 8 - j = omega arith in q) in
        let b : top_bit map (8 * k + j) ≡ byte / 2 ^ (7 - j) % 2 = bit_of_byte j (omega arith) in
        let d : byte / 2 ^ (7 - j) / 2 ≡ byte / 2 ^ (8 - j) = div-div-eq-div-mul byte (2 ^ (7 - j)) 2 ∙ ap (λ (x : ℕ). byte / x) p in
        let s : ones (byte / 2 ^ (7 - j)) ≡ byte / 2 ^ (7 - j) % 2 + ones (byte / 2 ^ (8 - j)) =
        ones_step (byte / 2 ^ (7 - j)) ∙ ap (λ (x : ℕ). byte / 2 ^ (7 - j) % 2 + ones x) d in
        let n : 8 * k + suc j ≡ 8 * k + j + 1 = omega arith in
        let i : ones_below (8 * k + j) map ≡ ones_below (8 * k) map + ones (byte / 2 ^ (8 - j)) = upper_bits j (omega arith) in
        let o : ones_below (8 * k + j + 1) map ≡ ones_below (8 * k + j) map + top_bit map (8 * k + j) = ones_next map (8 * k + j) in
        rw (n, ← m) (omega arith)

  -- so many bytes from byte k on, and the number that they are
  abbrev Counted : ℕ → ℕ → ℕ → Type 0
  Counted k n x = ones_below (8 * (k + n)) map ≡ ones_below (8 * k) map + ones x

  counted_8 : (k : ℕ) → Counted k 1 (get_or map k 0)
  counted_8 k =
      let e : 8 * (k + 1) ≡ 8 * k + 8 = omega arith in
      let o : get_or map k 0 / 1 ≡ get_or map k 0 = omega arith in
      rw e (rw o at (upper_bits k 8 (omega arith)))

  -- one number above another of w digits, in twice as many bytes
  counted_twice : (w k n lo hi : ℕ) → lo < 2 ^ w → Counted k n lo → Counted (k + n) n hi → Counted k (n + n) (lo + 2 ^ w * hi)
  counted_twice w k n lo hi h p q =
      let e : k + (n + n) ≡ k + n + n = omega arith in
      let j = ones_joined w lo hi h in
      rw e (omega arith)

  counted_16 : (k : ℕ) → Counted k 2 (le16 map k)
  unfolding le16
  counted_16 k = counted_twice 8 k 1 (get_or map k 0) (get_or map (k + 1) 0) (bytes k) (counted_8 k) (counted_8 (k + 1))

  counted_32 : (k : ℕ) → Counted k 4 (le32 map k)
  unfolding le32
  counted_32 k = counted_twice 16 k 2 (le16 map k) (le16 map (k + 2)) (le16_fits map bytes k) (counted_16 k) (counted_16 (k + 2))

  counted_64 : (k : ℕ) → Counted k 8 (le64 map k)
  unfolding le64
  counted_64 k = counted_twice 32 k 4 (le32 map k) (le32 map (k + 4)) (le32_fits map bytes k) (counted_32 k) (counted_32 (k + 4))

  -- a loop's turn: eight bytes more
  pub ones_word : (i : ℕ) → ones_below (64 * (i + 1)) map ≡ ones_below (64 * i) map + ones (le64 map (8 * i))
  ones_word i =
      let e : 64 * (i + 1) ≡ 8 * (8 * i + 8) = omega arith in
      let f : 64 * i ≡ 8 * (8 * i) = omega arith in
      rw (e, f) (counted_64 (8 * i))
