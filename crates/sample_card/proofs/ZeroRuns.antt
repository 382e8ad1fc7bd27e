-- The checksum over a long run of zeros, by squaring: so many steps are a product of 32 digits, and doubling their count squares it.
use mathlib.Core.Path.{◌≡◌, refl, sym, ap, ap₂, ◌∙◌}
use Prim.Native.Nat.{ℕ, zero, suc, ◌+◌, ◌*◌, ◌/◌, ◌%◌, ◌^◌, ◌<◌}
use native.Mathlib.Nat.{mod-lt, mod-one, mod-eq_of_lt, mul-one, one-mul, zero-mul, add-mul, mul_assoc, pow-suc}
use native.Mathlib.Omega.{arith}
use lib.Dec.{lit<}
use lib.Pow.{pow_pos, pow-add, shl_lt, mod-pow-add}
use lib.Bits.{bit_xor, xor_zero_r, xor_shifted, xor_lt}
use lib.ListN.{replicate}
use Rattle.crc32.specs.Checksum.{polynomial, crc_bit, crc_bits, crc_from}
use Rattle.crc32.proofs.Linear.{bits_xor, bits_shifted, bits_add}

-- For a run of zeros: eight steps for each.
pub from_zeros : (n c : ℕ) → crc_from c (replicate n 0) ≡ crc_bits (8 * n) c
unfolding crc_from crc_bits
from_zeros zero c = refl
from_zeros (suc n) c =
    let e : 8 + 8 * n ≡ 8 * suc n = omega arith in
    ap (λ (x : ℕ). crc_from (crc_bits 8 x) (replicate n 0)) (xor_zero_r c)
    ∙ from_zeros n (crc_bits 8 c) ∙ sym (bits_add 8 (8 * n) c) ∙ ap (λ (m : ℕ). crc_bits m c) e

-- ---- steps of one digit

-- For `one_more`: one step before or after the others.
swap : (n x : ℕ) → crc_bit (crc_bits n x) ≡ crc_bits n (crc_bit x)
unfolding crc_bits
swap zero x = refl
swap (suc n) x = swap n (crc_bit x)

-- For `product_is`: nothing stays nothing.
nothing : (n : ℕ) → crc_bits n 0 ≡ 0
unfolding crc_bit crc_bits
nothing zero = refl
nothing (suc n) = nothing n

-- For `product_is`: a digit's multiple.
digit : (n b x : ℕ) → b < 2 → b * crc_bits n x ≡ crc_bits n (b * x)
digit n zero x h = rw (zero-mul (crc_bits n x), zero-mul x) (sym (nothing n))
digit n (suc zero) x h = rw (one-mul (crc_bits n x), one-mul x) refl
digit n (suc (suc b)) x h = absurd (omega arith)

-- For `product_is`: one more step, where the lowest digit was 0 at first.
one_more : (n r j : ℕ) → crc_bit (crc_bits n (r * 2 ^ suc j)) ≡ crc_bits n (r * 2 ^ j)
unfolding crc_bits
one_more n r j =
    let e : r * 2 ^ suc j ≡ r * 2 ^ j * 2 = rw (pow-suc 2 j, mul_assoc) in
    rw e (swap n (r * 2 ^ j * 2) ∙ ap (crc_bits n) (bits_shifted 1 (r * 2 ^ j)))

-- ---- the steps of a value as a product

-- the top digit: what the steps make of it tells what they make of all values
abbrev pub top : ℕ
top = 2 ^ 31

-- of the k lowest digits of c: for each, t after the steps that its place is below the top
unfoldable pub product : ℕ → ℕ → ℕ → ℕ
product zero t c = 0
product (suc k) t c = bit_xor (c / 2 ^ k % 2 * t) (crc_bit (product k t c))

-- For `by_product`: what the product is, of the k lowest digits.
product_is : (n m c k j : ℕ) → j + k ≡ suc m → product k (crc_bits n (2 ^ m)) c ≡ crc_bits n (c % 2 ^ k * 2 ^ j)
unfolding product
product_is n m c zero j h = rw (mod-one c, zero-mul (2 ^ j)) (sym (nothing n))
product_is n m c (suc k) j h =
    let b : ℕ = c / 2 ^ k % 2 in
    let r : ℕ = c % 2 ^ k in
    let e : m ≡ k + j = omega arith in
    let q : suc k ≡ 1 + k = omega arith in
    let small : r * 2 ^ j < 2 ^ m = rw e (shl_lt k j (mod-lt c (pow_pos k))) in
    let apart : c % 2 ^ suc k * 2 ^ j ≡ b * 2 ^ m + r * 2 ^ j = rw (e, q, mod-pow-add c 1 k, add-mul, mul_assoc, pow-add) in
    ap₂ bit_xor (digit n b (2 ^ m) (mod-lt (c / 2 ^ k) (lit< tt)))
    (ap crc_bit (product_is n m c k (suc j) (omega arith)) ∙ one_more n r j)
    ∙ sym (bits_xor n (b * 2 ^ m) (r * 2 ^ j)) ∙ ap (crc_bits n) (xor_shifted b m (r * 2 ^ j) small ∙ sym apart)

-- For `by_product`: steps keep to 32 digits.
bit_below : (c : ℕ) → c < 2 ^ 32 → crc_bit c < 2 ^ 32
unfolding crc_bit
bit_below c h = let l : c % 2 < 2 = mod-lt c (lit< tt) in xor_lt 32 (c / 2) (c % 2 * polynomial) (omega arith) (omega arith)

bits_below : (n c : ℕ) → c < 2 ^ 32 → crc_bits n c < 2 ^ 32
unfolding crc_bits
bits_below zero c h = h
bits_below (suc n) c h = bits_below n (crc_bit c) (bit_below c h)

pub by_product : (n c : ℕ) → c < 2 ^ 32 → crc_bits n c ≡ product 32 (crc_bits n top) c
by_product n c h = sym (product_is n 31 c 32 0 refl ∙ ap (crc_bits n) (mul-one (c % 2 ^ 32) ∙ mod-eq_of_lt h))

-- ---- squaring: each turn doubles the count of the steps
unfoldable pub squared : ℕ → ℕ → ℕ
squared zero t = t
squared (suc k) t = squared k (product 32 t t)

pub by_squares : (k n : ℕ) → crc_bits (n * 2 ^ k) top ≡ squared k (crc_bits n top)
unfolding squared
by_squares zero n = ap (λ (m : ℕ). crc_bits m top) (mul-one n)
by_squares (suc k) n =
    let t : ℕ = crc_bits n top in
    let e : n * 2 ^ suc k ≡ (n + n) * 2 ^ k = rw (pow-suc 2 k) (omega arith) in
    rw e (by_squares k (n + n) ∙ ap (squared k) (bits_add n n top ∙ by_product n t (bits_below n top (lit< tt))))
