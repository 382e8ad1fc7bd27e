-- The steps of the checksum are linear for `bit_xor`, so that the bytes of a value may be stepped apart: why a table works.
use mathlib.Core.Path.{◌≡◌, refl, sym, ap, ap₂, ◌∙◌}
use Prim.Native.Nat.{ℕ, zero, suc, ◌+◌, ◌*◌, ◌/◌, ◌%◌, ◌^◌, ◌<◌}
use native.Mathlib.Nat.{mod-lt, zero-add, suc-add, mul-one}
use native.Mathlib.Omega.{arith}
use lib.Dec.{lit<}
use lib.Pow.{pow_pos, split}
use lib.Bits.{bit_xor, xor_shr, xor_mod, xor_comm, xor_assoc, xor_zero_r, xor_shifted, shifted_half, shifted_even}
use Rattle.crc32.specs.Checksum.{polynomial, crc_bit, crc_bits}

-- For a step of a sum: two pairs, regrouped.
xor_four : (a b c d : ℕ) → bit_xor (bit_xor a b) (bit_xor c d) ≡ bit_xor (bit_xor a c) (bit_xor b d)
xor_four a b c d =
    xor_assoc a b (bit_xor c d) ∙ ap (bit_xor a) (sym (xor_assoc b c d) ∙ ap (λ (x : ℕ). bit_xor x d) (xor_comm b c) ∙ xor_assoc c b d)
    ∙ sym (xor_assoc a c (bit_xor b d))

-- For `bit_xor_lem`: a digit's multiple of the polynomial.
times : (x y : ℕ) → x < 2 → y < 2 → bit_xor x y * polynomial ≡ bit_xor (x * polynomial) (y * polynomial)
times zero y p q = refl
times (suc zero) zero p q = refl
times (suc zero) (suc zero) p q = refl
times (suc zero) (suc (suc y)) p q = absurd (omega arith)
times (suc (suc x)) y p q = absurd (omega arith)

-- For `bits_xor`: one step of a sum.
bit_xor_lem : (a b : ℕ) → crc_bit (bit_xor a b) ≡ bit_xor (crc_bit a) (crc_bit b)
unfolding crc_bit
bit_xor_lem a b =
    ap₂ bit_xor (xor_shr a b 1)
    (ap (λ (x : ℕ). x * polynomial) (xor_mod a b 1) ∙ times (a % 2) (b % 2) (mod-lt a (lit< tt)) (mod-lt b (lit< tt)))
    ∙ xor_four (a / 2) (b / 2) (a % 2 * polynomial) (b % 2 * polynomial)

-- For a value taken apart: the steps of a sum are the sum of the steps.
pub bits_xor : (n a b : ℕ) → crc_bits n (bit_xor a b) ≡ bit_xor (crc_bits n a) (crc_bits n b)
unfolding crc_bits
bits_xor zero a b = refl
bits_xor (suc n) a b = ap (crc_bits n) (bit_xor_lem a b) ∙ bits_xor n (crc_bit a) (crc_bit b)

-- For `bits_shifted`: one step of a value whose lowest digit is 0.
bit_shifted : (h n : ℕ) → crc_bit (h * 2 ^ suc n) ≡ h * 2 ^ n
unfolding crc_bit
bit_shifted h n =
    ap₂ (λ (x y : ℕ). bit_xor x (y * polynomial)) (shifted_half h n) (shifted_even h n) ∙ xor_zero_r (h * 2 ^ n)

-- For the high part of a value: as long as zeros go out, the steps only shift.
pub bits_shifted : (n h : ℕ) → crc_bits n (h * 2 ^ n) ≡ h
unfolding crc_bits
bits_shifted zero h = mul-one h
bits_shifted (suc n) h = ap (crc_bits n) (bit_shifted h n) ∙ bits_shifted n h

-- For steps in two rounds: first m, then n.
pub bits_add : (m n a : ℕ) → crc_bits (m + n) a ≡ crc_bits n (crc_bits m a)
unfolding crc_bits
bits_add zero n a = ap (λ (x : ℕ). crc_bits x a) (zero-add n)
bits_add (suc m) n a = ap (λ (x : ℕ). crc_bits x a) (suc-add m n) ∙ bits_add m n (crc_bit a)

-- For the code's use of the table: the low byte's steps apart from those of the bytes above it.
pub low_byte : (n v : ℕ) → crc_bits (8 + n) v ≡ bit_xor (crc_bits (8 + n) (v % 256)) (crc_bits n (v / 256))
low_byte n v =
    ap (crc_bits (8 + n)) (sym (split v 8) ∙ sym (xor_shifted (v / 2 ^ 8) 8 (v % 2 ^ 8) (mod-lt v (pow_pos 8))))
    ∙ bits_xor (8 + n) (v / 2 ^ 8 * 2 ^ 8) (v % 2 ^ 8)
    ∙ ap (λ (x : ℕ). bit_xor x (crc_bits (8 + n) (v % 2 ^ 8)))
    (bits_add 8 n (v / 2 ^ 8 * 2 ^ 8) ∙ ap (crc_bits n) (bits_shifted 8 (v / 2 ^ 8)))
    ∙ xor_comm (crc_bits n (v / 2 ^ 8)) (crc_bits (8 + n) (v % 2 ^ 8))

-- For one byte: its eight steps are one entry, and the rest shifted down.
pub one_byte : (v : ℕ) → crc_bits 8 v ≡ bit_xor (crc_bits 8 (v % 256)) (v / 256)
unfolding crc_bits
one_byte v = low_byte 0 v
