-- A flag of a byte, by its mask and by its digit.
use Prim.Native.Nat.{ℕ, zero, suc, ◌*◌, ◌/◌, ◌%◌, ◌^◌, ◌<◌}
use native.Mathlib.Nat.{mod-lt}
use native.Mathlib.Omega.{arith}
use mathlib.Core.Path.{◌≡◌, ap, ◌∙◌}
use mathlib.Core.Bool.{not}
use lib.Dec.{eqb, lit<}
use lib.Bits.{bit_and}
use lib.Pow.{pow_pos}
use borrow.Author.Tests.{ne_eqb}
use Rattle.std.proofs.lemmas.Nat.Bits.{and_pow}

flag_at : (n k : ℕ) → not (eqb (bit_and n (2 ^ k)) 0) ≡ eqb (n / 2 ^ k % 2) 1
flag_at n k = ap (λ (x : ℕ). not (eqb x 0)) (and_pow n k) ∙ go (n / 2 ^ k % 2) (2 ^ k) (mod-lt _ (lit< tt)) (pow_pos k)
  where
    go : (digit p : ℕ) → digit < 2 → 0 < p → not (eqb (digit * p) 0) ≡ eqb digit 1
    go zero p h l = let none : zero * p ≡ 0 = omega arith in rw none
    go (suc zero) p h l = let one : suc zero * p ≡ p = omega arith in rw (one, ne_eqb p 0 (λ e. omega arith))
    go (suc (suc digit)) p h l = absurd (omega arith)

pub flag_1 : (n : ℕ) → not (eqb (bit_and n 1) 0) ≡ eqb (n % 2) 1
flag_1 n = let whole : n / 2 ^ 0 ≡ n = omega arith in flag_at n 0 ∙ rw whole

pub flag_2 : (n : ℕ) → not (eqb (bit_and n 2) 0) ≡ eqb (n / 2 % 2) 1
flag_2 n = flag_at n 1

pub flag_4 : (n : ℕ) → not (eqb (bit_and n 4) 0) ≡ eqb (n / 4 % 2) 1
flag_4 n = flag_at n 2

pub flag_32 : (n : ℕ) → not (eqb (bit_and n 32) 0) ≡ eqb (n / 32 % 2) 1
flag_32 n = flag_at n 5

pub ruleset flag = (flag_1, flag_2, flag_4, flag_32)
