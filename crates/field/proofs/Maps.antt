-- What a caller needs to know of a map's bits before it counts with them.
use mathlib.Core.Path.{◌≡◌, refl}
use mathlib.Core.Logic.{◌⊎◌, inl, inr}
use mathlib.Core.List.{List}
use Prim.Native.Nat.{ℕ, zero, suc, ◌≤◌}
use native.Mathlib.Omega.{arith}
use Rattle.field.specs.Map.{top_bit, low_bit}

-- a bit is 0 or 1
pub top_bit_lem : (map : List ℕ) (b : ℕ) → top_bit map b ≤ 1
unfolding top_bit
top_bit_lem map b = omega arith

pub low_bit_lem : (map : List ℕ) (b : ℕ) → (low_bit map b ≡ 0) ⊎ (low_bit map b ≡ 1)
unfolding low_bit
low_bit_lem map b = go (low_bit map b) (omega arith)
  where
    go : (n : ℕ) → n ≤ 1 → (n ≡ 0) ⊎ (n ≡ 1)
    go zero h = inl refl
    go (suc n) h = inr (omega arith)
