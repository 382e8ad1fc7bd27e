-- A number that is read from bytes fits its width.
use mathlib.Core.List.{List}
use Prim.Native.Nat.{ℕ, ◌+◌, ◌^◌, ◌<◌}
use native.Mathlib.Omega.{arith}
use lib.ListN.{get_or}
use Rattle.field.specs.Number.{le16, le32, le64}

module _ (l : List ℕ) (bytes : (i : ℕ) → get_or l i 0 < 256) where
  pub le16_fits : (at : ℕ) → le16 l at < 2 ^ 16
  unfolding le16
  le16_fits at = omega (arith, bytes at, bytes (at + 1))

  pub le32_fits : (at : ℕ) → le32 l at < 2 ^ 32
  unfolding le32
  le32_fits at = omega (arith, le16_fits at, le16_fits (at + 2))

  pub le64_fits : (at : ℕ) → le64 l at < 2 ^ 64
  unfolding le64
  le64_fits at = omega (arith, le32_fits at, le32_fits (at + 4))
