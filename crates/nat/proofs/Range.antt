-- What being in range says of a node number, so that no caller opens `in_range`.
use mathlib.Core.Path.{◌≡◌}
use mathlib.Core.Bool.{true, and-eq-true_iff}
use Prim.Native.Nat.{ℕ, ◌*◌, ◌≤◌, ◌<◌}
use native.Mathlib.Omega.{arith}
use borrow.Author.Tests.{leb-true, ltb-true}
use Rattle.checkpoint.specs.declared.Volume.{Volume}
use Rattle.nat.specs.Table.{in_range, table_block}

pub in_range_lem : (v : Volume) (number : ℕ) → in_range v number ≡ true → (1 ≤ number) × (number < 455 * 256 * v.areas.nat_segments)
unfolding in_range
in_range_lem v number e =
    let t = (and-eq-true_iff _ _).0 e in
    (leb-true _ _ t.0, ltb-true _ _ t.1)

pub block_in_range : (v : Volume) (number : ℕ) → in_range v number ≡ true → table_block number < 256 * v.areas.nat_segments
block_in_range v number e =
    let t = in_range_lem v number e in
    omega arith
