-- `low_zeros` meets its contract. Where the loop stands, all bits of the run are 0.
use mathlib.Core.Path.{◌≡◌}
use Prim.Native.Nat.{◌-◌, ◌≤◌}
use Rattle.field.specs.Map.{low_zeros}
use Rattle.field.proofs.low_zeros.Given as goal

abbrev pub invariant-loop-run : goal.invariant-loop-run
invariant-loop-run l = record { within : l.run ≤ l.end - l.b; zeros : low_zeros l.map l.run l.b ≡ l.run }

abbrev pub decreases-loop-run : goal.decreases-loop-run
decreases-loop-run l = l.most - l.run
