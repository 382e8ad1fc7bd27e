-- The loop's invariant: as many names are counted as parts have come, and those behind them decide.
use Prim.Native.Nat.{◌≤◌}
use mathlib.Core.Path.{◌≡◌}
use lib.ListN.{length, drop}
use Rattle.path.specs.Path.{names_most, parts_of, name_count}
use Rattle.path.proofs.Counting.{count_on}
use Rattle.path.proofs.name_count.Given as goal

abbrev pub invariant-loop-part : goal.invariant-loop-part
invariant-loop-part l = record {
  few : l.count ≤ names_most;
  counted : l.count ≡ length l.yielded;
  left : name_count l.fn.path ≡ count_on l.count (drop l.count (parts_of l.fn.path));
}
