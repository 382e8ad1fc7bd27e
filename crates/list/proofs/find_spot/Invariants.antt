-- `find_spot` meets its contract. The invariant: x goes between entry `low` and entry `high`. The entry looked at is one of those in between.
use Prim.Native.Nat.{◌-◌}
use Rattle.list.proofs.Between.{Between}
use Rattle.list.proofs.find_spot.Given as goal

abbrev pub invariant-loop-low : goal.invariant-loop-low
invariant-loop-low l = Between l.list l.count l.x l.low l.high

-- how many entries are in between
abbrev pub decreases-loop-low : goal.decreases-loop-low
decreases-loop-low l = l.high - l.low
