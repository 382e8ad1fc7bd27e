use mathlib.Core.Path.{◌≡◌}
use Prim.Native.Nat.{◌-◌}
use Rattle.journal.specs.Journal.{search_from}
use Rattle.journal.proofs.find_among.Given as goal

abbrev pub invariant-loop-i : goal.invariant-loop-i
invariant-loop-i l =
    search_from l.width l.journal l.number (l.count - l.i) l.i ≡ search_from l.width l.journal l.number l.count 0
