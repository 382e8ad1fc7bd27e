use mathlib.Core.Path.{◌≡◌}
use mathlib.Core.Bool.{false}
use Rattle.journal.specs.Journal.{twice_among}
use Rattle.journal.proofs.names_twice.Given as goal

abbrev pub invariant-loop-i : goal.invariant-loop-i
invariant-loop-i l = twice_among l.width l.journal l.i ≡ false
