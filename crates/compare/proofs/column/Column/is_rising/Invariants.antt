-- The invariant: what is left decides, from the last number passed on.
use mathlib.Core.Path.{◌≡◌}
use Rattle.compare.specs.Column.{numbers_in}
use Rattle.compare.specs.Lists.{is_rising}
use Rattle.compare.proofs.Turns.{RisesOn}
use Rattle.compare.proofs.column.Column.is_rising.Given as goal

abbrev pub invariant-loop-i : goal.invariant-loop-i
invariant-loop-i l = is_rising (numbers_in l.self) ≡ RisesOn l.self.width l.self.bytes.now l.self.start l.self.count l.last l.i
