use mathlib.Core.Path.{sym, ◌∙◌}
use Rattle.compare.specs.Difference.{bounds_differ}
use Rattle.compare.proofs.compare_bounds.Goals as goal

pub returns-then-eq : goal.returns-then-eq
unfolding bounds_differ
returns-then-eq c = rw (sym c.eq.ensures ∙ c.if-eq.true)

pub returns-else-eq : goal.returns-else-eq
unfolding bounds_differ
returns-else-eq c = rw (sym c.eq.ensures ∙ c.if-eq.false)
