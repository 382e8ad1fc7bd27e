use borrow.Author.Tests.{eq-eqb, ne_eqb}
use mathlib.Core.Path.{ap, ◌∙◌}
use Rattle.harptimber.specs.FilePlace.{crossing}
use Rattle.harptimber.proofs.placed_by.Goals as goal

pub returns-then-way-eq0 : goal.returns-then-way-eq0
returns-then-way-eq0 c =
    rw (eq-eqb _ _ c.if-way-eq0.true) (c.answer_with.ensures ∙ ap (λ n. crossing n c.args.way) c.number.ensures)

pub returns-else-way-eq0 : goal.returns-else-way-eq0
returns-else-way-eq0 c = rw (ne_eqb _ _ c.if-way-eq0.false) c.answer_with-else-way-eq0.ensures
