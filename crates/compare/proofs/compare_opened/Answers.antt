use mathlib.Core.Path.{sym, ap, ◌∙◌}
use Rattle.compare.specs.Compare.{verdict}
use Rattle.compare.proofs.Openings.{lists_refused, lists_compared}
use Rattle.compare.proofs.Shapes.{in_shape_lists}
use Rattle.compare.proofs.compare_opened.Goals as goal

pub first_difference-requires : goal.first_difference-requires
first_difference-requires c = let told = c.in-Some.ensures in rw told.2 (in_shape_lists _ _ _ told.0).inside

pub returns-in-Some : goal.returns-in-Some
returns-in-Some c =
    let told = c.in-Some.ensures in
    c.verdict_of.ensures ∙ ap verdict (rw (← told.1, ← told.2) c.first_difference.ensures) ∙ sym (lists_compared _ _ _ _ _ _ told.0)

pub returns-in-None : goal.returns-in-None
returns-in-None c =
    c.numbers_of.ensures ∙ rw c.number.ensures (sym (lists_refused _ _ _ _ _ _ c.in-None.ensures))
