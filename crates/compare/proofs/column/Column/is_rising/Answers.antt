use mathlib.Core.Path.{sym, ◌∙◌}
use Rattle.compare.proofs.Turns.{rises_empty, rises_first, rises_over, rises_on, rises_stops}
use Rattle.compare.proofs.column.Column.is_rising.Goals as goal

pub returns-then-self-eq0 : goal.returns-then-self-eq0
returns-then-self-eq0 c = sym (rises_empty _ _ _ _ c.if-self-eq0.true)

pub loop-i-init : goal.loop-i-init
loop-i-init c = rises_first _ _ _ _ c.if-self-eq0.false (rw (← c.place.ensures.0) c.get32-last.ensures)

pub returns-then-next-last : goal.returns-then-next-last
returns-then-next-last c =
    let told = rises_stops _ _ _ _ _ _ c.loop-i-test.true (rw (← c.place-in-loop-i.ensures.0) c.get32-next.ensures) c.if-next-last.true in
    sym (c.loop-i.invariant ∙ told)

pub loop-i-preserved : goal.loop-i-preserved
loop-i-preserved c =
    c.loop-i.invariant ∙ rises_on _ _ _ _ _ _ c.loop-i-test.true (rw (← c.place-in-loop-i.ensures.0) c.get32-next.ensures) c.if-next-last.false

pub returns : goal.returns
returns c = sym (c.loop-i.invariant ∙ rises_over _ _ _ _ _ _ c.loop-i-test.false)
