use mathlib.Core.Path.{sym, ◌∙◌}
use Rattle.compare.proofs.Turns.{search_starts, search_over, search_on, search_stops}
use Rattle.compare.proofs.column.Column.all_pass.Goals as goal

pub loop-i-init : goal.loop-i-init
loop-i-init g c = λ passes told. search_starts _ _ _ _ _ _ _

pub returns-then-not-test : goal.returns-then-not-test
returns-then-not-test g c =
    λ passes told.
    let t = told c.loop-i.i c.loop-i-test.true c.test.result (rw (← c.place-at.ensures.0, ← c.get32-number.ensures) c.test.ensures) in
    rw (c.get32-number.ensures, c.place-at.ensures.0)
    (sym (c.loop-i.invariant passes told ∙ search_stops _ _ _ _ _ _ _ _ c.loop-i-test.true t c.if-not-test.true))

pub loop-i-preserved : goal.loop-i-preserved
loop-i-preserved g c =
    λ passes told.
    let t = told c.loop-i.i c.loop-i-test.true c.test.result (rw (← c.place-at.ensures.0, ← c.get32-number.ensures) c.test.ensures) in
    c.loop-i.invariant passes told ∙ search_on _ _ _ _ _ _ _ _ c.loop-i-test.true t c.if-not-test.false

pub returns : goal.returns
returns g c = λ passes told. sym (c.loop-i.invariant passes told ∙ search_over _ _ _ _ _ _ _ _ c.loop-i-test.false)
