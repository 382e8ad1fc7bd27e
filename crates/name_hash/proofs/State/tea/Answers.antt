use Rattle.std.proofs.Common.{◌∙◌, arith}
use Rattle.name_hash.specs.Hash.{tea}
use Rattle.name_hash.proofs.Rounds.{rounds_next, rounds_end}
use Rattle.name_hash.proofs.State.tea.Goals as goal

pub loop-preserved : goal.loop-preserved
loop-preserved c =
    let a = c.args in
    let next = rounds_next c.loop.counter c.loop.sum a.k c.loop.t (omega arith) in
    c.loop.invariant ∙ next ∙ rw c.round-t.ensures

pub returns : goal.returns
unfolding tea
returns c =
    let e = c.loop.invariant ∙ rounds_end c.loop.counter c.loop.sum c.args.k c.loop.t (omega arith) in
    cc e
