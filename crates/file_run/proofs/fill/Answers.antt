use mathlib.Core.Path.{refl}
use Rattle.std.proofs.lemmas.Result.{err_from_is_err_and}
use Rattle.node.proofs.Keeping.{keeps_none}
use Rattle.file_run.proofs.Turns.{turn_start, turn_fits, turn_stop, turn_next, turn_end}
use borrow.Author.Rules.{rules}
use Rattle.file_run.proofs.fill.Goals as goal

pub loop-k-init : goal.loop-k-init
loop-k-init c =
    record {
      turn = turn_start (keeps_none c.no_leaf-kept.ensures) c.ranges.index.fits c.requires.none_stand;
      same = search rules;
      same_bytes = refl;
    }

pub block-requires-clause-fits : goal.block-requires-clause-fits
block-requires-clause-fits c = turn_fits c.loop-k.invariant.turn c.loop-k-test.true c.requires.fits

pub returns-in_err-block-clause-filled : goal.returns-in_err-block-clause-filled
returns-in_err-block-clause-filled c =
    let p = err_from_is_err_and c.from_residual.result c.from_residual.ensures.1 in
    rw (p.1, p.2) (turn_stop c.loop-k.invariant.turn c.loop-k-test.true c.in_err-block.ensures.walked refl)

pub loop-k-preserved : goal.loop-k-preserved
loop-k-preserved c =
    let found = c.in_ok-block.ensures in
    let put = c.push.ensures in
    record {
      turn = turn_next c.loop-k.invariant.turn c.loop-k-test.true found.walked refl (found.near refl) found.keeps c.requires.room_for.room
          put.same_length put.count put.last put.wrote;
      same = search rules;
      same_bytes = search rules;
    }

pub returns-clause-filled : goal.returns-clause-filled
returns-clause-filled c = turn_end c.loop-k.invariant.turn c.loop-k-test.false
