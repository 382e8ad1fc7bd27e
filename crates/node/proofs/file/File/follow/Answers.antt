-- `follow` meets its contract: each turn of the loop is a step of the way.
use Rattle.std.proofs.Common.{◌≡◌, arith, refl}
use Rattle.std.proofs.lemmas.Result.{err_from_is_err_and}
use Rattle.field.specs.Number.{le32}
use Rattle.field.proofs.Blocks.{length_of_block}
use Rattle.checkpoint.specs.OpenImage.{card_in}
use Rattle.walk.proofs.Same.{same_refl, same_trans}
use Rattle.node.proofs.Following.{behind_slots, behind_some, following_start, following_end}
use Rattle.node.proofs.Following.{following_hole, following_fits, following_stop, following_next}
use Rattle.node.proofs.file.File.follow.Goals as goal
use Rattle.node.proofs.file.File.follow.Goals.{After-get32-number}

read_number : (k : After-get32-number) → k.get32-number.result ≡ le32 ((card_in k.args.self.card).block k.loop-step.node) k.loop-step.at
read_number k = rw (← k.block_at.ensures) k.get32-number.ensures

pub loop-step-init : goal.loop-step-init
loop-step-init c =
    let way = c.requires.way_in in
    record {
      turn = following_start _ (behind_slots way) c.args.self.file_in.0 (λ h. omega (arith, way.number (behind_some c.args.way.steps c.args.way.count h)));
      same = same_refl c.args.seen.now;
    }

pub get32-number-requires : goal.get32-number-requires
get32-number-requires c =
    let turn = c.loop-step.invariant.turn in
    let size = length_of_block _ _ turn.inside c.block_at.ensures in
    let within = turn.offset c.loop-step-test.true in
    omega arith

pub returns-then-number-eq0-clause-walked : goal.returns-then-number-eq0-clause-walked
returns-then-number-eq0-clause-walked c =
    following_hole c.loop-step.invariant.turn c.loop-step-test.true (read_number (goal.at.returns-then-number-eq0-clause-walked c).After-get32-number)
    c.if-number-eq0.true

pub node_step-requires : goal.node_step-requires
node_step-requires c =
    record {
      fits = following_fits c.loop-step.invariant.turn c.loop-step-test.true (read_number (goal.at.node_step-requires c).After-get32-number)
          c.if-number-eq0.false c.requires.fits;
    }

pub returns-in_err-node-clause-walked : goal.returns-in_err-node-clause-walked
returns-in_err-node-clause-walked c =
    let p = err_from_is_err_and c.from_residual.result c.from_residual.ensures.1 in
    rw (p.1, p.2)
    (following_stop c.loop-step.invariant.turn c.loop-step-test.true (read_number (goal.at.returns-in_err-node-clause-walked c).After-get32-number)
    c.if-number-eq0.false c.in_err-node.ensures.walked refl)

pub loop-step-preserved : goal.loop-step-preserved
loop-step-preserved c =
    record {
      turn = following_next c.loop-step.invariant.turn c.loop-step-test.true (read_number (goal.at.loop-step-preserved c).After-get32-number)
          c.if-number-eq0.false c.in_ok-node.ensures.walked refl c.in_ok-node.ensures.found_in;
      same = same_trans c.args.seen.now c.loop-step.seen c.node_step.new.seen c.loop-step.invariant.same c.in_ok-node.ensures.same;
    }

pub returns-clause-walked : goal.returns-clause-walked
returns-clause-walked c = following_end c.loop-step.invariant.turn c.loop-step-test.false
