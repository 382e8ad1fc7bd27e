use mathlib.Core.Path.{◌≡◌, refl, sym, ◌∙◌}
use Prim.Native.Nat.{◌+◌, ◌*◌}
use native.Mathlib.Omega.{arith}
use Rattle.checkpoint.specs.OpenImage.{card_in}
use Rattle.keep.proofs.Pieces.{node_size}
use Rattle.keep.proofs.Turns.{turns_start, turns_over, turn}
use Rattle.keep.proofs.put_nodes.Goals as goal

pub loop-i-init : goal.loop-i-init
loop-i-init c = (refl, turns_start _ _ _ _ _ _ c.args.room.now (omega arith))

pub loop-i-preserved : goal.loop-i-preserved
loop-i-preserved c =
    let loop = c.loop-i in
    let place = c.args.at + 16 * loop.i in
    let size = node_size (card_in c.args.card) c.args.card.volume c.get32.result in
    let on =
    turn _ _ c.args.nodes.now loop.i c.args.count c.loop-i-test.true c.get32.ensures place 16
    loop.room size (omega arith) c.put_node.ensures in
    let next : c.args.at + 16 * (loop.i + 1) ≡ place + 16 = omega arith in
    (omega arith, rw next (on ∙ loop.invariant.1))

pub returns : goal.returns
returns c =
    let loop = c.loop-i in
    sym (turns_over _ _ c.args.nodes.now loop.i c.args.count (c.args.at + 16 * loop.i) loop.room c.loop-i-test.false) ∙ loop.invariant.1
