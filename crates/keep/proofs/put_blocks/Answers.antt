use mathlib.Core.Path.{◌≡◌, refl, sym, ◌∙◌}
use Prim.Native.Nat.{◌+◌, ◌*◌}
use native.Mathlib.Omega.{arith}
use Rattle.keep.proofs.Pieces.{block_size}
use Rattle.keep.proofs.Turns.{listed_left, listed_next, turns_start, turns_over, turn}
use Rattle.keep.proofs.put_blocks.Goals as goal

-- ---- the needs
pub loop-i-init : goal.loop-i-init
loop-i-init c =
    (refl, listed_left _ _ _ c.requires.all_of, turns_start _ _ _ _ _ _ c.args.room.now (omega arith))

pub put_block-requires : goal.put_block-requires
put_block-requires c =
    let here = listed_next _ _ _ _ c.loop-i-test.true c.get32.ensures c.loop-i.invariant.1 in
    record { b_bound = here.0; at_in_bounds = omega arith }

pub loop-i-preserved : goal.loop-i-preserved
loop-i-preserved c =
    let loop = c.loop-i in
    let read = c.get32 in
    let place = c.args.at + 4100 * loop.i in
    let here = listed_next _ _ _ _ c.loop-i-test.true read.ensures loop.invariant.1 in
    let size = block_size c.args.image.now _ here.0 in
    let on =
    turn _ _ c.args.blocks.now loop.i c.args.count c.loop-i-test.true read.ensures place 4100
    loop.room size (omega arith) c.put_block.ensures in
    let next : c.args.at + 4100 * (loop.i + 1) ≡ place + 4100 = omega arith in
    (omega arith, here.1, rw next (on ∙ loop.invariant.2))

pub returns : goal.returns
returns c =
    let loop = c.loop-i in
    sym (turns_over _ _ c.args.blocks.now loop.i c.args.count (c.args.at + 4100 * loop.i) loop.room c.loop-i-test.false) ∙ loop.invariant.2
