-- The number, then the block's bytes.
use native.Mathlib.Omega.{arith}
use Rattle.field.proofs.Blocks.{length_of_block}
use Rattle.keep.proofs.Pieces.{block_laid}
use Rattle.keep.proofs.put_block.Goals as goal

pub put_bytes-requires : goal.put_bytes-requires
put_bytes-requires c =
    let size = length_of_block c.args.image.now c.args.b c.requires.b_bound c.block_at.ensures in
    omega arith

pub returns : goal.returns
returns c =
    block_laid c.args.room.now c.args.at c.args.image.now c.args.b c.requires.b_bound c.put_number.ensures
    c.put_bytes.ensures c.block_at.ensures c.requires.at_in_bounds
