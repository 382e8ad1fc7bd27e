use Rattle.std.proofs.Common.{arith}
use borrow.Author.Rules.{part_to_end}
use Rattle.field.proofs.Blocks.{length_of_block}
use Rattle.checkpoint.proofs.journal_of.Goals as goal

pub slice_bounds-result-count : goal.slice_bounds-result-count
slice_bounds-result-count c =
    omega (arith, length_of_block _ _ c.requires.journal_block_bound c.block_at-block.ensures)

pub slice_bounds-result-start : goal.slice_bounds-result-start
slice_bounds-result-start c =
    omega (arith, length_of_block _ _ c.requires.journal_block_bound c.block_at-block.ensures)

pub returns : goal.returns
returns c =
    rw (part_to_end, c.block_at-block.ensures)
