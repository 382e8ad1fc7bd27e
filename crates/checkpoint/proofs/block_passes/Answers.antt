use Rattle.std.proofs.Common.{sym, arith, length-take-le, eq-eqb, ne_eqb}
use Rattle.checkpoint.specs.Pack.{block_passes}
use Rattle.checkpoint.proofs.block_passes.Goals as goal

pub returns-then-cp-ne4092 : goal.returns-then-cp-ne4092
unfolding block_passes
returns-then-cp-ne4092 c =
    rw (← c.requires.1, ne_eqb _ _ c.if-cp-ne4092.true)

pub slice_bounds-checksum-end : goal.slice_bounds-checksum-end
slice_bounds-checksum-end c =
    sym (length-take-le _ c.args.block.now (omega arith))

pub returns : goal.returns
unfolding block_passes
returns c =
    rw (← c.requires.1, eq-eqb _ _ c.if-cp-ne4092.false, c.get32.ensures, c.checksum-sum.ensures)
