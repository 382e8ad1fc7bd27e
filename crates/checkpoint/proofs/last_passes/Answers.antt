use Rattle.std.proofs.Common.{eq-eqb, ne_eqb}
use mathlib.Core.Bool.{and-true, and-false}
use Rattle.checkpoint.specs.Pack.{last_passes}
use Rattle.checkpoint.proofs.last_passes.Goals as goal

pub returns-then-cp-version : goal.returns-then-cp-version
unfolding last_passes
returns-then-cp-version c =
    rw (← c.checkpoint_of-cp.ensures, ne_eqb _ _ c.if-cp-version.true, and-false)

pub returns : goal.returns
unfolding last_passes
returns c =
    rw (← c.checkpoint_of-cp.ensures, eq-eqb _ _ c.if-cp-version.false, and-true, c.block_passes.ensures)
