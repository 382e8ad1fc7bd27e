use mathlib.Core.Path.{◌∙◌}
use Rattle.compare.proofs.Sameness.{pointwise_same}
use Rattle.compare.proofs.same_block.Goals as goal

pub returns : goal.returns
returns c = rw (← c.block_at.ensures, ← c.block_at-2.ensures) (c.eq.ensures ∙ pointwise_same _ _)
