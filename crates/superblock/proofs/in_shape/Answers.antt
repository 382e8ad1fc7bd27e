use mathlib.Core.Path.{refl}
use Rattle.superblock.specs.Shape.{in_shape}
use Rattle.superblock.proofs.in_shape.Goals as goal

pub returns : goal.returns
unfolding in_shape
returns c = refl
