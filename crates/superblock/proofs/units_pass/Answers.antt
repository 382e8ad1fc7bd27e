use mathlib.Core.Path.{refl}
use Rattle.superblock.specs.Superblock.{units_pass}
use Rattle.superblock.proofs.units_pass.Goals as goal

pub returns : goal.returns
unfolding units_pass
returns c = refl
