use mathlib.Core.Path.{refl}
use Rattle.superblock.specs.Superblock.{logs_pass}
use Rattle.superblock.proofs.logs_pass.Goals as goal

pub returns : goal.returns
unfolding logs_pass
returns c = refl
