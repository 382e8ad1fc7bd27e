use Rattle.superblock.specs.Superblock.{areas_pass}
use Rattle.superblock.proofs.areas_pass.Goals as goal

pub returns : goal.returns
unfolding areas_pass
returns c = cc
