use Rattle.superblock.specs.Superblock.{ends_pass}
use Rattle.superblock.proofs.ends_pass.Goals as goal

pub returns : goal.returns
unfolding ends_pass
returns c = cc
