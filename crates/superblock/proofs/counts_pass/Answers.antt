use Rattle.superblock.specs.Superblock.{counts_pass}
use Rattle.superblock.proofs.counts_pass.Goals as goal

pub returns : goal.returns
unfolding counts_pass
returns c = cc
