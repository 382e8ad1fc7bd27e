use Rattle.superblock.specs.Superblock.{fields_pass}
use Rattle.superblock.proofs.fields_pass.Goals as goal

pub returns : goal.returns
unfolding fields_pass
returns c = cc
