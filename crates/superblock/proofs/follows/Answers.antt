use Rattle.superblock.proofs.follows.Goals as goal

pub returns : goal.returns
returns c = cc
