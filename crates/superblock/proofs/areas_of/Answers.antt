use Rattle.superblock.proofs.areas_of.Goals as goal

pub returns : goal.returns
returns c = cc
