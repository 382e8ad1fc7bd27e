use Rattle.superblock.proofs.accept.Goals as goal

pub returns-then-s : goal.returns-then-s
returns-then-s c = rw (c.if-s.true, c.areas_of.ensures)

pub returns-else-s : goal.returns-else-s
returns-else-s c = rw c.if-s.false
