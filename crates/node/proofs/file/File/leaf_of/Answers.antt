-- `leaf_of` meets its contract: what is kept need not be walked to again.
use Rattle.node.proofs.Keeping.{leaf_walked}
use Rattle.node.proofs.file.File.leaf_of.Goals as goal

pub returns-then-kept-clause-walked : goal.returns-then-kept-clause-walked
returns-then-kept-clause-walked c = leaf_walked (c.requires.keeps.serves c.if-kept.true)

pub returns-then-kept-clause-leaf_of : goal.returns-then-kept-clause-leaf_of
returns-then-kept-clause-leaf_of c = c.requires.keeps.serves c.if-kept.true
