-- `first_block` meets its contract: antt computes the test for all tables.
use mathlib.Core.Path.{refl}
use Rattle.hash_level.specs.declared.table.TheConstants.{FIRST_BLOCKS}
use Rattle.hash_level.proofs.Tables.{own_tables}
use Rattle.hash_level.proofs.first_block.Goals as goal

pub returns : goal.returns
returns c = (own_tables FIRST_BLOCKS refl c.requires.0).entry c.args.level c.requires.1
