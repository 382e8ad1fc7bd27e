-- The journal is what lies behind its start in the block.
use borrow.Author.Rules.{part_to_end}
use Rattle.ask_open.proofs.journal_readable.Goals as goal

pub returns : goal.returns
returns c = rw part_to_end at c.journal_readable.ensures
