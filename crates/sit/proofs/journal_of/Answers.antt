use borrow.Author.Rules.{part_to_end}
use Rattle.sit.specs.Table.{sit_journal_of}
use Rattle.sit.proofs.journal_of.Goals as goal

pub returns-then-flag_set : goal.returns-then-flag_set
unfolding sit_journal_of
returns-then-flag_set c = rw (part_to_end, ← c.flag_set.ensures, c.if-flag_set.true, c.block_at-compact.ensures)

pub returns : goal.returns
unfolding sit_journal_of
returns c = rw (part_to_end, ← c.flag_set.ensures, c.if-flag_set.false, c.block_at-cold.ensures)
