use Rattle.checkpoint.specs.Journal.{journal_offset}
use Rattle.checkpoint.proofs.journal_at.Goals as goal

pub returns-then-flag_set : goal.returns-then-flag_set
unfolding journal_offset
returns-then-flag_set c =
    rw (← c.flag_set.ensures, c.if-flag_set.true)

pub returns-else-flag_set : goal.returns-else-flag_set
unfolding journal_offset
returns-else-flag_set c =
    rw (← c.flag_set.ensures, c.if-flag_set.false)
