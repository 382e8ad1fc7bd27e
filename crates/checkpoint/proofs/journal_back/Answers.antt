use Rattle.checkpoint.proofs.journal_back.Goals as goal

pub returns-then-flag_set : goal.returns-then-flag_set
returns-then-flag_set c =
    rw (← c.flag_set.ensures, ← c.flag_set-2.ensures, c.if-flag_set.true)

pub returns-else-flag_set : goal.returns-else-flag_set
returns-else-flag_set c =
    rw (← c.flag_set.ensures, ← c.flag_set-2.ensures, c.if-flag_set.false)
