use Rattle.std.proofs.Common.{arith}
use Rattle.checkpoint.specs.Journal.{journal_in}
use Rattle.checkpoint.proofs.journal_in.Goals as goal

pub returns-then-flag_set : goal.returns-then-flag_set
unfolding journal_in
returns-then-flag_set c =
    rw (← c.flag_set.ensures, c.if-flag_set.true)

pub returns-then-total-back : goal.returns-then-total-back
unfolding journal_in
returns-then-total-back c =
    rw (← c.flag_set.ensures, c.if-flag_set.false, ← c.journal_back-back.ensures) (omega arith)

pub returns-else-total-back : goal.returns-else-total-back
unfolding journal_in
returns-else-total-back c =
    rw (← c.flag_set.ensures, c.if-flag_set.false, ← c.journal_back-back.ensures)
