use Rattle.std.proofs.Common.{◌≤◌, arith, leb-true}
use Rattle.field.specs.Number.{le16}
use Rattle.checkpoint.specs.Volume.{journal_readable}
use Rattle.checkpoint.proofs.Negated.{fails, holds}
use Rattle.checkpoint.proofs.journal_readable.Goals as goal

pub returns-then-not-count_within : goal.returns-then-not-count_within
unfolding journal_readable
returns-then-not-count_within c = rw (fails c.count_within.ensures c.if-not-count_within.true)

pub names_twice-requires : goal.names_twice-requires
names_twice-requires c =
    let few : le16 c.args.journal.now 0 ≤ 38 = leb-true _ _ (holds c.count_within.ensures c.if-not-count_within.false) in
    (omega arith, omega arith)

pub returns : goal.returns
unfolding journal_readable
returns c = rw (holds c.count_within.ensures c.if-not-count_within.false, c.names_twice.ensures)
