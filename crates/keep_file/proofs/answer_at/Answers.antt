use borrow.Author.Tests.{eq-eqb, ne_eqb}
use Rattle.keep_file.specs.Reading.{answer_at}
use Rattle.keep_file.proofs.answer_at.Goals as goal

-- src/lib.rt:39:1
pub returns-then-get32-eq0 : goal.returns-then-get32-eq0
unfolding answer_at
returns-then-get32-eq0 c =
    rw (← c.get32.ensures, eq-eqb _ _ c.if-get32-eq0.true, ← c.get32-then-get32-eq0.ensures, ← c.get32-then-get32-eq0-2.ensures)

-- src/lib.rt:39:1
pub returns-else-get32-eq0 : goal.returns-else-get32-eq0
unfolding answer_at
returns-else-get32-eq0 c = rw (← c.get32.ensures, ne_eqb _ _ c.if-get32-eq0.false)
