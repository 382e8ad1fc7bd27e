use Rattle.std.proofs.Common.{le-leb}
use borrow.Author.Tests.{lt-leb}
use Rattle.checkpoint.proofs.Passing.{first_in_order}
use Rattle.checkpoint.proofs.first_passes.Goals as goal

pub returns-then-total-lt2 : goal.returns-then-total-lt2
returns-then-total-lt2 c =
    rw (first_in_order, ← c.requires.1, lt-leb _ _ c.if-total-lt2.true)

pub returns-then-total-gt512 : goal.returns-then-total-gt512
returns-then-total-gt512 c =
    rw (first_in_order, ← c.requires.1, le-leb _ _ c.if-total-lt2.false, lt-leb _ _ c.if-total-gt512.true)

pub returns : goal.returns
returns c =
    rw (first_in_order, ← c.requires.1, le-leb _ _ c.if-total-lt2.false, le-leb _ _ c.if-total-gt512.false, c.block_passes.ensures)
