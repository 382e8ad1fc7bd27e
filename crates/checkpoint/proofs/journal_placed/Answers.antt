use Rattle.checkpoint.specs.Journal.{journal_placed}
use Rattle.checkpoint.proofs.journal_placed.Goals as goal

pub returns : goal.returns
unfolding journal_placed
returns c =
    rw c.journal_in-block.ensures
