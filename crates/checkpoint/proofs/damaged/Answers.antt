use Rattle.checkpoint.specs.Journal.{damaged}
use Rattle.checkpoint.proofs.damaged.Goals as goal

pub returns : goal.returns
unfolding damaged
returns c = rw (c.flag_set-2.ensures, c.flag_set.ensures)
