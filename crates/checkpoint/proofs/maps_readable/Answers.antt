use Rattle.checkpoint.specs.Volume.{maps_readable}
use Rattle.checkpoint.proofs.maps_readable.Goals as goal

pub returns : goal.returns
unfolding maps_readable
returns c =
    rw (c.journal_placed.ensures, c.flag_set.ensures)
