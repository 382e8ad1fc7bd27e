use Rattle.checkpoint.specs.Volume.{header_readable}
use Rattle.checkpoint.proofs.header_readable.Goals as goal

pub returns : goal.returns
unfolding header_readable
returns c = rw (c.damaged.ensures, c.maps_readable.ensures)
