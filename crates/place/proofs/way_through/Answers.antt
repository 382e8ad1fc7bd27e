use Rattle.place.proofs.Ways.{over_zeros}
use Rattle.place.proofs.way_through.Goals as goal

pub returns : goal.returns
returns c = rw (c.copy_from_slice.ensures.after, c.node-steps.ensures, over_zeros c.args.nodes.now c.requires)
