-- `in_shape` meets its contract: the number of names tells whether the path is one.
use Rattle.reader.proofs.Starting.{shape_tested}
use Rattle.reader.proofs.in_shape.Goals as goal

pub returns : goal.returns
returns c = shape_tested c.args.card_blocks c.args.path.now c.name_count.ensures
