-- Three numbers, one behind the other.
use Rattle.keep.proofs.Pieces.{three_laid}
use Rattle.keep.proofs.put_three.Goals as goal

pub returns : goal.returns
returns c =
    three_laid c.args.room.now c.args.at c.args.a c.args.b c.args.c c.put_number.ensures
    c.put_number-2.ensures c.put_number-3.ensures c.requires
