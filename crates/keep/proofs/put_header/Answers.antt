-- The header's numbers, three and three.
use Rattle.keep.proofs.Pieces.{header_laid}
use Rattle.keep.proofs.put_header.Goals as goal

pub returns : goal.returns
returns c =
    header_laid c.args.room.now c.args.path c.args.nodes c.args.blocks c.put_three.ensures c.put_three-2.ensures c.requires.0
