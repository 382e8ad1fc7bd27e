-- The number, then its table answer.
use Rattle.checkpoint.specs.OpenImage.{card_in}
use Rattle.keep.proofs.Pieces.{node_laid}
use Rattle.keep.proofs.put_node.Goals as goal

pub returns : goal.returns
returns c =
    node_laid c.args.room.now c.args.at (card_in c.args.card) c.args.card.volume c.args.number c.put_number.ensures
    c.put_answer.ensures c.table_answer.ensures c.requires
