-- Six pieces, one behind the other.
use Rattle.keep.proofs.Pieces.{front_laid}
use Rattle.keep.proofs.KeptPull.put_front.Goals as goal

pub returns : goal.returns
returns c =
    let p = c.args.self in
    front_laid c.args.room.now p.card.volume p.path.now p.index p.pulled p.block.now c.requires.0 c.requires.1
    c.put_header.ensures c.put_bytes.ensures c.put_three.ensures c.put_bytes-2.ensures
    c.put_number.ensures c.put_number-2.ensures
