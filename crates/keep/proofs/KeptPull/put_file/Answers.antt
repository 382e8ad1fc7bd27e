-- What stands before the lists, then the nodes, then the blocks.
use Rattle.keep.specs.Parts.{left_by}
use Rattle.keep.proofs.Found.{file_laid}
use Rattle.keep.proofs.KeptPull.put_file.Goals as goal

pub returns : goal.returns
returns c =
    let p = c.args.self in
    file_laid p.card.image.now p.card.volume p.path.now p.index (left_by p) c.requires.keepable c.args.room.now c.put_front.ensures
    c.put_nodes.ensures c.put_blocks.ensures c.requires.blocks_in_bounds
