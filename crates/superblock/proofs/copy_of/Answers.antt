use Rattle.superblock.proofs.Copies.{copy_length, copy_is}
use Rattle.superblock.proofs.copy_of.Goals as goal

pub returns : goal.returns
returns c =
    let block = c.args.block.now in
    (copy_is block, copy_length block c.requires)
