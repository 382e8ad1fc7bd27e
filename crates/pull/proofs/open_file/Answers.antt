use Rattle.field.proofs.Blocks.{length_of_block}
use Rattle.pull.proofs.open_file.Goals as goal

pub inode_of-inode-requires : goal.inode_of-inode-requires
inode_of-inode-requires c =
    length_of_block _ _ c.requires c.block_at.ensures
