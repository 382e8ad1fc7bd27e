-- What is known of a file whose inode is read.
use Rattle.std.specs.Prelude.{◌≡◌, true}
use Rattle.checkpoint.specs.OpenImage.{card_in}
use Rattle.inode.specs.declared.Inode.{Inode}
use Rattle.inode.specs.Inode.{inode_of, is_regular, addresses_in}
use Rattle.node.specs.declared.file.File.{File}

-- a regular file of the card, and what is read of its inode
pub record RegularFile (file : File) (i : Inode) : Type 0 where
  pub inode_is : i ≡ inode_of ((card_in file.card).block file.inode)
  pub regular : is_regular i ≡ true
  pub addresses_are : file.addresses ≡ addresses_in i
