-- What a reader knows of the inode at hand and of where it is, by whether a name is sought.
use Prim.Native.Nat.{ℕ, ◌<◌, ◌≤◌}
use borrow.Author.Tests.{le-leb, lt-leb}
use mathlib.Core.Path.{◌≡◌}
use mathlib.Core.Bool.{true, false}
use mathlib.Core.List.{List}
use lib.ListN.{length}
use Rattle.inode.specs.declared.Inode.{Inode}
use Rattle.inode.specs.Inode.{inode_of, is_directory, is_past}
use Rattle.ask_directory.specs.declared.Spot.{Spot}
use Rattle.ask_directory.specs.Move.{SpotIn}

module _ (path : List ℕ) (index : ℕ) (inode : List ℕ) (p : Spot) where
  -- ---- behind the path's end it is the file
  module _ (behind : length path < p.name_at) where
    pub file_spot : {i : Inode} → i ≡ inode_of inode → is_past i index ≡ false → SpotIn path index inode p
    file_spot read inside = rw (lt-leb p.name_at (length path) behind) (rw read at inside)

    pub file_has : SpotIn path index inode p → is_past (inode_of inode) index ≡ false
    file_has spot = rw (lt-leb p.name_at (length path) behind) at spot

  -- ---- else a directory
  module _ (name : p.name_at ≤ length path) where
    pub directory_has : SpotIn path index inode p → (is_directory (inode_of inode) ≡ true) × (p.level < 63) × (p.block < 4)
    directory_has spot = rw (le-leb p.name_at (length path) name) at spot
