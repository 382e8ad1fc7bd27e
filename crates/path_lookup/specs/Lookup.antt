-- A path looked up: its names one after another, each in the directory that the one before it led to, the first in the root.
use Rattle.std.specs.Prelude.{ℕ, List, [], ◌∷◌, eqb}
use Rattle.field.specs.Choice.{choose}
use Rattle.walk.specs.Walk.{Walk, done, Outcome, ok, stop, and_then}
use Rattle.node.specs.Node.{Bounds, inode_walk}
use Rattle.name_hash.specs.Hash.{hash_of}
use Rattle.dentry.specs.Slot.{wanted}
use Rattle.directory.specs.Find.{directory, find_walk}
use Rattle.inode.specs.Inode.{inode_of, has_inline_dentry, is_directory, addresses_in}
use Rattle.path.specs.Path.{parts_of}

-- the inode number of the root directory
abbrev pub ino_of_root : ℕ
ino_of_root = 3

-- K7: "Each name but the last must be a directory, else 12", and so must the root. Then "size 0: 2"
unfoldable pub at_directory : Bounds → List ℕ → ℕ → List ℕ → Walk (Outcome ℕ)
at_directory m name ino inode =
    choose (is_directory (inode_of inode))
    (choose (eqb (inode_of inode).size 0) (done (stop 2))
    (find_walk (directory m ino inode (addresses_in (inode_of inode)) (has_inline_dentry (inode_of inode)) (inode_of inode).level)
    (wanted (hash_of name) name) (inode_of inode).depth))
    (done (stop 12))

-- the inode number of a name in the directory of an inode number
unfoldable pub directory_walk : Bounds → List ℕ → ℕ → Walk (Outcome ℕ)
directory_walk m name ino = and_then (inode_walk m ino) (at_directory m name ino)

-- the inode number that some names lead to, from the directory of an inode number
unfoldable pub names_walk : Bounds → List (List ℕ) → ℕ → Walk (Outcome ℕ)
names_walk m [] ino = done (ok ino)
names_walk m (name ∷ names) ino = and_then (directory_walk m name ino) (names_walk m names)

-- the inode number that a path leads to
unfoldable pub path_walk : Bounds → List ℕ → Walk (Outcome ℕ)
path_walk m path = names_walk m (parts_of path) ino_of_root
