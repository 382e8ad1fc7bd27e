-- Document 01's pull, of a name that "is sought in the root directory", with lists of at least 179 and 238 numbers. It is kept to say that
-- a path without a slash answers as that pull did; no code goes by it.
use Rattle.std.specs.Prelude.{ℕ, ◌/◌, Bool, ◌&&◌, List, length, eqb, leb}
use Rattle.field.specs.Card.{Card, card_of}
use Rattle.field.specs.Choice.{choose}
use Rattle.superblock.specs.Shape.{in_shape}
use Rattle.checkpoint.specs.Volume.{Opening, Opened, Refused, opened_image}
use Rattle.name_hash.specs.Name.{is_name}
use Rattle.walk.specs.Walk.{view_of, empty, Walk, run, Outcome, and_then}
use Rattle.node.specs.Node.{Bounds, bounds_of}
use Rattle.path_lookup.specs.Lookup.{ino_of_root, directory_walk}
use Rattle.pull.specs.Walk.{Block, file_walk}
use Rattle.pull.specs.Pull.{Lent, Result, refused_pull, written}

-- "walks the root, then the file"
unfoldable pub name_walk : Bounds → List ℕ → ℕ → Walk (Outcome Block)
name_walk m name index = and_then (directory_walk m name ino_of_root) (file_walk m index)

-- "a block buffer of exactly 4,096 bytes, a node list of at least 179 and a block list of at least 238 32-bit numbers"
unfoldable pub name_in_shape : List ℕ → List ℕ → Lent → Bool
name_in_shape image name lent =
    in_shape (length image) && is_name name
    && (eqb (length lent.block) 4096 && leb 179 (length lent.nodes / 4) && leb 238 (length lent.blocks / 4))

abbrev pub name_pulled_from : Card → Opening → List ℕ → ℕ → Lent → Result
name_pulled_from card (Opened v) name index lent = written (run (view_of card v) empty (name_walk (bounds_of v) name index)) lent
name_pulled_from card (Refused answer) name index lent = refused_pull answer lent

unfoldable pub name_pulled : List ℕ → List ℕ → ℕ → Lent → Result
name_pulled image name index lent =
    choose (name_in_shape image name lent) (name_pulled_from (card_of image) (opened_image image) name index lent) (refused_pull 4 lent)
