-- What is left of a walk when a block comes: of an inode, of a node on the way to a block, of a data block.
use Rattle.std.specs.Prelude.{ℕ, ◌+◌, ◌-◌, false, List, [], ◌∷◌, length, drop, eqb, leb}
use Rattle.field.specs.Choice.{choose}
use Rattle.name_hash.specs.Hash.{hash_of}
use Rattle.path.specs.Path.{parts_of}
use Rattle.walk.specs.Walk.{Walk, Outcome, and_then}
use Rattle.inode.specs.Inode.{inode_of, addresses_in, count_in}
use Rattle.node.specs.Node.{Bounds, bounds_of}
use Rattle.node.specs.Block.{Fetched}
use Rattle.hash_level.specs.Level.{blocks_of}
use Rattle.dentry.specs.Slot.{Wanted, wanted}
use Rattle.directory.specs.Find.{Directory, directory, after_block, bucket_walk, levels_walk}
use Rattle.path_lookup.specs.Lookup.{at_directory}
use Rattle.pull.specs.Walk.{Block, counted, at_file, named_file_walk}
use Rattle.asking.specs.Table.{Kept}
use Rattle.ask_node.specs.Fetch.{way_to, after_hop}
use Rattle.ask_directory.specs.declared.Spot.{Spot}

-- what is read for: what was kept of the card, the path, and the index in the file that it leads to
pub record Question : Type 0 where
  pub kept : Kept
  pub path : List ℕ
  pub index : ℕ

abbrev pub question : Kept → List ℕ → ℕ → Question
question kept path index = record { kept = kept; path = path; index = index }

abbrev pub bounds_in : Question → Bounds
bounds_in q = bounds_of q.kept.volume

-- the names of a path from a place on. Behind its end there are none: what the last one led to is the file
abbrev pub names_from : List ℕ → ℕ → List (List ℕ)
names_from path at = choose (leb at (length path)) (parts_of (drop at path)) []

abbrev pub names_at : Question → Spot → List (List ℕ)
names_at q p = names_from q.path p.name_at

abbrev pub named : List ℕ → Wanted
named name = wanted (hash_of name) name

-- some names are left, from the directory of an inode number; without any it is the file's
abbrev pub names_then : Question → List (List ℕ) → ℕ → Walk (Outcome Block)
names_then q names ino = named_file_walk (bounds_in q) names q.index ino

-- an inode came
unfoldable pub inode_then : Question → ℕ → List (List ℕ) → List ℕ → Walk (Outcome Block)
inode_then q ino [] block = at_file (bounds_in q) q.index ino block
inode_then q ino (name ∷ names) block = and_then (at_directory (bounds_in q) name ino block) (names_then q names)

-- the directory of an inode, which has blocks
abbrev pub directory_at : Question → ℕ → List ℕ → Directory
directory_at q ino inode = directory (bounds_in q) ino inode (addresses_in (inode_of inode)) false (inode_of inode).level

-- its search from block k of a level's bucket on
abbrev pub search_left : Directory → Wanted → ℕ → ℕ → ℕ → Walk (Outcome ℕ)
search_left d w depth level k = bucket_walk d w level (levels_walk d w (depth - (level + 1)) (level + 1)) (blocks_of level - k) k

abbrev pub search_then : Question → ℕ → List ℕ → List ℕ → List (List ℕ) → ℕ → ℕ → Walk (Outcome Block)
search_then q ino inode name names level k =
    and_then (search_left (directory_at q ino inode) (named name) (inode_of inode).depth level k) (names_then q names)

-- a data block came: the file's, or one of the directory's, which is sought for the name
unfoldable pub data_then : Question → Spot → List ℕ → List (List ℕ) → Fetched → Walk (Outcome Block)
data_then q p inode [] f = counted (count_in (inode_of inode) q.index) f
data_then q p inode (name ∷ names) f =
    and_then
    (after_block false (named name) (search_left (directory_at q p.ino inode) (named name) (inode_of inode).depth p.level (p.block + 1)) f)
    (names_then q names)

-- a node came: an inode, or the one at a hop of the way to a block of the inode at hand
unfoldable pub node_then : Question → Spot → List ℕ → ℕ → ℕ → List ℕ → Walk (Outcome Block)
node_then q p inode index hop block =
    choose (eqb hop 0) (inode_then q p.ino (names_at q p) block)
    (after_hop q.kept p.ino (way_to inode index) hop (data_then q p inode (names_at q p)) block)
