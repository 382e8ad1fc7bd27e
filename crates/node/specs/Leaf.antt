-- The way to a block in two parts: to its leaf, the node that holds its address, and from there. And a leaf that is kept from one block of
-- a file to the next.
use Rattle.std.specs.Prelude.{ℕ, ◌+◌, ◌*◌, ◌<◌, ◌≡◌, List, [], ◌∷◌, eqb, get_or, Option, Result, Ok, Err}
use Rattle.answer.specs.declared.Stop.{Stop}
use Rattle.answer.specs.Number.{stop_number}
use Rattle.field.specs.Number.{le32}
use Rattle.field.specs.Card.{Card}
use Rattle.field.specs.Choice.{choose}
use Rattle.place.specs.declared.Place.{Place}
use Rattle.place.specs.declared.Place.TheVariants.{Inode, Direct, Indirect, Double, Past}
use Rattle.place.specs.declared.Step.{Step}
use Rattle.place.specs.declared.Way.{Way}
use Rattle.place.specs.Place.{place_of}
use Rattle.place.specs.Way.{step, way_of}
use Rattle.place.specs.Leaf.{slot_of, slots_of}
use Rattle.checkpoint.specs.declared.Volume.{Volume}
use Rattle.checkpoint.specs.OpenImage.{card_in}
use Rattle.walk.specs.Walk.{view_of, Walk, done, ran, run, Outcome, ok, stop, and_then, Lists, listed}
use Rattle.node.specs.declared.Leaf.{Leaf}
use Rattle.node.specs.declared.file.File.{File}
use Rattle.node.specs.Node.{Bounds, bounds_of, node_walk}
use Rattle.node.specs.Block.{Fetched, hole, held, data_walk}
use Rattle.node.specs.Found.{came_of, CameIn, numbered, data_of, after_inode, inode_of}

-- from a block's bytes, and where in them a node's number stands, through the nodes of a way to the last one's bytes. "Inside a node,
-- number 0 .. [is a hole]"
unfoldable pub leaf_from : Bounds → ℕ → List Step → List ℕ → ℕ → Walk (Outcome Fetched)
leaf_from m ino [] block at = done (ok (held block))
leaf_from m ino (s ∷ way) block at =
    choose (eqb (le32 block at) 0) (done (ok hole))
    (and_then (node_walk m (le32 block at) ino s.number) (λ next. leaf_from m ino way next (4 * s.slot)))

-- the leaf at the end of a way, from the bytes of the inode: "five node numbers from 4,052"
unfoldable pub leaf_along : Bounds → ℕ → List ℕ → List Step → Walk (Outcome Fetched)
leaf_along m ino inode [] = done (ok hole)
leaf_along m ino inode (s ∷ way) = leaf_from m ino way inode (4052 + 4 * s.slot)

abbrev pub leaf_walk : Bounds → ℕ → List ℕ → Place → Walk (Outcome Fetched)
leaf_walk m ino inode p = leaf_along m ino inode (way_of p)

-- the data block whose address stands there in a leaf
abbrev pub at_leaf : Bounds → ℕ → Fetched → Walk (Outcome Fetched)
at_leaf m at hole = done (ok hole)
at_leaf m at (held leaf) = data_walk m (le32 leaf at)

-- where in its bytes a leaf's addresses start, "addresses from 360" in the inode; where the block's stands, and where they end
abbrev pub addresses_from : Place → ℕ
addresses_from (Inode s) = 360
addresses_from (Direct n s) = 0
addresses_from (Indirect n k s) = 0
addresses_from (Double n k s) = 0
addresses_from Past = 0

abbrev pub address_at : Place → ℕ
address_at p = addresses_from p + 4 * slot_of p

abbrev pub addresses_end : ℕ → Place → ℕ
addresses_end A p = addresses_from p + 4 * slots_of A p

-- ---- the leaves of a file

-- the end of the code's way
abbrev pub file_way_walk : File → Way → Walk (Outcome Fetched)
file_way_walk file way =
    leaf_from (bounds_of file.card.volume) file.ino (after_inode way) (inode_of file) (4052 + 4 * (get_or way.steps 0 (step 0 0)).slot)

-- the leaf of an index
abbrev pub file_leaf_walk : File → ℕ → Walk (Outcome Fetched)
file_leaf_walk file index = leaf_walk (bounds_of file.card.volume) file.ino (inode_of file) (place_of file.addresses index)

-- ---- a leaf that is kept

-- a file's numbers, on any card and with any volume
pub record FileOn : Type 0 where
  pub card : Card
  pub volume : Volume
  pub ino : ℕ
  pub inode : ℕ
  pub addresses : ℕ

abbrev pub on_card : File → FileOn
on_card file =
    record { card = card_in file.card; volume = file.card.volume; ino = file.ino; inode = file.inode; addresses = file.addresses }

abbrev pub leaf_walk_on : FileOn → ℕ → Walk (Outcome Fetched)
leaf_walk_on f index = leaf_walk (bounds_of f.volume) f.ino (f.card.block f.inode) (place_of f.addresses index)

-- this is what the walk to the leaf of the index comes to, its block, none in a hole, or a stop; where in the leaf the address is and where
-- they end; and the lists hold all that leads to it: walked to again, it comes to the same and lists nothing new
pub record LeafOn (f : FileOn) (index : ℕ) (node : Result (Option ℕ) ℕ) (at end : ℕ) (t : Lists) : Type 0 where
  pub at_is : at ≡ address_at (place_of f.addresses index)
  pub end_is : end ≡ addresses_end f.addresses (place_of f.addresses index)
  pub inside : CameIn f.card node
  pub again : run (view_of f.card f.volume) (listed t) (leaf_walk_on f index) ≡ ran (came_of f.card node) (listed t)

-- what is kept is so of the index, as long as an address is left in the leaf
pub record KeepsOn (f : FileOn) (index : ℕ) (node : Result (Option ℕ) ℕ) (at end : ℕ) (t : Lists) : Type 0 where
  pub serves : at < end → LeafOn f index node at end t

-- the same of the code's file and leaf
abbrev pub LeafOf : File → ℕ → Leaf → Lists → Type 0
LeafOf file index leaf t = LeafOn (on_card file) index (numbered leaf.node) leaf.at leaf.end t

abbrev pub Keeps : File → ℕ → Leaf → Lists → Type 0
Keeps file index leaf t = KeepsOn (on_card file) index (numbered leaf.node) leaf.at leaf.end t

-- what the code has of a leaf that it walked to
abbrev pub leaf_found : Card → Result Leaf Stop → Outcome Fetched
leaf_found card (Ok leaf) = data_of card leaf.node
leaf_found card (Err e) = stop (stop_number e)

-- or the walk to the leaf stops there, and will again
abbrev pub FoundLeaf : File → ℕ → Result Leaf Stop → Lists → Type 0
FoundLeaf file index (Ok leaf) t = LeafOf file index leaf t
FoundLeaf file index (Err e) t =
    LeafOn (on_card file) index (Err (stop_number e)) (address_at (place_of file.addresses index)) (addresses_end file.addresses (place_of file.addresses index)) t
