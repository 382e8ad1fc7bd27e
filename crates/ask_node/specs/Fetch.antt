-- The block of an index of a file, sought from the bytes of its inode: what is wanted next on the way to it.
use Rattle.std.specs.Prelude.{ℕ, ◌+◌, ◌*◌, ◌<◌, ◌≤◌, ◌≡◌, List, [], ◌∷◌, length, take, drop, get_or, eqb, ltb, Option, Some, None}
use Rattle.std.specs.Option.{unwrap_or}
use Rattle.field.specs.Number.{le32}
use Rattle.field.specs.Choice.{choose}
use Rattle.place.specs.declared.Step.{Step}
use Rattle.place.specs.declared.Way.{Way}
use Rattle.place.specs.Place.{place_of}
use Rattle.place.specs.Way.{step, way_of}
use Rattle.walk.specs.Walk.{Seen, saw_node, Walk, Outcome, and_then}
use Rattle.inode.specs.Inode.{inode_of, addresses_in}
use Rattle.node.specs.Node.{bounds_of}
use Rattle.node.specs.Block.{Fetched, follow_walk}
use Rattle.pull.specs.Walk.{Block}
use Rattle.asking.specs.Asking.{Asking}
use Rattle.asking.specs.Table.{Kept}
use Rattle.asking.specs.Pull.{Ending}
use Rattle.ask_node.specs.declared.Wants.{Wants}
use Rattle.ask_node.specs.declared.Wants.TheVariants.{Hole}
use Rattle.ask_node.specs.declared.Fetch.{Fetch}
use Rattle.ask_node.specs.Wants.{seek_wants, data_wants, sought, wanting}

-- the way to a block of the file of an inode
abbrev pub way_to : List ℕ → ℕ → List Step
way_to inode index = way_of (place_of (addresses_in (inode_of inode)) index)

-- the steps that the code has in an array
abbrev pub steps_in : Way → List Step
steps_in way = take way.count way.steps

-- what it knows of them: they are at the front of an array of four
pub record WayIn (way : Way) : Type 0 where
  pub few : way.count ≤ 4
  pub whole : length way.steps ≡ 4

abbrev pub step_on : List Step → ℕ → Step
step_on way hop = get_or way hop (step 0 0)

-- ---- what is wanted

-- no node is looked up
abbrev pub no_node : Wants → Fetch
no_node wants = record { wants = wants; looked = None; place = 0; hop = 0 }

-- the node that a number names, at a hop of a way, is looked up
abbrev pub node_on : Kept → List Step → ℕ → ℕ → Fetch
node_on t way hop number =
    record { wants = seek_wants t number; looked = Some number; place = (step_on way hop).number; hop = hop }

-- from a number, through the nodes that are left of the way from a hop on, to the data block; "Inside a node, number 0 .. [is a hole]"
unfoldable pub follow_fetch : Kept → List Step → ℕ → ℕ → Fetch
follow_fetch t way hop number =
    choose (ltb hop (length way)) (choose (eqb number 0) (no_node Hole) (node_on t way hop number))
    (no_node (data_wants (bounds_of t.volume) number))

-- from the bytes of the inode: "addresses from 360, five node numbers from 4,052"
unfoldable pub way_fetch : Kept → List ℕ → List Step → Fetch
way_fetch t inode [] = no_node Hole
way_fetch t inode (s ∷ []) = no_node (data_wants (bounds_of t.volume) (le32 inode (360 + 4 * s.slot)))
way_fetch t inode (s ∷ u ∷ way) = follow_fetch t (s ∷ u ∷ way) 1 (le32 inode (4052 + 4 * s.slot))

abbrev pub block_fetch : Kept → List ℕ → ℕ → Fetch
block_fetch t inode index = way_fetch t inode (way_to inode index)

-- the node at a hop of the way came
abbrev pub next_fetch : Kept → List ℕ → ℕ → ℕ → List ℕ → Fetch
next_fetch t inode index hop block = follow_fetch t (way_to inode index) (hop + 1) (le32 block (4 * (step_on (way_to inode index) hop).slot))

-- ---- what it means

-- the node that was looked up, if one was
abbrev pub looked_up : Option ℕ → Seen → Seen
looked_up (Some number) s = saw_node number s
looked_up None s = s

-- what follows the node at a hop of the way, where `g` follows the data block
abbrev pub after_hop : Kept → ℕ → List Step → ℕ → (Fetched → Walk (Outcome Block)) → List ℕ → Walk (Outcome Block)
after_hop t ino way hop g block =
    and_then (follow_walk (bounds_of t.volume) ino (drop (hop + 1) way) (le32 block (4 * (step_on way hop).slot))) g

unfoldable pub fetching : Kept → ℕ → List Step → (Fetched → Walk (Outcome Block)) → Seen → Fetch → Asking Ending
fetching t ino way g s f =
    wanting t (sought (unwrap_or f.looked 0) ino f.place) (after_hop t ino way f.hop g) g (looked_up f.looked s) f.wants

-- where a node is wanted, its hop is one of the way's
abbrev pub HopIn : Fetch → Type 0
HopIn f = f.hop < 4
