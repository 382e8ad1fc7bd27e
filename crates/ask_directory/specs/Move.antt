-- Where a walk goes when a block came: what it asks for next, or the answer.
use Rattle.std.specs.Prelude.{ℕ, ◌+◌, ◌≤◌, ◌<◌, ◌≡◌, Bool, true, false, List, length, drop, leb, None}
use Rattle.std.specs.Option.{unwrap_or}
use Rattle.field.specs.Choice.{choose}
use Rattle.place.specs.Place.{last_index}
use Rattle.walk.specs.Walk.{Seen, ok, ran}
use Rattle.inode.specs.Inode.{inode_of, inline_start, addresses_in, is_directory, is_past}
use Rattle.node.specs.Block.{Fetched, hole, held}
use Rattle.asking.specs.Asking.{Asking, answer}
use Rattle.asking.specs.Table.{Kept}
use Rattle.asking.specs.Pull.{Ending, came}
use Rattle.ask_node.specs.declared.Wants.{Wants}
use Rattle.ask_node.specs.declared.Wants.TheVariants as w
use Rattle.ask_node.specs.declared.Fetch.{Fetch}
use Rattle.ask_node.specs.Wants.{sought, wanting}
use Rattle.ask_node.specs.Fetch.{no_node, block_fetch, looked_up}
use Rattle.ask_directory.specs.declared.Spot.{Spot}
use Rattle.ask_directory.specs.declared.Target.{Target}
use Rattle.ask_directory.specs.declared.Goes.{Goes}
use Rattle.ask_directory.specs.declared.Goes.TheVariants.{Table, Node, Data, Stop, Empty, Full, Inline}
use Rattle.ask_directory.specs.declared.Move.{Move}
use Rattle.ask_directory.specs.Left.{Question, names_at, node_then, data_then}

-- ---- what it means

-- an answer with a block, of which so many bytes are the file's
abbrev pub gave : ℕ → Fetched → Seen → Asking Ending
gave count content s = answer (came (ran (ok (record { count = count; content = content })) s))

-- what is still wanted, with what was seen
abbrev pub wants_by : Question → List ℕ → Target → Spot → Seen → Wants → Asking Ending
wants_by q inode n p s wants =
    wanting q.kept (sought n.number p.ino n.place) (node_then q p inode n.index n.hop) (data_then q p inode (names_at q p)) s wants

-- what is left where the walk goes, with the inode or the file's block at hand, and what was seen
unfoldable pub goes_by : Question → List ℕ → Target → Spot → Seen → Goes → Asking Ending
goes_by q block n p s (Table b) = wants_by q block n p s (w.Table b)
goes_by q block n p s (Node b table_inode) = wants_by q block n p s (w.Node b table_inode)
goes_by q block n p s (Data b) = wants_by q block n p s (w.Data b)
goes_by q block n p s (Stop reason) = wants_by q block n p s (w.Stop reason)
goes_by q block n p s (Empty count) = gave count hole s
goes_by q block n p s (Full count) = gave count (held block) s
goes_by q block n p s (Inline count) = gave count (held (drop inline_start block)) s

-- the same of a move, from what was seen before it
unfoldable pub moved : Question → List ℕ → Seen → Move → Asking Ending
moved q block s m = goes_by q block m.target m.spot (looked_up m.looked s) m.goes

-- ---- moves

-- where what is wanted leads; a hole ends it with so many bytes
abbrev pub goes_on : ℕ → Wants → Goes
goes_on count (w.Table b) = Table b
goes_on count (w.Node b table_inode) = Node b table_inode
goes_on count (w.Data b) = Data b
goes_on count w.Hole = Empty count
goes_on count (w.Stop reason) = Stop reason

-- no node is sought
abbrev pub no_target : Spot → Goes → Move
no_target p goes = record { goes = goes; looked = None; target = record { number = 0; place = 0; index = 0; hop = 0 }; spot = p }

-- the block of an index is fetched
abbrev pub fetch_move : Fetch → ℕ → Spot → ℕ → Move
fetch_move f index p count =
    record {
      goes = goes_on count f.wants;
      looked = f.looked;
      target = record { number = unwrap_or f.looked 0; place = f.place; index = index; hop = f.hop };
      spot = p;
    }

-- a directory's block of an index; past the last index there is none
abbrev pub bucket_move : Kept → List ℕ → Spot → ℕ → Move
bucket_move t inode p index =
    choose (leb index (last_index (addresses_in (inode_of inode)))) (fetch_move (block_fetch t inode index) index p 0) (fetch_move (no_node w.Hole) 0 p 0)

abbrev pub is_empty : Goes → Bool
is_empty (Table b) = false
is_empty (Node b table_inode) = false
is_empty (Data b) = false
is_empty (Stop reason) = false
is_empty (Empty count) = true
is_empty (Full count) = false
is_empty (Inline count) = false

-- the target's block is asked for, or there is none
abbrev pub IsNode : Goes → Type 0
IsNode (Table b) = ⊥
IsNode (Node b table_inode) = Unit {0}
IsNode (Data b) = ⊥
IsNode (Stop reason) = Unit {0}
IsNode (Empty count) = ⊥
IsNode (Full count) = ⊥
IsNode (Inline count) = ⊥

-- ---- what a reader knows of where it is

-- the inode at hand is a directory's, and the level and the block are ones that a search has; or a file's, which has the index
abbrev pub SpotBy : Bool → ℕ → List ℕ → Spot → Type 0
SpotBy true index inode p = (is_directory (inode_of inode) ≡ true) × (p.level < 63) × (p.block < 4)
SpotBy false index inode p = is_past (inode_of inode) index ≡ false

abbrev pub SpotIn : List ℕ → ℕ → List ℕ → Spot → Type 0
SpotIn path index inode p = SpotBy (leb p.name_at (length path)) index inode p

-- what holds of the target and the spot where the walk goes on
abbrev pub GoesIn : List ℕ → ℕ → List ℕ → Target → Spot → Goes → Type 0
GoesIn path index inode n p (Table b) = (n.hop < 4) × ((n.hop ≡ 0 → ⊥) → SpotIn path index inode p)
GoesIn path index inode n p (Node b table_inode) = (n.hop < 4) × ((n.hop ≡ 0 → ⊥) → SpotIn path index inode p)
GoesIn path index inode n p (Data b) = SpotIn path index inode p
GoesIn path index inode n p (Stop reason) = Unit {0}
GoesIn path index inode n p (Empty count) = count ≤ 4096
GoesIn path index inode n p (Full count) = count ≤ 4096
GoesIn path index inode n p (Inline count) = count + inline_start ≤ 4096

abbrev pub MoveIn : List ℕ → ℕ → List ℕ → Move → Type 0
MoveIn path index inode m = GoesIn path index inode m.target m.spot m.goes
