-- What holds of the numbers and bytes of each state that the start or a step gave, and the test of it: by it no state, whatever it holds, leads
-- out of what was lent.
use Rattle.std.specs.Prelude.{ℕ, ◌+◌, ◌*◌, ◌%◌, ◌≤◌, ◌<◌, ◌≡◌, Bool, true, false, not, ◌&&◌, ◌||◌, List, ◌⊎◌, length, eqb, leb, ltb, None}
use Rattle.field.specs.Number.{le16}
use Rattle.field.specs.Choice.{choose}
use Rattle.superblock.specs.declared.Areas.{Areas}
use Rattle.checkpoint.specs.declared.Volume.{Volume}
use Rattle.checkpoint.specs.Checkpoint.{checkpoint_of}
use Rattle.inode.specs.Inode.{inode_of, inline_start, is_directory, is_past}
use Rattle.walk.specs.Walk.{Seen}
use Rattle.asking.specs.Table.{keeping, KeptIn}
use Rattle.ask_directory.specs.declared.Spot.{Spot}
use Rattle.ask_directory.specs.Move.{SpotIn}
use Rattle.ask_open.specs.Came.{StageIn}
use Rattle.reader_state.specs.declared.At.{At}
use Rattle.reader_state.specs.declared.Decision.{Decision}
use Rattle.reader_state.specs.Resume.{Memory, path_in, stage_of, block_came, resume_by}
use Rattle.reader_state.specs.Decision.{noted, memory_after}

-- ---- the test

unfoldable pub areas_fit : Areas → Bool
areas_fit a =
    ltb (a.checkpoint + 1024) 4294967296 && eqb a.ssa (a.nat + 512 * a.nat_segments) && eqb (a.nat_segments % 2) 0

unfoldable pub pack_fits : List ℕ → Bool
pack_fits first = leb 2 (checkpoint_of first).cp_pack_total_block_count && leb (checkpoint_of first).cp_pack_total_block_count 512

unfoldable pub map_fits : Volume → Bool
map_fits v = leb (v.nat_map + 32 * v.areas.nat_segments) 4092

-- the first pack passed, in its stages and in those of the second
abbrev pub first_passed : ℕ → Bool
first_passed stage = eqb stage 3 || eqb stage 5 || eqb stage 7

-- the second pack's first block passed
abbrev pub second_passed : ℕ → Bool
second_passed stage = eqb stage 6 || eqb stage 7

unfoldable pub open_fits : ℕ → Volume → List ℕ → List ℕ → Bool
open_fits stage v first second =
    ltb stage 2
    || (areas_fit v.areas && (not (first_passed stage) || pack_fits first) && (not (second_passed stage) || pack_fits second)
    && (not (eqb stage 8) || (map_fits v && leb v.journal_at 3584)))

unfoldable pub spot_fits : ℕ → ℕ → List ℕ → Spot → Bool
spot_fits path_length_in index inode p =
    choose (leb p.name_at path_length_in) (is_directory (inode_of inode) && ltb p.level 63 && ltb p.block 4)
    (not (is_past (inode_of inode) index))

unfoldable pub walk_fits : At → List ℕ → List ℕ → Bool
walk_fits at inode journal =
    areas_fit at.volume.areas && map_fits at.volume && leb (le16 journal 0) 38
    && choose (ltb 10 at.stage) (spot_fits at.path_length at.index inode at.spot)
    (ltb at.target.hop 4 && (eqb at.target.hop 0 || spot_fits at.path_length at.index inode at.spot))

unfoldable pub fits : At → Memory → Bool
fits at m =
    leb at.path_length 2048
    && choose (ltb at.stage 9)
    (open_fits at.stage at.volume m.first m.held && eqb at.node_count 0 && eqb at.block_count 0)
    (walk_fits at m.held m.journal)

-- ---- what it says

-- an array of a reader has its length
pub record Sized (m : Memory) : Type 0 where
  pub path : length m.path ≡ 2048
  pub first : length m.first ≡ 4096
  pub held : length m.held ≡ 4096
  pub journal : length m.journal ≡ 512

abbrev pub WalkIn : Bool → At → Memory → Type 0
WalkIn true at m = SpotIn (path_in at m) at.index m.held at.spot
WalkIn false at m = (at.target.hop < 4) × ((at.target.hop ≡ 0 → ⊥) → SpotIn (path_in at m) at.index m.held at.spot)

abbrev pub StateIn : Bool → At → Memory → Type 0
StateIn true at m = StageIn at.volume m.first m.held (stage_of at.stage) × (at.node_count ≡ 0) × (at.block_count ≡ 0)
StateIn false at m =
    KeptIn (keeping at.volume m.first m.journal) × (at.volume.areas.checkpoint + 1024 < 4294967296)
    × WalkIn (ltb 10 at.stage) at m

pub record Fits (at : At) (m : Memory) : Type 0 where
  pub sized : Sized m
  pub path : at.path_length ≤ 2048
  pub state : StateIn (ltb at.stage 9) at m

-- an answer's bytes are in the block that is held, in an inode from where contents start, and a refusal lists nothing
pub record EndIn (at : At) : Type 0 where
  pub bytes : at.byte_count + choose (ltb 3 at.stage) inline_start 0 ≤ 4096
  pub counts : at.stage ≡ 0 → (at.node_count ≡ 0) × (at.block_count ≡ 0)

-- by whether the answer is there
abbrev pub FitsBy : Bool → At → Memory → Type 0
FitsBy true at m = EndIn at
FitsBy false at m = Fits at m

-- ---- what a decision is for the block that came: what is left then, with what was listed before, and that it fits again

-- 1 and the block that is wanted next, or 0 and 0 once the answer is there
abbrev pub Form : At → Type 0
Form at = ((at.asks ≡ 0) × (at.block ≡ 0)) ⊎ (at.asks ≡ 1)

-- only the walk lists
abbrev pub Quiet : Decision → Type 0
Quiet d = (d.looked ≡ None) × (d.read ≡ None)

abbrev pub Walks : At → Type 0
Walks at = (at.stage ≡ 0 → ⊥) × ((at.asks ≡ 0 → ⊥) → 9 ≤ at.stage)

pub record Decided (at : At) (m : Memory) (bytes : List ℕ) (d : Decision) : Type 0 where
  pub same : (s : Seen) → resume_by d.at (memory_after d m bytes) (noted d s) ≡ block_came at m s bytes
  pub fit : FitsBy (eqb d.at.asks 0) d.at (memory_after d m bytes)
  pub form : Form d.at
  pub lists : Quiet d ⊎ Walks d.at
  pub path : d.at.path_length ≡ at.path_length
  pub journal : d.journal ≡ true → d.at.volume.journal_at ≤ 3584
  pub counts : (d.at.node_count ≡ at.node_count) × (d.at.block_count ≡ at.block_count)
