-- What a reader does with the block that came: its numbers then, which bytes it keeps, and what it lists.
use Rattle.std.specs.Prelude.{ℕ, ◌≡◌, Bool, false, List, Option, Some, None}
use Rattle.answer.specs.Number.{refusal_number, stop_number}
use Rattle.field.specs.Choice.{choose}
use Rattle.walk.specs.Walk.{Seen, saw_block}
use Rattle.asking.specs.Table.{journal_in}
use Rattle.ask_node.specs.Fetch.{looked_up}
use Rattle.ask_directory.specs.declared.Spot.{Spot}
use Rattle.ask_directory.specs.declared.Target.{Target}
use Rattle.ask_directory.specs.declared.Goes.{Goes}
use Rattle.ask_directory.specs.declared.Goes.TheVariants as g
use Rattle.ask_directory.specs.declared.Move.{Move}
use Rattle.ask_open.specs.declared.Stage.{Stage}
use Rattle.ask_open.specs.declared.Stage.TheVariants as st
use Rattle.ask_open.specs.declared.Keep.{Keep}
use Rattle.ask_open.specs.declared.Keep.TheVariants as k
use Rattle.ask_open.specs.declared.Opening.{Opening}
use Rattle.ask_open.specs.Came.{first_after, second_after}
use Rattle.checkpoint.specs.declared.Volume.{Volume}
use Rattle.reader_state.specs.declared.At.{At}
use Rattle.reader_state.specs.declared.Decision.{Decision}
use Rattle.reader_state.specs.Resume.{Memory, memory}

-- ---- the numbers

-- a block is asked for in a stage
abbrev pub asks_at : At → Volume → Target → ℕ → Spot → ℕ → ℕ → At
asks_at at v n table_inode p stage b =
    record {
      asks = 1;
      block = b;
      stage = stage;
      card_blocks = at.card_blocks;
      index = at.index;
      path_length = at.path_length;
      volume = v;
      target = n;
      table_inode = table_inode;
      spot = p;
      answer = 0;
      byte_count = 0;
      node_count = at.node_count;
      block_count = at.block_count;
    }

-- the answer is there
abbrev pub ends_at : At → ℕ → ℕ → ℕ → At
ends_at at stage number count =
    record {
      asks = 0;
      block = 0;
      stage = stage;
      card_blocks = at.card_blocks;
      index = at.index;
      path_length = at.path_length;
      volume = at.volume;
      target = at.target;
      table_inode = at.table_inode;
      spot = at.spot;
      answer = number;
      byte_count = count;
      node_count = at.node_count;
      block_count = at.block_count;
    }

-- .. and refuses, with all counts 0
abbrev pub refuses_at : At → ℕ → At
refuses_at at number =
    record {
      asks = 0;
      block = 0;
      stage = 0;
      card_blocks = at.card_blocks;
      index = at.index;
      path_length = at.path_length;
      volume = at.volume;
      target = at.target;
      table_inode = at.table_inode;
      spot = at.spot;
      answer = number;
      byte_count = 0;
      node_count = 0;
      block_count = 0;
    }

-- a block is asked for in a stage of opening
abbrev pub opens_in : At → Volume → ℕ → ℕ → At
opens_in at v b stage = asks_at at v at.target 0 at.spot stage b

abbrev pub opens_at : At → Volume → ℕ → Stage → At
opens_at at v b st.FirstCopy = opens_in at v b 0
opens_at at v b st.SecondCopy = opens_in at v b 1
opens_at at v b st.OneFirst = opens_in at v b 2
opens_at at v b st.OneLast = opens_in at v b 3
opens_at at v b (st.TwoFirst passed) = opens_in at v b (choose passed 5 4)
opens_at at v b (st.TwoLast passed) = opens_in at v b (choose passed 7 6)
opens_at at v b st.Journal = opens_in at v b 8
opens_at at v b (st.Refused refusal) = refuses_at at (refusal_number refusal)

abbrev pub goes_at : At → Target → Spot → Goes → At
goes_at at n p (g.Table b) = asks_at at at.volume n 0 p 9 b
goes_at at n p (g.Node b table_inode) = asks_at at at.volume n table_inode p 10 b
goes_at at n p (g.Data b) = asks_at at at.volume n 0 p 11 b
goes_at at n p (g.Stop reason) = ends_at at 1 (stop_number reason) 0
goes_at at n p (g.Empty count) = ends_at at 2 1 count
goes_at at n p (g.Full count) = ends_at at 3 0 count
goes_at at n p (g.Inline count) = ends_at at 4 0 count

-- at the start, with a path of so many bytes
pub record StartsAt (blocks i length : ℕ) (at : At) : Type 0 where
  pub asked : at.asks ≡ 1
  pub block_zero : at.block ≡ 0
  pub first_stage : at.stage ≡ 0
  pub card : at.card_blocks ≡ blocks
  pub index : at.index ≡ i
  pub path : at.path_length ≡ length
  pub no_nodes : at.node_count ≡ 0
  pub no_blocks : at.block_count ≡ 0

-- ---- the lists: a node that was looked up, and a block that the walk reads, which is listed when it is asked for

abbrev pub block_read : Goes → Option ℕ
block_read (g.Table b) = None
block_read (g.Node b table_inode) = Some b
block_read (g.Data b) = Some b
block_read (g.Stop reason) = None
block_read (g.Empty count) = None
block_read (g.Full count) = None
block_read (g.Inline count) = None

abbrev pub read_then : Option ℕ → Seen → Seen
read_then (Some block) s = saw_block block s
read_then None s = s

abbrev pub noted : Decision → Seen → Seen
noted d s = read_then d.read (looked_up d.looked s)

-- ---- the bytes

-- a block that comes in the walk is kept in place of the one that is held, or isn't
abbrev pub keep_if : Bool → Keep
keep_if keeps = choose keeps k.Second k.Nothing

abbrev pub memory_after : Decision → Memory → List ℕ → Memory
memory_after d m bytes =
    memory m.path (first_after d.keep m.first m.held bytes) (second_after d.keep m.held bytes)
    (choose d.journal (journal_in d.at.volume.journal_at bytes) m.journal)

-- ---- what is decided

-- where opening goes
abbrev pub open_on : At → Opening → Decision
open_on at o =
    record {
      at = opens_at at o.volume o.block o.stage;
      keep = o.keep;
      journal = false;
      looked = None;
      read = None;
    }

-- the journal can't be searched
abbrev pub refuse_on : At → Decision
refuse_on at = record { at = refuses_at at 8; keep = k.Nothing; journal = false; looked = None; read = None }

-- where the walk goes
abbrev pub walk_on : At → Move → Keep → Bool → Decision
walk_on at mv keep journal =
    record {
      at = goes_at at mv.target mv.spot mv.goes;
      keep = keep;
      journal = journal;
      looked = mv.looked;
      read = block_read mv.goes;
    }
