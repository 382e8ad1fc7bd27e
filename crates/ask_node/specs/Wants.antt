-- What is wanted next for a node, and what that means: the tree that is left.
use Rattle.std.specs.Prelude.{ℕ, List, eqb, Option, Some, None}
use Rattle.answer.specs.declared.Stop.TheVariants.{NoNode, NodeOutside, DataOutside}
use Rattle.answer.specs.Number.{stop_number}
use Rattle.field.specs.Choice.{choose}
use Rattle.nat.specs.declared.Entry.{Entry}
use Rattle.nat.specs.Entry.{in_journal}
use Rattle.nat.specs.Table.{in_range, entry_in}
use Rattle.walk.specs.Walk.{Seen, saw_block, Walk, Outcome, stop, and_then, ran}
use Rattle.node.specs.Node.{Bounds, bounds_of, in_main, at_block, at_entry}
use Rattle.node.specs.Block.{Fetched, hole, held, is_hole}
use Rattle.pull.specs.Walk.{Block}
use Rattle.asking.specs.Asking.{Asking, answer, ask}
use Rattle.asking.specs.Table.{Kept, keeping, address_for, asking}
use Rattle.asking.specs.Pull.{Ending, came}
use Rattle.ask_node.specs.declared.kept.Kept as k
use Rattle.ask_node.specs.declared.Wants.{Wants}
use Rattle.ask_node.specs.declared.Wants.TheVariants.{Table, Node, Data, Hole, Stop}

-- what the code keeps of an opened card, as the definitions'
abbrev pub kept_in : k.Kept → Kept
kept_in card = keeping card.volume card.first.now card.journal.now

-- ---- what is wanted

-- "At a node: 9, 10", and then its block
unfoldable pub entry_wants : Bounds → ℕ → ℕ → Wants
entry_wants m table_inode address = choose (eqb address 0) (Stop NoNode) (choose (in_main m address) (Node address table_inode) (Stop NodeOutside))

-- the journal comes before the table
abbrev pub journal_wants : Kept → ℕ → Option Entry → Wants
journal_wants t number (Some entry) = entry_wants (bounds_of t.volume) entry.inode entry.address
journal_wants t number None = Table (address_for t number)

-- a node that is sought by its number
unfoldable pub seek_wants : Kept → ℕ → Wants
seek_wants t number = choose (in_range t.volume number) (journal_wants t number (in_journal t.journal number)) (Stop NoNode)

-- the block at a data address
unfoldable pub data_wants : Bounds → ℕ → Wants
data_wants m address = choose (is_hole address) Hole (choose (in_main m address) (Data address) (Stop DataOutside))

-- ---- what it means

-- a node that is sought: its number, the inode number of its file, and its place there
pub record Sought : Type 0 where
  pub number : ℕ
  pub ino : ℕ
  pub place : ℕ

abbrev pub sought : ℕ → ℕ → ℕ → Sought
sought number ino place = record { number = number; ino = ino; place = place }

-- What is left, with what was seen: `f` follows a node's bytes, `g` what a data block holds. A block that the walk reads is listed when
-- it is asked for.
unfoldable pub wanting : Kept → Sought → (List ℕ → Walk (Outcome Block)) → (Fetched → Walk (Outcome Block)) → Seen → Wants → Asking Ending
wanting t n f g s (Table b) =
    ask b (λ l. asking t came s (and_then (at_entry (bounds_of t.volume) n.number n.ino n.place (entry_in l n.number)) f))
wanting t n f g s (Node b table_inode) =
    ask b (λ l. asking t came (saw_block b s) (and_then (at_block n.number n.ino n.place table_inode l) f))
wanting t n f g s (Data b) = ask b (λ l. asking t came (saw_block b s) (g (held l)))
wanting t n f g s Hole = asking t came s (g hole)
wanting t n f g s (Stop reason) = answer (came (ran (stop (stop_number reason)) s))
