-- What is wanted next for a node, or for a data block, leaves the tree of its walk.
use Prim.Native.Nat.{ℕ}
use lib.Dec.{eqb}
use mathlib.Core.Path.{◌≡◌, refl}
use mathlib.Core.Bool.{Bool, true, false}
use mathlib.Core.List.{List}
use Rattle.std.proofs.Common.{Option, Some, None}
use Rattle.answer.specs.declared.Stop.TheVariants.{NoNode, NodeOutside, DataOutside}
use Rattle.field.specs.Choice.{choose}
use Rattle.nat.specs.declared.Entry as e
use Rattle.nat.specs.Entry.{in_journal}
use Rattle.nat.specs.Table.{TableAnswer, OutOfRange, Entry, in_range}
use Rattle.walk.specs.Walk.{Seen, saw_node, Walk, done, read, bind, Outcome, ok, stop, onward, and_then, ran}
use Rattle.node.specs.Node.{bounds_of, in_main, at_block, at_entry, node_walk}
use Rattle.node.specs.Block.{Fetched, hole, is_hole, holding, data_walk}
use Rattle.pull.specs.Walk.{Block}
use Rattle.asking.specs.Asking.{Asking, answer}
use Rattle.asking.specs.Table.{Kept, or_ask, lookup, asking}
use Rattle.asking.specs.Pull.{Ending, came}
use Rattle.ask_node.specs.declared.Wants.TheVariants as w
use Rattle.ask_node.specs.Wants.{Sought, entry_wants, journal_wants, seek_wants, data_wants, wanting}

-- ---- a walk that has nothing to ask before what follows
module _ {A : Type 0} (t : Kept) (s : Seen) (f : A → Walk (Outcome Block)) where
  pub stop_asked : (e : ℕ) → asking t came s (and_then (done (stop e)) f) ≡ answer (came (ran (stop e) s))
  unfolding asking and_then bind onward
  stop_asked e = refl

  pub ok_asked : (a : A) → asking t came s (and_then (done (ok a)) f) ≡ asking t came s (f a)
  unfolding and_then bind onward
  ok_asked a = refl

module _ (t : Kept) (n : Sought) (f : List ℕ → Walk (Outcome Block)) (g : Fetched → Walk (Outcome Block)) (s : Seen) where
  -- ---- a node

  -- what the walk asks from the table's answer on
  abbrev from_entry : TableAnswer → Asking Ending
  from_entry e = asking t came s (and_then (at_entry (bounds_of t.volume) n.number n.ino n.place e) f)

  -- by whether the address is 0, and whether it lies in the main area
  entry_by : (i a : ℕ) (zero inside : Bool)
      → wanting t n f g s (choose zero (w.Stop NoNode) (choose inside (w.Node a i) (w.Stop NodeOutside)))
      ≡ asking t came s (and_then (choose zero (done (stop 9))
      (choose inside (read a (at_block n.number n.ino n.place i)) (done (stop 10)))) f)
  unfolding wanting asking and_then bind onward
  entry_by i a true inside = refl
  entry_by i a false true = refl
  entry_by i a false false = refl

  pub entry_wanted : (i a : ℕ) → wanting t n f g s (entry_wants (bounds_of t.volume) i a)
      ≡ asking t came s (and_then (at_entry (bounds_of t.volume) n.number n.ino n.place (Entry i a)) f)
  unfolding entry_wants at_entry
  entry_wanted i a = entry_by i a (eqb a 0) (in_main (bounds_of t.volume) a)

  -- by what the journal holds
  journal_by : (said : Option e.Entry) → wanting t n f g s (journal_wants t n.number said) ≡ or_ask t n.number from_entry said
  unfolding wanting
  journal_by (Some entry) = entry_wanted entry.inode entry.address
  journal_by None = refl

  -- by whether the number is in range
  range_by : (inside : Bool)
      → wanting t n f g s (choose inside (journal_wants t n.number (in_journal t.journal n.number)) (w.Stop NoNode))
      ≡ choose inside (or_ask t n.number from_entry (in_journal t.journal n.number)) (from_entry OutOfRange)
  unfolding wanting asking and_then bind onward at_entry
  range_by true = journal_by (in_journal t.journal n.number)
  range_by false = refl

  -- ---- a data block

  -- by whether the address is that of a hole, and whether it lies in the main area
  data_by : (a : ℕ) (empty inside : Bool)
      → wanting t n f g s (choose empty w.Hole (choose inside (w.Data a) (w.Stop DataOutside)))
      ≡ asking t came s (and_then (choose empty (done (ok hole)) (choose inside (read a holding) (done (stop 13)))) g)
  unfolding wanting asking and_then bind onward
  data_by a true inside = refl
  data_by a false true = refl
  data_by a false false = refl

  pub data_wanted : (a : ℕ) → wanting t n f g s (data_wants (bounds_of t.volume) a)
      ≡ asking t came s (and_then (data_walk (bounds_of t.volume) a) g)
  unfolding data_wants data_walk
  data_wanted a = data_by a (is_hole a) (in_main (bounds_of t.volume) a)

-- ---- a node by its number
pub seek_wanted : (t : Kept) (n : Sought) (f : List ℕ → Walk (Outcome Block)) (g : Fetched → Walk (Outcome Block)) (s : Seen)
    → wanting t n f g (saw_node n.number s) (seek_wants t n.number)
    ≡ asking t came s (and_then (node_walk (bounds_of t.volume) n.number n.ino n.place) f)
unfolding seek_wants node_walk asking lookup and_then bind
seek_wanted t n f g s = range_by t n f g (saw_node n.number s) (in_range t.volume n.number)
