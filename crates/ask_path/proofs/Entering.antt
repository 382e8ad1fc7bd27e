-- A node that is sought, or whose table entry came, as a move: what is left there is the walk to it and what follows it.
use Prim.Native.Nat.{ℕ}
use native.Mathlib.Omega.{arith}
use lib.Dec.{eqb}
use mathlib.Core.Path.{◌≡◌, refl, sym, ap, ◌∙◌}
use mathlib.Core.Bool.{Bool, true, false}
use mathlib.Core.List.{List}
use Rattle.std.specs.Prelude.{Option, Some, None}
use Rattle.answer.specs.declared.Stop.TheVariants.{NoNode, NodeOutside}
use Rattle.field.specs.Choice.{choose}
use Rattle.nat.specs.declared.Entry as e
use Rattle.nat.specs.Entry.{in_journal}
use Rattle.nat.specs.Table.{Entry, in_range}
use Rattle.walk.specs.Walk.{Seen, saw_node, and_then}
use Rattle.node.specs.Node.{Bounds, bounds_of, in_main, at_entry}
use Rattle.asking.specs.Table.{Kept, asking}
use Rattle.asking.specs.Pull.{came}
use Rattle.ask_node.specs.declared.Wants.{Wants}
use Rattle.ask_node.specs.declared.Wants.TheVariants as w
use Rattle.ask_node.specs.Wants.{entry_wants, journal_wants, seek_wants, sought}
use Rattle.ask_node.proofs.Wanting.{entry_wanted, seek_wanted}
use Rattle.ask_directory.specs.declared.Spot.{Spot}
use Rattle.ask_directory.specs.declared.Target.{Target}
use Rattle.ask_directory.specs.declared.Move.{Move}
use Rattle.ask_directory.specs.Left.{Question, bounds_in, names_from, names_at, names_then, node_then, data_then}
use Rattle.ask_directory.specs.Move.{wants_by, goes_by, moved, goes_on, IsNode, GoesIn, MoveIn}
use Rattle.ask_path.proofs.Names.{names_then_lem}

-- ---- what is wanted for a node is never a data block
abbrev ForNode : Wants → Type 0
ForNode (w.Table b) = Unit {0}
ForNode (w.Node b table_inode) = Unit {0}
ForNode (w.Data b) = ⊥
ForNode w.Hole = ⊥
ForNode (w.Stop reason) = Unit {0}

entry_for_node : (m : Bounds) (i a : ℕ) → ForNode (entry_wants m i a)
unfolding entry_wants
entry_for_node m i a = go (eqb a 0) (in_main m a)
  where
    go : (zero inside : Bool) → ForNode (choose zero (w.Stop NoNode) (choose inside (w.Node a i) (w.Stop NodeOutside)))
    go true inside = tt
    go false true = tt
    go false false = tt

seek_for_node : (t : Kept) (number : ℕ) → ForNode (seek_wants t number)
unfolding seek_wants
seek_for_node t number = go (in_range t.volume number)
  where
    by : (said : Option e.Entry) → ForNode (journal_wants t number said)
    by (Some entry) = entry_for_node (bounds_of t.volume) entry.inode entry.address
    by None = tt

    go : (inside : Bool) → ForNode (choose inside (journal_wants t number (in_journal t.journal number)) (w.Stop NoNode))
    go true = by (in_journal t.journal number)
    go false = tt

-- so the move is what is wanted
goes_wanted : (q : Question) (block : List ℕ) (n : Target) (p : Spot) (s : Seen) (wants : Wants) → ForNode wants
    → goes_by q block n p s (goes_on 0 wants) ≡ wants_by q block n p s wants
unfolding goes_by
goes_wanted q block n p s (w.Table b) h = refl
goes_wanted q block n p s (w.Node b table_inode) h = refl
goes_wanted q block n p s (w.Data b) h = absurd h
goes_wanted q block n p s w.Hole h = absurd h
goes_wanted q block n p s (w.Stop reason) h = refl

-- and for an inode nothing has to be known of the spot
goes_in : (path : List ℕ) (index : ℕ) (block : List ℕ) (number place at : ℕ) (p : Spot) (wants : Wants) → ForNode wants
    → GoesIn path index block (record { number = number; place = place; index = at; hop = 0 }) p (goes_on 0 wants)
goes_in path index block number place at p (w.Table b) h = (omega arith, λ n. absurd (n refl))
goes_in path index block number place at p (w.Node b table_inode) h = (omega arith, λ n. absurd (n refl))
goes_in path index block number place at p (w.Data b) h = absurd h
goes_in path index block number place at p w.Hole h = absurd h
goes_in path index block number place at p (w.Stop reason) h = tt

-- ---- an inode is sought by its number
abbrev pub enter_move : Kept → ℕ → ℕ → Move
enter_move t ino at =
    record {
      goes = goes_on 0 (seek_wants t ino);
      looked = Some ino;
      target = record { number = ino; place = 0; index = 0; hop = 0 };
      spot = record { ino = ino; name_at = at; level = 0; block = 0 };
    }

pub enter_moved : (q : Question) (ino at : ℕ) (block : List ℕ) (s : Seen)
    → moved q block s (enter_move q.kept ino at) ≡ asking q.kept came s (names_then q (names_from q.path at) ino)
unfolding moved node_then
enter_moved q ino at block s =
    let m = enter_move q.kept ino at in
    goes_wanted q block m.target m.spot (saw_node ino s) (seek_wants q.kept ino) (seek_for_node q.kept ino)
    ∙ seek_wanted q.kept (sought ino ino 0) (node_then q m.spot block 0 0) (data_then q m.spot block (names_at q m.spot)) s
    ∙ ap (asking q.kept came s) (sym (names_then_lem q (names_from q.path at) ino))

pub enter_in : (t : Kept) (ino at : ℕ) (path : List ℕ) (index : ℕ) (block : List ℕ) → MoveIn path index block (enter_move t ino at)
enter_in t ino at path index block =
    let m = enter_move t ino at in
    goes_in path index block ino 0 0 m.spot (seek_wants t ino) (seek_for_node t ino)

-- ---- the table entry of a node came
abbrev pub entry_move : Bounds → ℕ → ℕ → Target → Spot → Move
entry_move m i a n p = record { goes = goes_on 0 (entry_wants m i a); looked = None; target = n; spot = p }

module _ (q : Question) (inode : List ℕ) (n : Target) (p : Spot) (s : Seen) where
  pub entry_moved : (i a : ℕ) → moved q inode s (entry_move (bounds_in q) i a n p)
      ≡ asking q.kept came s (and_then (at_entry (bounds_in q) n.number p.ino n.place (Entry i a)) (node_then q p inode n.index n.hop))
  unfolding moved
  entry_moved i a =
      goes_wanted q inode n p s (entry_wants (bounds_in q) i a) (entry_for_node (bounds_in q) i a)
      ∙ entry_wanted q.kept (sought n.number p.ino n.place) (node_then q p inode n.index n.hop) (data_then q p inode (names_at q p)) s i a

pub entry_is_node : (m : Bounds) (i a : ℕ) → IsNode (goes_on 0 (entry_wants m i a))
unfolding entry_wants
entry_is_node m i a = go (eqb a 0) (in_main m a)
  where
    go : (zero inside : Bool) → IsNode (goes_on 0 (choose zero (w.Stop NoNode) (choose inside (w.Node a i) (w.Stop NodeOutside))))
    go true inside = tt
    go false true = tt
    go false false = tt
