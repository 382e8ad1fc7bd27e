-- A node's block came: it belongs there or not, and it is an inode or leads on along the way to a block.
use Prim.Native.Nat.{ℕ, ◌≤◌}
use native.Mathlib.Omega.{arith}
use borrow.Author.Tests.{eq-eqb, ne_eqb}
use mathlib.Core.Path.{◌≡◌, refl, sym, ap, ◌∙◌}
use mathlib.Core.Bool.{true, false}
use mathlib.Core.List.{List, []}
use Rattle.answer.specs.declared.Stop.TheVariants.{ForeignNode}
use Rattle.field.proofs.Choosing.{clash}
use Rattle.walk.specs.Walk.{Seen, Walk, Outcome, and_then}
use Rattle.inode.specs.Inode.{inode_of, count_in}
use Rattle.node.specs.Node.{belongs, at_block}
use Rattle.node.specs.Block.{hole}
use Rattle.pull.specs.Walk.{Block}
use Rattle.asking.specs.Table.{asking}
use Rattle.asking.specs.Pull.{came}
use Rattle.ask_node.specs.declared.Wants.{Wants}
use Rattle.ask_node.specs.declared.Wants.TheVariants as w
use Rattle.ask_node.specs.declared.Fetch.{Fetch}
use Rattle.ask_node.specs.Fetch.{way_to, next_fetch, after_hop, fetching}
use Rattle.ask_node.proofs.Wanting.{stop_asked, ok_asked}
use Rattle.ask_node.proofs.Fetching.{next_fetched}
use Rattle.ask_directory.specs.declared.Spot.{Spot}
use Rattle.ask_directory.specs.declared.Goes.TheVariants.{Stop}
use Rattle.ask_directory.specs.Left.{Question, names_at, inode_then, data_then, node_then}
use Rattle.ask_directory.specs.Move.{moved, goes_on, is_empty, no_target, fetch_move}
use Rattle.ask_directory.proofs.Fetches.{stop_moved, next_hops, hole_left, fetch_moved}

-- ---- whether it belongs there
module _ (q : Question) (number ino place table_inode : ℕ) (block : List ℕ) (s : Seen) (next : List ℕ → Walk (Outcome Block)) where
  pub foreign_came : (inode : List ℕ) (p : Spot) → belongs number ino place table_inode block ≡ false
      → moved q inode s (no_target p (Stop ForeignNode)) ≡ asking q.kept came s (and_then (at_block number ino place table_inode block) next)
  unfolding at_block
  foreign_came inode p h = stop_moved q inode s p ForeignNode ∙ rw h (sym (stop_asked q.kept s next 11))

  pub own_came : belongs number ino place table_inode block ≡ true
      → asking q.kept came s (and_then (at_block number ino place table_inode block) next) ≡ asking q.kept came s (next block)
  unfolding at_block
  own_came h = rw h (ok_asked q.kept s next block)

-- ---- an inode, or a node at a hop of the way
module _ (q : Question) (p : Spot) (inode : List ℕ) (index hop : ℕ) (block : List ℕ) where
  pub inode_next : hop ≡ 0 → node_then q p inode index hop block ≡ inode_then q p.ino (names_at q p) block
  unfolding node_then
  inode_next h = rw (eq-eqb hop 0 h)

  hop_next_lem : 1 ≤ hop → node_then q p inode index hop block
      ≡ after_hop q.kept p.ino (way_to inode index) hop (data_then q p inode (names_at q p)) block
  unfolding node_then
  hop_next_lem h = rw (ne_eqb hop 0 (omega arith))

-- ---- whether what is wanted is a hole
is_hole_lem : (wants : Wants) → is_empty (goes_on 0 wants) ≡ true → wants ≡ w.Hole
is_hole_lem (w.Table b) e = absurd (clash e refl)
is_hole_lem (w.Node b table_inode) e = absurd (clash e refl)
is_hole_lem (w.Data b) e = absurd (clash e refl)
is_hole_lem w.Hole e = refl
is_hole_lem (w.Stop reason) e = absurd (clash e refl)

no_hole : (wants : Wants) → is_empty (goes_on 0 wants) ≡ false → wants ≡ w.Hole → ⊥
no_hole wants e h = clash (ap (λ (x : Wants). is_empty (goes_on 0 x)) h) e

-- ---- what the node at a hop leads to
module _ (q : Question) (p : Spot) (inode : List ℕ) (index hop : ℕ) (block : List ℕ) (s : Seen) (h : 1 ≤ hop) where
  abbrev fetched : Fetch
  fetched = next_fetch q.kept inode index hop block

  hop_fetched : fetching q.kept p.ino (way_to inode index) (data_then q p inode (names_at q p)) s fetched
      ≡ asking q.kept came s (node_then q p inode index hop block)
  hop_fetched =
      next_fetched q.kept p.ino (data_then q p inode (names_at q p)) s inode index hop block
      ∙ ap (asking q.kept came s) (sym (hop_next_lem q p inode index hop block h))

  -- the file's block, or a hole of it
  pub hop_file : (count : ℕ) → names_at q p ≡ [] → count ≡ count_in (inode_of inode) q.index
      → moved q inode s (fetch_move (next_fetch q.kept inode index hop block) index p count)
      ≡ asking q.kept came s (node_then q p inode index hop block)
  hop_file count e c = fetch_moved q inode p index fetched count s (next_hops q.kept inode index hop block) (λ _. (e, c)) ∙ hop_fetched

  -- a directory's block
  pub hop_block : is_empty (goes_on 0 fetched.wants) ≡ false
      → moved q inode s (fetch_move (next_fetch q.kept inode index hop block) index p 0)
      ≡ asking q.kept came s (node_then q p inode index hop block)
  hop_block e =
      fetch_moved q inode p index fetched 0 s (next_hops q.kept inode index hop block) (λ z. absurd (no_hole fetched.wants e z)) ∙ hop_fetched

  -- a hole of it
  pub hop_hole : is_empty (goes_on 0 fetched.wants) ≡ true
      → asking q.kept came s (node_then q p inode index hop block) ≡ asking q.kept came s (data_then q p inode (names_at q p) hole)
  hop_hole e =
      let empty = is_hole_lem fetched.wants e in
      sym hop_fetched
      ∙ hole_left q.kept p.ino (way_to inode index) (data_then q p inode (names_at q p)) s fetched (next_hops q.kept inode index hop block) empty
