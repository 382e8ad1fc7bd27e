-- What a move leaves: one to what is fetched leaves the tree of the fetch, one that ends the walk its answer.
use Prim.Native.Nat.{ℕ, ◌+◌, ◌≤◌, ◌<◌}
use native.Mathlib.Omega.{arith}
use lib.Dec.{eqb, ltb}
use borrow.Author.Tests.{ne_eqb}
use mathlib.Core.Path.{◌≡◌, refl, ap, subst}
use mathlib.Core.Bool.{Bool, true, false}
use mathlib.Core.List.{List, [], ◌∷◌}
use lib.ListN.{length, drop}
use Rattle.std.specs.Prelude.{Option, Some, None}
use Rattle.std.specs.Option.{unwrap_or}
use Rattle.answer.specs.declared.Stop as r
use Rattle.answer.specs.declared.Stop.TheVariants.{NoNode, NodeOutside, DataOutside}
use Rattle.answer.specs.Number.{stop_number}
use Rattle.field.specs.Choice.{choose}
use Rattle.place.specs.declared.Step.{Step}
use Rattle.nat.specs.declared.Entry.{Entry}
use Rattle.nat.specs.Entry.{in_journal}
use Rattle.nat.specs.Table.{in_range}
use Rattle.walk.specs.Walk.{Seen, Walk, Outcome, stop, ran}
use Rattle.inode.specs.Inode.{inode_of, inline_start, count_in}
use Rattle.node.specs.Node.{bounds_of, in_main}
use Rattle.node.specs.Block.{Fetched, hole, held, is_hole}
use Rattle.pull.specs.Walk.{Block}
use Rattle.asking.specs.Asking.{Asking, answer}
use Rattle.asking.specs.Table.{Kept, asking}
use Rattle.asking.specs.Pull.{Ending, came}
use Rattle.ask_node.specs.declared.Wants.{Wants}
use Rattle.ask_node.specs.declared.Wants.TheVariants as w
use Rattle.ask_node.specs.declared.Fetch.{Fetch}
use Rattle.ask_node.specs.Wants.{entry_wants, journal_wants, seek_wants, data_wants, sought, wanting}
use Rattle.ask_node.specs.Fetch.{way_to, no_node, node_on, follow_fetch, way_fetch, block_fetch, next_fetch, looked_up, after_hop, fetching, HopIn}
use Rattle.ask_directory.specs.declared.Spot.{Spot}
use Rattle.ask_directory.specs.declared.Target.{Target}
use Rattle.ask_directory.specs.declared.Goes.TheVariants.{Stop, Empty, Full, Inline}
use Rattle.ask_directory.specs.Left.{Question, names_at, inode_then, data_then, node_then}
use Rattle.ask_directory.specs.Move.{gave, goes_by, moved, goes_on, no_target, fetch_move, SpotIn, MoveIn, GoesIn}

-- ---- answers
module _ (q : Question) (block : List ℕ) (s : Seen) (p : Spot) where
  pub stop_moved : (e : r.Stop) → moved q block s (no_target p (Stop e)) ≡ answer (came (ran (stop (stop_number e)) s))
  unfolding moved goes_by wanting
  stop_moved e = refl

  pub empty_moved : (count : ℕ) → moved q block s (no_target p (Empty count)) ≡ gave count hole s
  unfolding moved goes_by
  empty_moved count = refl

  pub full_moved : (count : ℕ) → moved q block s (no_target p (Full count)) ≡ gave count (held block) s
  unfolding moved goes_by
  full_moved count = refl

  pub inline_moved : (count : ℕ) → moved q block s (no_target p (Inline count)) ≡ gave count (held (drop inline_start block)) s
  unfolding moved goes_by
  inline_moved count = refl

-- ---- what is so of a fetch: a node that is wanted isn't the inode, and where there is a hole, nothing was looked up
abbrev WantedBy : Option ℕ → ℕ → Wants → Type 0
WantedBy looked hop (w.Table b) = 1 ≤ hop
WantedBy looked hop (w.Node b table_inode) = 1 ≤ hop
WantedBy looked hop (w.Data b) = Unit {0}
WantedBy looked hop w.Hole = looked ≡ None
WantedBy looked hop (w.Stop reason) = Unit {0}

abbrev pub OnWay : Fetch → Type 0
OnWay f = WantedBy f.looked f.hop f.wants

-- by whether the address is that of a hole, and whether it lies in the main area
data_by : (empty inside : Bool) (a : ℕ) → OnWay (no_node (choose empty w.Hole (choose inside (w.Data a) (w.Stop DataOutside))))
data_by true inside a = refl
data_by false true a = tt
data_by false false a = tt

module _ (t : Kept) where
  data_hop : (a : ℕ) → OnWay (no_node (data_wants (bounds_of t.volume) a))
  unfolding data_wants
  data_hop a = data_by (is_hole a) (in_main (bounds_of t.volume) a) a

  module _ (hop : ℕ) (later : 1 ≤ hop) where
    -- by whether the address is 0, and whether it lies in the main area
    entry_by : (looked : Option ℕ) (zero inside : Bool) (i a : ℕ)
        → WantedBy looked hop (choose zero (w.Stop NoNode) (choose inside (w.Node a i) (w.Stop NodeOutside)))
    entry_by looked true inside i a = tt
    entry_by looked false true i a = later
    entry_by looked false false i a = tt

    -- by what the journal holds
    journal_by : (number : ℕ) (said : Option Entry) → WantedBy (Some number) hop (journal_wants t number said)
    unfolding entry_wants
    journal_by number (Some entry) = entry_by (Some number) (eqb entry.address 0) (in_main (bounds_of t.volume) entry.address) entry.inode entry.address
    journal_by number None = later

    -- by whether the number is in range
    range_by : (number : ℕ) (inside : Bool)
        → WantedBy (Some number) hop (choose inside (journal_wants t number (in_journal t.journal number)) (w.Stop NoNode))
    range_by number true = journal_by number (in_journal t.journal number)
    range_by number false = tt

    node_hop : (way : List Step) (number : ℕ) → OnWay (node_on t way hop number)
    unfolding seek_wants
    node_hop way number = range_by number (in_range t.volume number)

    -- by whether the way goes on, and whether the number is 0
    follow_by : (on zero : Bool) (way : List Step) (number : ℕ)
        → OnWay (choose on (choose zero (no_node w.Hole) (node_on t way hop number)) (no_node (data_wants (bounds_of t.volume) number)))
    follow_by true true way number = refl
    follow_by true false way number = node_hop way number
    follow_by false zero way number = data_hop number

    follow_hops : (way : List Step) (number : ℕ) → OnWay (follow_fetch t way hop number)
    unfolding follow_fetch
    follow_hops way number = follow_by (ltb hop (length way)) (eqb number 0) way number

  module _ (inode : List ℕ) where
    way_hops : (way : List Step) → OnWay (way_fetch t inode way)
    unfolding way_fetch
    way_hops [] = refl
    way_hops (s ∷ []) = data_hop _
    way_hops (s ∷ u ∷ way) = follow_hops 1 (omega arith) (s ∷ u ∷ way) _

    pub block_hops : (index : ℕ) → OnWay (block_fetch t inode index)
    block_hops index = way_hops (way_to inode index)

    pub next_hops : (index hop : ℕ) (block : List ℕ) → OnWay (next_fetch t inode index hop block)
    next_hops index hop block = follow_hops (hop + 1) (omega arith) (way_to inode index) _

-- what a hole leaves
module _ (t : Kept) (ino : ℕ) (way : List Step) (g : Fetched → Walk (Outcome Block)) (s : Seen) where
  pub hole_left : (f : Fetch) → OnWay f → f.wants ≡ w.Hole → fetching t ino way g s f ≡ asking t came s (g hole)
  unfolding fetching wanting
  hole_left f h e =
      let unseen : f.looked ≡ None = subst (WantedBy f.looked f.hop) e h in
      rw (e, unseen)

-- ---- what is fetched
module _ (q : Question) (inode : List ℕ) (p : Spot) (index : ℕ) where
  -- what follows the data block, and a node at a hop of the way
  abbrev data_next : Fetched → Walk (Outcome Block)
  data_next = data_then q p inode (names_at q p)

  abbrev hop_next : ℕ → List ℕ → Walk (Outcome Block)
  hop_next hop = after_hop q.kept p.ino (way_to inode index) hop data_next

  hop_then : (hop : ℕ) → 1 ≤ hop → node_then q p inode index hop ≡ hop_next hop
  unfolding node_then
  hop_then hop h = λ i block. choose (ne_eqb hop 0 (λ z. omega arith) i) (inode_then q p.ino (names_at q p) block) (hop_next hop block)

  -- the file is at hand: a hole is the answer, with so many bytes
  abbrev IsFile : ℕ → Type 0
  IsFile count = (names_at q p ≡ []) × (count ≡ count_in (inode_of inode) q.index)

  hole_next : (count : ℕ) (s : Seen) → IsFile count → gave count hole s ≡ asking q.kept came s (data_next hole)
  unfolding data_then asking
  hole_next count s h = rw (h.0, h.1)

  -- by what is wanted
  module _ (number place hop count : ℕ) (s : Seen) where
    abbrev here : Target
    here = record { number = number; place = place; index = index; hop = hop }

    -- what is left of it, where a node is followed by `next`
    abbrev left_by : (List ℕ → Walk (Outcome Block)) → Wants → Asking Ending
    left_by next wants = wanting q.kept (sought number p.ino place) next data_next s wants

    wants_by_lem : (looked : Option ℕ) (wants : Wants) → WantedBy looked hop wants → (wants ≡ w.Hole → IsFile count)
        → goes_by q inode here p s (goes_on count wants) ≡ left_by (hop_next hop) wants
    unfolding goes_by wanting
    wants_by_lem looked (w.Table b) h z = ap (λ (next : List ℕ → Walk (Outcome Block)). left_by next (w.Table b)) (hop_then hop h)
    wants_by_lem looked (w.Node b table_inode) h z = ap (λ (next : List ℕ → Walk (Outcome Block)). left_by next (w.Node b table_inode)) (hop_then hop h)
    wants_by_lem looked (w.Data b) h z = refl
    wants_by_lem looked w.Hole h z = hole_next count s (z refl)
    wants_by_lem looked (w.Stop reason) h z = refl

  pub fetch_moved : (f : Fetch) (count : ℕ) (s : Seen) → OnWay f
      → (f.wants ≡ w.Hole → (names_at q p ≡ []) × (count ≡ count_in (inode_of inode) q.index))
      → moved q inode s (fetch_move f index p count) ≡ fetching q.kept p.ino (way_to inode index) (data_then q p inode (names_at q p)) s f
  unfolding moved fetching
  fetch_moved f count s h z = wants_by_lem (unwrap_or f.looked 0) f.place f.hop count (looked_up f.looked s) f.looked f.wants h z

-- ---- what a reader knows then
module _ (path : List ℕ) (index : ℕ) (inode : List ℕ) (p : Spot) (spot : SpotIn path index inode p) where
  goes_by_lem : (n : Target) (count : ℕ) → count ≤ 4096 → n.hop < 4 → (wants : Wants) → GoesIn path index inode n p (goes_on count wants)
  goes_by_lem n count few h (w.Table b) = (h, λ z. spot)
  goes_by_lem n count few h (w.Node b table_inode) = (h, λ z. spot)
  goes_by_lem n count few h (w.Data b) = spot
  goes_by_lem n count few h w.Hole = few
  goes_by_lem n count few h (w.Stop reason) = tt

  pub fetch_in : (f : Fetch) (at count : ℕ) → count ≤ 4096 → HopIn f → MoveIn path index inode (fetch_move f at p count)
  fetch_in f at count few h = goes_by_lem (fetch_move f at p count).target count few h f.wants
