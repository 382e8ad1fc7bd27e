-- What is wanted next on the way to a block of a file leaves the tree of the walk along that way.
use Prim.Native.Nat.{ℕ, ◌+◌, ◌*◌, ◌≤◌, ◌<◌}
use native.Mathlib.Numerals.{add-one}
use lib.Dec.{eqb, ltb}
use borrow.Author.Tests.{ltb-true, ltb-false}
use mathlib.Core.Path.{◌≡◌, refl, sym, ap, ◌∙◌}
use mathlib.Core.Bool.{Bool, true, false}
use mathlib.Core.List.{List, [], ◌∷◌}
use lib.ListN.{length, drop, drop_of_length-le}
use lib.Seq.{drop-cons}
use Rattle.field.specs.Number.{le32}
use Rattle.field.specs.Choice.{choose}
use Rattle.place.specs.declared.Step.{Step}
use Rattle.place.specs.Way.{step}
use Rattle.walk.specs.Walk.{Seen, Walk, done, Outcome, ok, and_then}
use Rattle.walk.proofs.Trees.{then_then}
use Rattle.inode.specs.Inode.{inode_of, addresses_in}
use Rattle.node.specs.Node.{bounds_of, node_walk}
use Rattle.node.specs.Block.{Fetched, hole, data_walk, follow_walk, way_walk, block_walk}
use Rattle.pull.specs.Walk.{Block}
use Rattle.asking.specs.Asking.{Asking}
use Rattle.asking.specs.Table.{Kept, asking}
use Rattle.asking.specs.Pull.{Ending, came}
use Rattle.ask_node.specs.declared.Wants.TheVariants.{Hole}
use Rattle.ask_node.specs.declared.Fetch.{Fetch}
use Rattle.ask_node.specs.Wants.{sought, data_wants, wanting}
use Rattle.ask_node.specs.Fetch.{way_to, step_on, no_node, node_on, follow_fetch, way_fetch, block_fetch, next_fetch, after_hop, fetching}
use Rattle.ask_node.proofs.Wanting.{ok_asked, seek_wanted, data_wanted}

module _ (t : Kept) (ino : ℕ) (way : List Step) (g : Fetched → Walk (Outcome Block)) (s : Seen) where
  -- what a walk asks, where `g` follows it
  abbrev then_asked : Walk (Outcome Fetched) → Asking Ending
  then_asked v = asking t came s (and_then v g)

  hole_fetched : fetching t ino way g s (no_node Hole) ≡ then_asked (done (ok hole))
  unfolding fetching wanting
  hole_fetched = sym (ok_asked t s g hole)

  data_fetched : (a : ℕ) → fetching t ino way g s (no_node (data_wants (bounds_of t.volume) a)) ≡ then_asked (data_walk (bounds_of t.volume) a)
  unfolding fetching
  data_fetched a = data_wanted t (sought 0 ino 0) (after_hop t ino way 0 g) g s a

  -- ---- from a hop of the way on
  module _ (hop number : ℕ) where
    -- the walk to the node of the hop, and what follows it
    abbrev to_node : Walk (Outcome (List ℕ))
    to_node = node_walk (bounds_of t.volume) number ino (step_on way hop).number

    abbrev from_node : List ℕ → Walk (Outcome Fetched)
    from_node block = follow_walk (bounds_of t.volume) ino (drop (hop + 1) way) (le32 block (4 * (step_on way hop).slot))

    node_fetched : fetching t ino way g s (node_on t way hop number) ≡ then_asked (and_then to_node from_node)
    unfolding fetching
    node_fetched =
        seek_wanted t (sought number ino (step_on way hop).number) (after_hop t ino way hop g) g s
        ∙ ap (asking t came s) (sym (then_then to_node from_node g))

    -- by whether the number is 0
    number_by : (zero : Bool) → fetching t ino way g s (choose zero (no_node Hole) (node_on t way hop number))
        ≡ then_asked (choose zero (done (ok hole)) (and_then to_node from_node))
    number_by true = hole_fetched
    number_by false = node_fetched

    -- what is wanted where the way goes on, and where it is over
    abbrev on_way : Fetch
    on_way = choose (eqb number 0) (no_node Hole) (node_on t way hop number)

    abbrev past_way : Fetch
    past_way = no_node (data_wants (bounds_of t.volume) number)

    abbrev followed : List Step → Asking Ending
    followed rest = then_asked (follow_walk (bounds_of t.volume) ino rest number)

    on_way_lem : hop < length way → fetching t ino way g s on_way ≡ followed (drop hop way)
    unfolding follow_walk
    on_way_lem h =
        let here : drop hop way ≡ step_on way hop ∷ drop (hop + 1) way = drop-cons way hop (step 0 0) h ∙ rw (add-one hop) in
        number_by (eqb number 0) ∙ ap followed (sym here)

    past_way_lem : length way ≤ hop → fetching t ino way g s past_way ≡ followed (drop hop way)
    unfolding follow_walk
    past_way_lem h = data_fetched number ∙ ap followed (sym (drop_of_length-le way h))

    -- by whether the way goes on
    hop_by : (b : Bool) → ltb hop (length way) ≡ b → fetching t ino way g s (choose b on_way past_way) ≡ followed (drop hop way)
    hop_by true h = on_way_lem (ltb-true hop (length way) h)
    hop_by false h = past_way_lem (ltb-false hop (length way) h)

    pub follow_fetched : fetching t ino way g s (follow_fetch t way hop number)
        ≡ asking t came s (and_then (follow_walk (bounds_of t.volume) ino (drop hop way) number) g)
    unfolding follow_fetch
    follow_fetched = hop_by (ltb hop (length way)) refl

-- ---- from the inode, and from a node that came
module _ (t : Kept) (ino : ℕ) (g : Fetched → Walk (Outcome Block)) (s : Seen) (inode : List ℕ) where
  way_fetched : (way : List Step) → fetching t ino way g s (way_fetch t inode way)
      ≡ asking t came s (and_then (way_walk (bounds_of t.volume) ino inode way) g)
  unfolding way_fetch way_walk
  way_fetched [] = hole_fetched t ino [] g s
  way_fetched (p ∷ []) = data_fetched t ino (p ∷ []) g s _
  way_fetched (p ∷ q ∷ way) = follow_fetched t ino (p ∷ q ∷ way) g s 1 _

  pub block_fetched : (index : ℕ) → fetching t ino (way_to inode index) g s (block_fetch t inode index)
      ≡ asking t came s (and_then (block_walk (bounds_of t.volume) ino inode (addresses_in (inode_of inode)) index) g)
  unfolding block_walk
  block_fetched index = way_fetched (way_to inode index)

  pub next_fetched : (index hop : ℕ) (block : List ℕ) → fetching t ino (way_to inode index) g s (next_fetch t inode index hop block)
      ≡ asking t came s (after_hop t ino (way_to inode index) hop g block)
  next_fetched index hop block = follow_fetched t ino (way_to inode index) g s (hop + 1) _
