-- The trees of a node, of a data block and of the way to a leaf and on from there, by cases: no run and no list is named.
use Prim.Native.Nat.{ℕ, ◌+◌, ◌-◌, ◌*◌}
use native.Mathlib.Omega.{arith}
use mathlib.Core.Path.{◌≡◌, refl, sym, ap, subst, ◌∙◌}
use mathlib.Core.Bool.{true, false}
use mathlib.Core.List.{List, [], ◌∷◌}
use Rattle.std.specs.Prelude.{Option, Some, None, Result, Ok, Err}
use Rattle.answer.specs.declared.Stop.{Stop}
use Rattle.answer.specs.Number.{stop_number}
use lib.ListN.{length, take, drop}
use Rattle.std.proofs.lemmas.List.{drop-take}
use borrow.Author.Tests.{eq-eqb, ne_eqb}
use Rattle.field.specs.Number.{le32}
use Rattle.field.specs.Card.{Card}
use Rattle.place.specs.declared.Step.{Step}
use Rattle.place.specs.declared.Way.{Way}
use Rattle.place.specs.Place.{place_of}
use Rattle.place.specs.Way.{way_of, in_array}
use Rattle.place.proofs.Ways.{steps_of, slot_at, way_steps}
use Rattle.nat.specs.Table.{OutOfRange, Entry}
use Rattle.walk.specs.Walk.{done, look, read, ok, stop, onward, and_then}
use Rattle.node.specs.Node.{Bounds, in_main, belongs, at_block, at_entry, node_walk}
use Rattle.node.specs.Block.{hole, held, is_hole, holding, data_walk}
use Rattle.node.specs.Leaf.{leaf_from, leaf_along, leaf_walk, at_leaf}
use Rattle.node.specs.Found.{fetched, data_of, after_inode}

-- ---- a node
module _ (m : Bounds) (number ino place : ℕ) where
  pub node_look : node_walk m number ino place ≡ look number (at_entry m number ino place)
  unfolding node_walk
  node_look = refl

  pub entry_range : at_entry m number ino place OutOfRange ≡ done (stop 9)
  unfolding at_entry
  entry_range = refl

  module _ (table_inode address : ℕ) where
    pub entry_zero : address ≡ 0 → at_entry m number ino place (Entry table_inode address) ≡ done (stop 9)
    unfolding at_entry
    entry_zero z = rw (eq-eqb address 0 z)

    pub entry_outside : (address ≡ 0 → ⊥) → in_main m address ≡ false → at_entry m number ino place (Entry table_inode address) ≡ done (stop 10)
    unfolding at_entry
    entry_outside z o = rw (ne_eqb address 0 z, o)

    pub entry_inside : (address ≡ 0 → ⊥) → in_main m address ≡ true
        → at_entry m number ino place (Entry table_inode address) ≡ read address (at_block number ino place table_inode)
    unfolding at_entry
    entry_inside z i = rw (ne_eqb address 0 z, i)

module _ (number ino place table_inode : ℕ) (block : List ℕ) where
  pub block_own : belongs number ino place table_inode block ≡ true → at_block number ino place table_inode block ≡ done (ok block)
  unfolding at_block
  block_own e = rw e

  pub block_foreign : belongs number ino place table_inode block ≡ false → at_block number ino place table_inode block ≡ done (stop 11)
  unfolding at_block
  block_foreign e = rw e

-- ---- a data block
module _ (m : Bounds) (address : ℕ) where
  pub data_hole : is_hole address ≡ true → data_walk m address ≡ done (ok hole)
  unfolding data_walk
  data_hole h = rw h

  pub data_outside : is_hole address ≡ false → in_main m address ≡ false → data_walk m address ≡ done (stop 13)
  unfolding data_walk
  data_outside h o = rw (h, o)

  pub data_inside : is_hole address ≡ false → in_main m address ≡ true → data_walk m address ≡ read address holding
  unfolding data_walk
  data_inside h i = rw (h, i)

-- ---- the way to a leaf
module _ (m : Bounds) (ino : ℕ) (block : List ℕ) (at : ℕ) where
  pub leaf_end : leaf_from m ino [] block at ≡ done (ok (held block))
  unfolding leaf_from
  leaf_end = refl

  -- by the number that stands there
  module _ (s : Step) (way : List Step) {number : ℕ} (e : number ≡ le32 block at) where
    pub leaf_hole : number ≡ 0 → leaf_from m ino (s ∷ way) block at ≡ done (ok hole)
    unfolding leaf_from
    leaf_hole z = rw (← e, eq-eqb number 0 z)

    pub leaf_node : (number ≡ 0 → ⊥)
        → leaf_from m ino (s ∷ way) block at ≡ and_then (node_walk m number ino s.number) (λ next. leaf_from m ino way next (4 * s.slot))
    unfolding leaf_from
    leaf_node z = rw (← e, ne_eqb number 0 z)

-- ---- from the inode, by how long the way is
behind : (w : Way) → (w.count ≡ 0 → ⊥) → drop 1 (steps_of w) ≡ after_inode w
behind w some =
    let all : 1 + (w.count - 1) ≡ w.count = omega arith in
    subst (λ (n : ℕ). drop 1 (take n w.steps) ≡ after_inode w) all (drop-take 1 (w.count - 1) w.steps)

module _ (m : Bounds) (ino : ℕ) (inode : List ℕ) where
  along_none : (way : List Step) → length way ≡ 0 → leaf_along m ino inode way ≡ done (ok hole)
  unfolding leaf_along
  along_none [] l = refl
  along_none (s ∷ way) l = absurd (omega arith)

  along_nodes : (way : List Step) → (length way ≡ 0 → ⊥)
      → leaf_along m ino inode way ≡ leaf_from m ino (drop 1 way) inode (4052 + 4 * slot_at (in_array way) 0)
  unfolding leaf_along
  along_nodes [] n = absurd (n refl)
  along_nodes (s ∷ way) n = refl

  -- the same of the way that the code found
  module _ (A index : ℕ) {w : Way} (e : w ≡ in_array (way_of (place_of A index))) where
    pub leaf_none : w.count ≡ 0 → leaf_walk m ino inode (place_of A index) ≡ done (ok hole)
    leaf_none l = along_none _ (rw e at l)

    leaf_steps : (w.count ≡ 0 → ⊥)
        → leaf_walk m ino inode (place_of A index) ≡ leaf_from m ino (drop 1 (steps_of w)) inode (4052 + 4 * slot_at w 0)
    leaf_steps l = along_nodes _ (rw e at l) ∙ rw (way_steps A index e, e)

    pub leaf_nodes : (w.count ≡ 0 → ⊥)
        → leaf_walk m ino inode (place_of A index) ≡ leaf_from m ino (after_inode w) inode (4052 + 4 * slot_at w 0)
    leaf_nodes l = leaf_steps l ∙ ap (λ (way : List Step). leaf_from m ino way inode (4052 + 4 * slot_at w 0)) (behind w l)

-- ---- from a leaf, by what the code has of it
module _ (card : Card) (m : Bounds) (at : ℕ) {leaf : Option ℕ} where
  pub from_none : leaf ≡ None → at_leaf m at (fetched card leaf) ≡ done (ok hole)
  from_none e = ap (λ (x : Option ℕ). at_leaf m at (fetched card x)) e

  pub from_some : {block address : ℕ} → leaf ≡ Some block → address ≡ le32 (card.block block) at → at_leaf m at (fetched card leaf) ≡ data_walk m address
  from_some e f = ap (λ (x : Option ℕ). at_leaf m at (fetched card x)) e ∙ ap (data_walk m) (sym f)

-- and by what the walk to it came to
module _ (card : Card) (m : Bounds) (at : ℕ) {came : Result (Option ℕ) Stop} where
  pub from_came : {leaf : Option ℕ} → came ≡ Ok leaf → onward (at_leaf m at) (data_of card came) ≡ at_leaf m at (fetched card leaf)
  unfolding onward
  from_came e = ap (λ (x : Result (Option ℕ) Stop). onward (at_leaf m at) (data_of card x)) e

  pub from_stop : {stopped : Stop} → came ≡ Err stopped → onward (at_leaf m at) (data_of card came) ≡ done (stop (stop_number stopped))
  unfolding onward
  from_stop e = ap (λ (x : Result (Option ℕ) Stop). onward (at_leaf m at) (data_of card x)) e
