-- The way to a block goes through its leaf, and is the same for all places of that leaf; how much the walk to a leaf asks at most.
use Prim.Native.Nat.{ℕ, ◌+◌, ◌*◌}
use native.Mathlib.Omega.{arith}
use mathlib.Core.Path.{◌≡◌, refl, sym, ap, ◌∙◌}
use mathlib.Core.Bool.{Bool, true, false}
use mathlib.Core.List.{List, [], ◌∷◌}
use lib.ListN.{length}
use lib.Dec.{eqb}
use Rattle.field.specs.Number.{le32}
use Rattle.field.specs.Choice.{choose}
use Rattle.place.specs.declared.Place.{Place}
use Rattle.place.specs.declared.Place.TheVariants.{Inode, Direct, Indirect, Double, Past}
use Rattle.place.specs.declared.Step.{Step}
use Rattle.place.specs.Place.{place_of}
use Rattle.place.specs.Way.{way_of}
use Rattle.place.specs.Leaf.{leaf_of}
use Rattle.walk.specs.Walk.{Walk, done, Outcome, ok, and_then, ends}
use Rattle.walk.proofs.Trees.{then_then, then_ok}
use Rattle.walk.proofs.Sizes.{within_le, within_choose, within_then}
use Rattle.node.specs.Node.{Bounds, node_walk}
use Rattle.node.specs.Block.{Fetched, hole, held, follow_walk, way_walk, block_walk}
use Rattle.node.specs.Leaf.{leaf_from, leaf_along, leaf_walk, at_leaf, address_at}
use Rattle.node.proofs.Sizes.{Small, node_within, data_within}

-- where the number stands that the last node of a way holds
abbrev last_at : ℕ → List Step → ℕ
last_at at [] = at
last_at at (s ∷ way) = last_at (4 * s.slot) way

module _ (m : Bounds) (ino : ℕ) where
  -- ---- to the leaf, and from there
  follow_leaf : (way : List Step) (block : List ℕ) (at : ℕ)
      → follow_walk m ino way (le32 block at) ≡ and_then (leaf_from m ino way block at) (at_leaf m (last_at at way))
  unfolding follow_walk leaf_from
  follow_leaf [] block at = sym (then_ok (held block) (at_leaf m at))
  follow_leaf (s ∷ way) block at = go (eqb (le32 block at) 0) (λ b. follow_leaf way b (4 * s.slot))
    where
      node : Walk (Outcome (List ℕ))
      node = node_walk m (le32 block at) ino s.number

      rest : List ℕ → Walk (Outcome Fetched)
      rest b = leaf_from m ino way b (4 * s.slot)

      on_leaf : Fetched → Walk (Outcome Fetched)
      on_leaf = at_leaf m (last_at (4 * s.slot) way)

      go : (t : Bool) → ((b : List ℕ) → follow_walk m ino way (le32 b (4 * s.slot)) ≡ and_then (rest b) on_leaf)
          → choose t (done (ok hole)) (and_then node (λ b. follow_walk m ino way (le32 b (4 * s.slot))))
          ≡ and_then (choose t (done (ok hole)) (and_then node rest)) on_leaf
      go true ih = sym (then_ok hole on_leaf)
      go false ih = (λ i. and_then node (λ b. ih b i)) ∙ sym (then_then node rest on_leaf)

  -- the same where it is said in another way at which offset of the leaf the address stands
  follow_at : (way : List Step) (block : List ℕ) (at end : ℕ) → end ≡ last_at at way
      → follow_walk m ino way (le32 block at) ≡ and_then (leaf_from m ino way block at) (at_leaf m end)
  follow_at way block at end e = follow_leaf way block at ∙ ap (λ (o : ℕ). and_then (leaf_from m ino way block at) (at_leaf m o)) (sym e)

  module _ (inode : List ℕ) where
    way_leaf : (p : Place) → way_walk m ino inode (way_of p) ≡ and_then (leaf_walk m ino inode p) (at_leaf m (address_at p))
    unfolding way_walk leaf_along leaf_from
    way_leaf (Inode s) = sym (then_ok (held inode) (at_leaf m (360 + 4 * s)))
    way_leaf (Direct n s) = follow_at (_ ∷ []) inode (4052 + 4 * n) _ (omega arith)
    way_leaf (Indirect n k s) = follow_at (_ ∷ _ ∷ []) inode (4052 + 4 * (2 + n)) _ (omega arith)
    way_leaf (Double n k s) = follow_at (_ ∷ _ ∷ _ ∷ []) inode 4068 _ (omega arith)
    way_leaf Past = sym (then_ok hole (at_leaf m (address_at Past)))

    -- the walk to a leaf is the same for all its places
    pub leaf_same : (p : Place) → leaf_walk m ino inode p ≡ leaf_walk m ino inode (leaf_of p)
    unfolding leaf_along leaf_from
    leaf_same (Inode s) = refl
    leaf_same (Direct n s) = refl
    leaf_same (Indirect n k s) = refl
    leaf_same (Double n k s) = refl
    leaf_same Past = refl

    -- the block of an index: its leaf, and the address in it
    module _ (A index : ℕ) where
      pub block_through : block_walk m ino inode A index ≡ and_then (leaf_walk m ino inode (place_of A index)) (at_leaf m (address_at (place_of A index)))
      unfolding block_walk
      block_through = way_leaf (place_of A index)

      pub block_leaf : block_walk m ino inode A index ≡ and_then (leaf_walk m ino inode (leaf_of (place_of A index)))
          (at_leaf m (address_at (place_of A index)))
      unfolding block_walk
      block_leaf =
          way_leaf (place_of A index)
          ∙ ap (λ (w : Walk (Outcome Fetched)). and_then w (at_leaf m (address_at (place_of A index)))) (leaf_same (place_of A index))

  -- ---- sizes
  pub leaf_within : (way : List Step) (block : List ℕ) (at : ℕ) → Small m (length way) (length way) (leaf_from m ino way block at)
  unfolding leaf_from
  leaf_within [] block at = ends tt
  leaf_within (s ∷ way) block at =
      within_choose (eqb (le32 block at) 0) (ends tt)
      (within_le _ _ (omega arith) (omega arith) (within_then _ (node_within m (le32 block at) ino s.number) (λ next _. leaf_within way next _)))

pub at_leaf_within : (m : Bounds) (at : ℕ) (x : Fetched) → Small m 0 1 (at_leaf m at x)
at_leaf_within m at hole = ends tt
at_leaf_within m at (held leaf) = data_within m (le32 leaf at)
