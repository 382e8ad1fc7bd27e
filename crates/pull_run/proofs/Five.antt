-- The walks to two leaves of one file ask at most five nodes and five blocks together: three lie on the way to a leaf under the double
-- indirect node, at most two on any other, and two ways under the double indirect node share that.
use Prim.Native.Nat.{ℕ, ◌+◌, ◌*◌, ◌≤◌}
use native.Mathlib.Omega.{arith}
use mathlib.Core.Bool.{Bool, true, false}
use mathlib.Core.List.{List, [], ◌∷◌}
use lib.ListN.{length, drop}
use lib.Dec.{eqb}
use Rattle.field.specs.Number.{le32}
use Rattle.field.specs.Choice.{choose}
use Rattle.place.specs.declared.Place.{Place}
use Rattle.place.specs.declared.Place.TheVariants.{Inode, Direct, Indirect, Double, Past}
use Rattle.place.specs.declared.Step.{Step}
use Rattle.place.specs.Way.{step, way_of}
use Rattle.walk.specs.Walk.{View, Walk, done, Outcome, ok, and_then, ends}
use Rattle.walk.proofs.Asked.{AllAsked}
use Rattle.walk.proofs.Again.{asked_done}
use Rattle.node.specs.Node.{Bounds, node_walk}
use Rattle.node.specs.Block.{Fetched, hole}
use Rattle.node.specs.Leaf.{leaf_from, leaf_along, leaf_walk}
use Rattle.node.proofs.Sizes.{Small, node_within}
use Rattle.node.proofs.LeafWalks.{leaf_within}
use Rattle.pull_run.proofs.Families.{Family, family_map, family_none, family_two, family_then}

-- how many nodes lie on the way to a leaf, behind the inode
abbrev nodes_to : Place → ℕ
nodes_to p = length (drop 1 (way_of p))

most_three : (p : Place) → nodes_to p ≤ 3
most_three (Inode s) = omega arith
most_three (Direct n s) = omega arith
most_three (Indirect n k s) = omega arith
most_three (Double n k s) = omega arith
most_three Past = omega arith

module _ (v : View) (m : Bounds) (ino : ℕ) (inode : List ℕ) where
  -- the walks to two leaves
  abbrev pub leaves : Place → Place → Bool → Walk (Outcome Fetched)
  leaves p q b = leaf_walk m ino inode (choose b p q)

  -- ---- by their sizes
  along_within : (way : List Step) → Small m (length (drop 1 way)) (length (drop 1 way)) (leaf_along m ino inode way)
  unfolding leaf_along
  along_within [] = ends tt
  along_within (s ∷ way) = leaf_within m ino way inode _

  by_sizes : (p q : Place) → nodes_to p + nodes_to q ≤ 5 → Family v 5 5 (leaves p q)
  by_sizes p q h = family_two v _ _ 5 (leaves p q) h (along_within (way_of p)) (along_within (way_of q))

  -- ---- both under the double indirect node
  -- from its bytes on, through two more
  below : ℕ → ℕ → ℕ → List ℕ → Walk (Outcome Fetched)
  below n k s block = leaf_from m ino (step (2042 + 1019 * n) k ∷ step (2043 + 1019 * n + k) s ∷ []) block (4 * n)

  below_within : (n k s : ℕ) (block : List ℕ) → Small m 2 2 (below n k s block)
  unfolding below
  below_within n k s block = leaf_within m ino (_ ∷ _ ∷ []) block (4 * n)

  module _ (n k s n' k' s' : ℕ) where
    abbrev double : Walk (Outcome (List ℕ))
    double = node_walk m (le32 inode 4068) ino 2041

    abbrev behind : Bool → List ℕ → Walk (Outcome Fetched)
    behind b = choose b (below n k s) (below n' k' s')

    abbrev through : Bool → Bool → Walk (Outcome Fetched)
    through zero b = choose zero (done (ok hole)) (and_then double (behind b))

    both_double : Family v 5 5 (leaves (Double n k s) (Double n' k' s'))
    unfolding below leaf_along leaf_from
    both_double = family_map v 5 5 here (leaves (Double n k s) (Double n' k' s')) same (go (eqb (le32 inode 4068) 0))
      where
        here : Bool → Walk (Outcome Fetched)
        here = through (eqb (le32 inode 4068) 0)

        same : (P Q : ℕ → Type 0) (b : Bool) → ((i : Bool) → AllAsked P Q v (here i)) → AllAsked P Q v (leaves (Double n k s) (Double n' k' s') b)
        same P Q true f = f true
        same P Q false f = f false

        go : (zero : Bool) → Family v 5 5 (through zero)
        go true = family_none v 5 5 (through true) (λ P Q j. asked_done P Q v (ok hole))
        go false =
            family_then v 1 1 4 4 double behind (node_within m (le32 inode 4068) ino 2041)
            (λ block.
            family_two v 2 2 4 (λ b. behind b block) (omega arith) (below_within n k s block) (below_within n' k' s' block))

  pub five : (p q : Place) → Family v 5 5 (leaves p q)
  five (Double n k s) (Double n' k' s') = both_double n k s n' k' s'
  five (Double n k s) (Inode s') = by_sizes (Double n k s) (Inode s') (omega arith)
  five (Double n k s) (Direct n' s') = by_sizes (Double n k s) (Direct n' s') (omega arith)
  five (Double n k s) (Indirect n' k' s') = by_sizes (Double n k s) (Indirect n' k' s') (omega arith)
  five (Double n k s) Past = by_sizes (Double n k s) Past (omega arith)
  five (Inode s) q = let most = most_three q in by_sizes (Inode s) q (omega arith)
  five (Direct n s) q = let most = most_three q in by_sizes (Direct n s) q (omega arith)
  five (Indirect n k s) q = let most = most_three q in by_sizes (Indirect n k s) q (omega arith)
  five Past q = let most = most_three q in by_sizes Past q (omega arith)
