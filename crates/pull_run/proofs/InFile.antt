-- Up to 512 neighbouring blocks of a file lie in two leaves: together they ask at most five nodes behind the inode, the five blocks of
-- those, and a block each.
use Prim.Native.Nat.{ℕ, ◌+◌, ◌≤◌}
use native.Mathlib.Omega.{arith}
use mathlib.Core.Path.{sym, subst}
use mathlib.Core.Bool.{Bool, true, false}
use mathlib.Core.Logic.{⊎_elim}
use mathlib.Core.List.{List}
use Rattle.field.specs.Choice.{choose}
use Rattle.place.specs.declared.Place.{Place}
use Rattle.place.specs.Place.{place_of}
use Rattle.place.specs.Leaf.{leaf_of}
use Rattle.place.proofs.Leaves.{two_leaves}
use Rattle.inode.specs.Inode.{inode_of, has_inline_data, is_regular, addresses_in, is_past, count_in}
use Rattle.walk.specs.Walk.{View, Walk, Outcome, and_then}
use Rattle.walk.proofs.Asked.{AllAsked}
use Rattle.walk.proofs.Again.{asked_done, asked_then}
use Rattle.node.specs.Node.{Bounds, inode_walk}
use Rattle.node.specs.Block.{Fetched, block_walk}
use Rattle.node.specs.Leaf.{leaf_walk, at_leaf, address_at}
use Rattle.node.proofs.Sizes.{node_within}
use Rattle.node.proofs.LeafWalks.{block_leaf, at_leaf_within}
use Rattle.pull.specs.Walk.{counted, content_walk, at_file, file_walk}
use Rattle.pull_run.proofs.Families.{Family, family_map, family_then}
use Rattle.pull_run.proofs.Each.{Near, family_each}
use Rattle.pull_run.proofs.Five.{leaves, five}

asked_choose : {A : Type 0} (P Q : ℕ → Type 0) (v : View) (b : Bool) (x y : Walk A) → AllAsked P Q v x → AllAsked P Q v y
    → AllAsked P Q v (choose b x y)
asked_choose P Q v true x y f g = f
asked_choose P Q v false x y f g = g

module _ (v : View) (m : Bounds) (index n : ℕ) (few : n ≤ 512) where
  module _ (ino : ℕ) (inode : List ℕ) where
    -- ---- the leaves
    module _ (A : ℕ) where
      leaf_at : ℕ → Walk (Outcome Fetched)
      leaf_at j = leaf_walk m ino inode (leaf_of (place_of A j))

      in_leaves : Family v 5 5 (λ (j : Near index n). leaf_at j.at)
      unfolding leaf_at
      in_leaves = family_map v 5 5 (leaves v m ino inode first last) (λ (j : Near index n). leaf_at j.at) each (five v m ino inode first last)
        where
          first : Place
          first = leaf_of (place_of A index)

          last : Place
          last = leaf_of (place_of A (index + 511))

          each : (P Q : ℕ → Type 0) (j : Near index n) → ((b : Bool) → AllAsked P Q v (leaves v m ino inode first last b)) → AllAsked P Q v (leaf_at j.at)
          each P Q j f =
              let below = j.below in
              ⊎_elim (λ e. subst (λ (p : Place). AllAsked P Q v (leaf_walk m ino inode p)) (sym e) (f true))
              (λ e. subst (λ (p : Place). AllAsked P Q v (leaf_walk m ino inode p)) (sym e) (f false))
              (two_leaves A index j.at (index + 511) j.from (omega arith) (omega arith))

      -- and in each an address
      on_leaf : ℕ → Fetched → Walk (Outcome Fetched)
      on_leaf j = at_leaf m (address_at (place_of A j))

      in_blocks : Family v 5 517 (λ (j : Near index n). block_walk m ino inode A j.at)
      unfolding leaf_at on_leaf
      in_blocks =
          family_map v 5 517 (λ (j : Near index n). and_then (leaf_at j.at) (on_leaf j.at)) _
          (λ P Q j f. subst (λ (w : Walk (Outcome Fetched)). AllAsked P Q v w) (sym (block_leaf m ino inode A j.at)) (f j))
          (family_each v index n leaf_at on_leaf (λ j x. at_leaf_within m (address_at (place_of A j)) x) 5 5 517 (omega arith) in_leaves)

    -- ---- the file
    file_asks : (P Q : ℕ → Type 0) (j : ℕ) → AllAsked P Q v (block_walk m ino inode (addresses_in (inode_of inode)) j)
        → AllAsked P Q v (at_file m j ino inode)
    unfolding at_file content_walk
    file_asks P Q j f =
        asked_choose P Q v (is_regular (inode_of inode)) _ _ (asked_choose P Q v (is_past (inode_of inode) j) _ _ (asked_done P Q v _) asks)
        (asked_done P Q v _)
      where
        asks : AllAsked P Q v (and_then (content_walk m j ino inode) (counted (count_in (inode_of inode) j)))
        asks =
            asked_then P Q v (content_walk m j ino inode) (counted (count_in (inode_of inode) j))
            (asked_choose P Q v (has_inline_data (inode_of inode)) _ _ (asked_done P Q v _) f) (λ x e. asked_done P Q v _)

    in_file : Family v 5 517 (λ (j : Near index n). at_file m j.at ino inode)
    in_file = family_map v 5 517 _ _ (λ P Q j f. file_asks P Q j.at (f j)) (in_blocks (addresses_in (inode_of inode)))

  pub in_files : (ino : ℕ) → Family v 6 518 (λ (j : Near index n). file_walk m j.at ino)
  unfolding file_walk
  in_files ino = family_then v 1 1 5 517 (inode_walk m ino) (λ (j : Near index n). at_file m j.at ino) (node_within m ino ino 0) (in_file ino)
