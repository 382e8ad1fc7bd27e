-- K7: each name costs at most 175 node numbers and 233 blocks, all of them in the main area.
use Prim.Native.Nat.{ℕ, ◌+◌, ◌*◌}
use native.Mathlib.Omega.{arith}
use mathlib.Core.Path.{◌≡◌, refl}
use mathlib.Core.List.{List, [], ◌∷◌}
use lib.ListN.{length}
use lib.Dec.{eqb}
use Rattle.walk.specs.Walk.{ends}
use Rattle.walk.proofs.Sizes.{within_choose, within_then}
use Rattle.inode.specs.Inode.{inode_of, is_directory}
use Rattle.inode.proofs.Counting.{few_addresses}
use Rattle.node.specs.Node.{Bounds}
use Rattle.node.proofs.Sizes.{Small, node_within}
use Rattle.directory.proofs.Sizes.{find_within}
use Rattle.path.specs.Path.{part_count}
use Rattle.path_lookup.specs.Lookup.{ino_of_root, at_directory, directory_walk, names_walk, path_walk}

module _ (m : Bounds) where
  at_directory_within : (name : List ℕ) (ino : ℕ) (inode : List ℕ) → Small m 174 232 (at_directory m name ino inode)
  unfolding at_directory
  at_directory_within name ino inode =
      within_choose (is_directory (inode_of inode))
      (within_choose (eqb (inode_of inode).size 0) (ends refl) (find_within _ _ (few_addresses (inode_of inode)) (inode_of inode).depth))
      (ends refl)

  directory_within : (name : List ℕ) (ino : ℕ) → Small m 175 233 (directory_walk m name ino)
  unfolding directory_walk
  directory_within name ino = within_then _ (node_within m ino ino 0) (λ inode _. at_directory_within name ino inode)

  names_within : (names : List (List ℕ)) (ino : ℕ) → Small m (175 * length names) (233 * length names) (names_walk m names ino)
  unfolding names_walk
  names_within [] ino = ends tt
  names_within (name ∷ names) ino =
      let ns : 175 * length names + 175 ≡ 175 * length (name ∷ names) = omega arith in
      let bs : 233 * length names + 233 ≡ 233 * length (name ∷ names) = omega arith in
      rw (ns, bs) at (within_then (names_walk m names) (directory_within name ino) (λ child _. names_within names child))

  pub path_within : (path : List ℕ) → Small m (175 * part_count path) (233 * part_count path) (path_walk m path)
  unfolding path_walk part_count
  path_within path = names_within _ ino_of_root
