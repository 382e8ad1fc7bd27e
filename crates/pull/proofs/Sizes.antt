-- A pull of k names looks up at most 175k + 4 numbers and reads at most 233k + 5 blocks, all in the main area; it ends with one of
-- 2, 3, 9 to 14, or with a block that holds 1 to 4,096 of the file's bytes. One pass over the walk shows all of that.
use Prim.Native.Nat.{ℕ, ◌+◌, ◌*◌, ◌≤◌}
use native.Mathlib.Omega.{arith}
use mathlib.Core.Path.{◌≡◌, refl}
use mathlib.Core.Bool.{true}
use mathlib.Core.List.{List}
use Rattle.walk.specs.Walk.{Walk, Outcome, Ended, Within, ends}
use Rattle.walk.proofs.Sizes.{within_if, within_choose, within_then}
use Rattle.inode.specs.Inode.{inode_of, has_inline_data, is_regular, addresses_in, is_past}
use Rattle.inode.proofs.Counting.{count_in_block}
use Rattle.node.specs.Node.{Bounds, in_main}
use Rattle.node.proofs.Sizes.{Small, node_within, block_within}
use Rattle.path.specs.Path.{part_count}
use Rattle.path_lookup.specs.Lookup.{path_walk}
use Rattle.path_lookup.proofs.Sizes.{path_within}
use Rattle.pull.specs.Pull.{nodes_most, blocks_most}
use Rattle.pull.specs.Walk.{Block, content_walk, at_file, file_walk, named_file_walk, pull_walk}

-- "a byte count 1 to 4,096"
abbrev pub Counted : Block → Type 0
Counted b = (1 ≤ b.count) × (b.count ≤ 4096)

-- a walk to a block of a file: at most so much is asked, every block read lies in the main area
abbrev pub ToBlock : Bounds → ℕ → ℕ → Walk (Outcome Block) → Type 0
ToBlock m ns bs w = Within (λ b. in_main m b ≡ true) (Ended Counted) ns bs w

module _ (m : Bounds) where
  -- an inline file asks nothing more
  content_within : (index ino : ℕ) (inode : List ℕ) → Small m 3 4 (content_walk m index ino inode)
  unfolding content_walk
  content_within index ino inode =
      within_choose (has_inline_data (inode_of inode)) (ends tt) (block_within m ino inode (addresses_in (inode_of inode)) index)

  at_file_within : (index ino : ℕ) (inode : List ℕ) → ToBlock m 3 4 (at_file m index ino inode)
  unfolding at_file
  at_file_within index ino inode =
      within_choose (is_regular (inode_of inode))
      (within_if (is_past (inode_of inode) index) (λ _. ends refl)
      (λ p.
      within_then _ (content_within index ino inode)
      (λ f _. ends {ns = 0} {bs = 0} (count_in_block (inode_of inode) index p))))
      (ends refl)

  pub file_within : (index ino : ℕ) → ToBlock m 4 5 (file_walk m index ino)
  unfolding file_walk
  file_within index ino = within_then _ (node_within m ino ino 0) (λ inode _. at_file_within index ino inode)

  pub pull_within : (path : List ℕ) (index : ℕ) → ToBlock m (nodes_most (part_count path)) (blocks_most (part_count path)) (pull_walk m path index)
  unfolding pull_walk named_file_walk path_walk
  pull_within path index =
      let ns : 4 + 175 * part_count path ≡ nodes_most (part_count path) = omega arith in
      let bs : 5 + 233 * part_count path ≡ blocks_most (part_count path) = omega arith in
      rw (ns, bs) at (within_then (file_walk m index) (path_within m path) (λ ino _. file_within index ino))
