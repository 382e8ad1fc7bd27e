-- An inline directory: its blocks, and what its search comes to.
use Prim.Native.Nat.{ℕ, ◌%◌}
use native.Mathlib.Omega.{arith}
use mathlib.Core.Path.{◌≡◌, refl, sym, ap, ap₂, ◌∙◌}
use mathlib.Core.Bool.{Bool, true, false}
use mathlib.Core.List.{List}
use borrow.Author.Tests.{eq-eqb, ne_eqb}
use Rattle.field.specs.Choice.{choose}
use Rattle.walk.specs.Walk.{done, ok, stop, bind, onward, and_then}
use Rattle.node.specs.Node.{Bounds}
use Rattle.node.specs.Block.{hole, held, block_walk}
use Rattle.hash_level.specs.Level.{first_of, bucket_of}
use Rattle.dentry.specs.Slot.{Wanted, in_inode}
use Rattle.directory.specs.Find.{Directory, directory, fetch_from, after_slots, after_block, bucket_walk, levels_walk, find_walk}

-- ---- its blocks
module _ {inline : Bool} (m : Bounds) (ino : ℕ) (inode : List ℕ) (A index : ℕ) where
  pub first_inline : inline ≡ true → index ≡ 0 → fetch_from inline m ino inode A index ≡ done (ok (held inode))
  unfolding fetch_from
  first_inline e z = rw (e, eq-eqb index 0 z)

  pub later_inline : inline ≡ true → (index ≡ 0 → ⊥) → fetch_from inline m ino inode A index ≡ done (ok hole)
  unfolding fetch_from
  later_inline e n = rw (e, ne_eqb index 0 n)

  pub not_inline : inline ≡ false → fetch_from inline m ino inode A index ≡ block_walk m ino inode A index
  unfolding fetch_from
  not_inline e = rw e

-- ---- its search

-- one level of it is the scan of its slots
inline_level : (m : Bounds) (ino : ℕ) (inode : List ℕ) (A : ℕ) (w : Wanted)
    → levels_walk (directory m ino inode A true 0) w 1 0 ≡ after_slots (done (stop 2)) (in_inode inode w)
unfolding levels_walk bucket_walk bucket_of first_of fetch_from and_then bind onward after_block
inline_level m ino inode A w = let z : w.hash % 1 ≡ 0 = omega arith in rw z

module _ (d : Directory) (w : Wanted) (depth : ℕ) where
  -- so the levels are what any directory's search goes over
  pub by_levels : (d.inline ≡ true → (d.dir_level ≡ 0) × (depth ≡ 1)) → find_walk d w depth ≡ levels_walk d w depth 0
  unfolding find_walk
  by_levels one = go d.inline refl
    where
      go : (b : Bool) → d.inline ≡ b → choose b (after_slots (done (stop 2)) (in_inode d.inode w)) (levels_walk d w depth 0) ≡ levels_walk d w depth 0
      go true e =
          let h = one e in
          let inline = ap₂ (λ (b : Bool) (l : ℕ). levels_walk (directory d.bounds d.ino d.inode d.addresses b l) w 1 0) e h.0 in
          sym (ap (λ (n : ℕ). levels_walk d w n 0) h.1 ∙ inline ∙ inline_level d.bounds d.ino d.inode d.addresses w)
      go false e = refl

  -- and an inline directory's search is the scan of its slots, whatever its depth and its directory level are
  pub inline_search : d.inline ≡ true → find_walk d w depth ≡ after_slots (done (stop 2)) (in_inode d.inode w)
  unfolding find_walk
  inline_search e = rw e

-- which aren't consulted then
pub any_levels : (m : Bounds) (ino : ℕ) (inode : List ℕ) (A : ℕ) (inline : Bool) (w : Wanted) {level depth dir levels : ℕ}
    → (inline ≡ false → (dir ≡ level) × (levels ≡ depth))
    → find_walk (directory m ino inode A inline level) w depth ≡ find_walk (directory m ino inode A inline dir) w levels
unfolding find_walk
any_levels m ino inode A true w same = refl
any_levels m ino inode A false w same =
    let h = same refl in
    ap₂ (λ (l n : ℕ). levels_walk (directory m ino inode A false l) w n 0) (sym h.0) (sym h.1)
