-- The tree of a directory by cases: no run and no list is named.
use Prim.Native.Nat.{ℕ, ◌≤◌}
use mathlib.Core.Path.{◌≡◌, sym, ◌∙◌}
use mathlib.Core.Bool.{Bool, true, false}
use mathlib.Core.List.{List}
use borrow.Author.Tests.{eq-eqb, ne_eqb}
use Rattle.walk.specs.Walk.{done, stop}
use Rattle.inode.specs.declared.Inode.{Inode}
use Rattle.inode.specs.Inode.{inode_of, has_inline_dentry, is_directory, levels_in, dir_level_in, addresses_in}
use Rattle.inode.proofs.DirectoryLevel.{level_refused, own_levels}
use Rattle.node.specs.Node.{Bounds}
use Rattle.name_hash.specs.Hash.{hash_of}
use Rattle.dentry.specs.Slot.{wanted}
use Rattle.directory.specs.Find.{directory, find_walk}
use Rattle.directory.proofs.Inline.{any_levels}
use Rattle.path_lookup.specs.Lookup.{at_directory}

module _ (m : Bounds) (name : List ℕ) (ino : ℕ) (inode : List ℕ) {i : Inode} (read : i ≡ inode_of inode) where
  pub directory_other : is_directory i ≡ false → at_directory m name ino inode ≡ done (stop 12)
  unfolding at_directory
  directory_other r = rw (← read, r)

  -- whatever its size: 12 comes before 2
  pub directory_level : 31 ≤ i.level → at_directory m name ino inode ≡ done (stop 12)
  directory_level h = directory_other (level_refused i i.level h)

  pub directory_empty : is_directory i ≡ true → i.size ≡ 0 → at_directory m name ino inode ≡ done (stop 2)
  unfolding at_directory
  directory_empty r z = rw (← read, r, eq-eqb _ _ z)

  module _ (A hash : ℕ) (inline : Bool) (r : is_directory i ≡ true) (z : i.size ≡ 0 → ⊥) (a : A ≡ addresses_in i) (h : hash ≡ hash_of name)
      (l : inline ≡ has_inline_dentry i) where
    pub directory_find : at_directory m name ino inode ≡ find_walk (directory m ino inode A inline i.level) (wanted hash name) i.depth
    unfolding at_directory
    directory_find = rw (← read, r, ne_eqb _ _ z, a, h, l)

    -- the same by the numbers that the code goes by
    pub directory_search : (level depth : ℕ) → level ≡ dir_level_in i → depth ≡ levels_in i
        → at_directory m name ino inode ≡ find_walk (directory m ino inode A inline level) (wanted hash name) depth
    directory_search level depth p q =
        directory_find ∙ any_levels m ino inode A inline (wanted hash name)
        (λ e.
        let own = own_levels i (sym l ∙ e) in
        (p ∙ own.0, q ∙ own.1))
