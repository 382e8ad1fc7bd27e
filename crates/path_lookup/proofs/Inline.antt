-- K4: an inline directory asks nothing beyond its own inode.
use Prim.Native.Nat.{ℕ}
use mathlib.Core.Path.{◌≡◌, refl, sym, ◌∙◌}
use mathlib.Core.Bool.{Bool, true, false}
use mathlib.Core.List.{List}
use lib.Dec.{eqb}
use borrow.Author.Tests.{eqb-true, eqb-false}
use Rattle.walk.specs.Walk.{View, Seen, done, run, stop}
use Rattle.inode.specs.Inode.{inode_of, has_inline_dentry, is_directory}
use Rattle.node.specs.Node.{Bounds}
use Rattle.name_hash.specs.Hash.{hash_of}
use Rattle.dentry.specs.Slot.{wanted, Sought, absent, found, malformed, in_inode}
use Rattle.directory.specs.Find.{after_slots}
use Rattle.directory.proofs.Inline.{inline_search}
use Rattle.path_lookup.specs.Lookup.{at_directory}
use Rattle.path_lookup.proofs.Cases.{directory_empty, directory_find}

-- its slots are scanned, whatever its depth and its directory level are
module _ (m : Bounds) (name : List ℕ) (ino : ℕ) (inode : List ℕ) (is : is_directory (inode_of inode) ≡ true)
    (own : has_inline_dentry (inode_of inode) ≡ true) where
  pub inline_directory : ((inode_of inode).size ≡ 0 → ⊥) → at_directory m name ino inode ≡ after_slots (done (stop 2))
      (in_inode inode (wanted (hash_of name) name))
  inline_directory some = directory_find m name ino inode refl _ _ true is some refl refl (sym own) ∙ inline_search _ _ _ refl

  -- so what was seen when its inode was read is what the search leaves
  pub inline_directory_seen : (v : View) (s : Seen) → (run v s (at_directory m name ino inode)).seen ≡ s
  unfolding run
  inline_directory_seen v s = go (eqb (inode_of inode).size 0) refl
    where
      asks_nothing : (o : Sought) → (run v s (after_slots (done (stop 2)) o)).seen ≡ s
      asks_nothing absent = refl
      asks_nothing (found child) = refl
      asks_nothing malformed = refl

      go : (b : Bool) → eqb (inode_of inode).size 0 ≡ b → (run v s (at_directory m name ino inode)).seen ≡ s
      go true e = rw (directory_empty m name ino inode refl is (eqb-true _ _ e))
      go false e = rw (inline_directory (eqb-false _ _ e)) (asks_nothing (in_inode inode (wanted (hash_of name) name)))
