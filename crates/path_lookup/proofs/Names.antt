-- What a path means: its first names are looked up, and from where they lead the rest of it.
use Prim.Native.Nat.{ℕ}
use mathlib.Core.Path.{◌≡◌, refl, sym, ap, ◌∙◌}
use mathlib.Core.Bool.{false}
use mathlib.Core.List.{List, [], ◌∷◌, ◌++◌}
use Rattle.walk.specs.Walk.{View, Seen, bind, ran, run, Outcome, ok, stop, onward, and_then}
use Rattle.walk.proofs.Runs.{run_bind, run_then, run_rest, run_assoc}
use Rattle.inode.specs.Inode.{inode_of, is_directory}
use Rattle.node.specs.Node.{Bounds, inode_walk}
use Rattle.path.specs.Path.{slash, parts_of}
use Rattle.path.proofs.Laws.{parts_joined}
use Rattle.path_lookup.specs.Lookup.{ino_of_root, at_directory, directory_walk, names_walk, path_walk}
use Rattle.path_lookup.proofs.Cases.{directory_other}

module _ (v : View) (m : Bounds) where
  -- some names, and then more
  pub names_joined : (s : Seen) (names more : List (List ℕ)) (ino : ℕ)
      → run v s (names_walk m (names ++ more) ino) ≡ run v s (and_then (names_walk m names ino) (names_walk m more))
  unfolding names_walk and_then bind onward
  names_joined s [] more ino = refl
  names_joined s (name ∷ names) more ino =
      run_rest v s (directory_walk m name ino) (names_walk m (names ++ more)) _ (λ t child. names_joined t names more child)
      ∙ sym (run_assoc v s (directory_walk m name ino) (names_walk m names) (names_walk m more))

  -- one name is its directory's walk
  pub names_one : (s : Seen) (name : List ℕ) (ino : ℕ) → run v s (names_walk m (name ∷ []) ino) ≡ run v s (directory_walk m name ino)
  unfolding names_walk and_then onward run
  names_one s name ino =
      run_bind v s (directory_walk m name ino) (onward (names_walk m []))
      ∙ go (run v s (directory_walk m name ino)).seen (run v s (directory_walk m name ino)).value
    where
      go : (t : Seen) (o : Outcome ℕ) → run v t (onward (names_walk m []) o) ≡ ran o t
      go t (ok child) = refl
      go t (stop answer) = refl

  pub path_joined : (s : Seen) (p q : List ℕ) → run v s (path_walk m (p ++ slash ∷ q)) ≡ run v s (and_then (path_walk m p) (names_walk m (parts_of q)))
  unfolding path_walk
  path_joined s p q =
      ap (λ (names : List (List ℕ)). run v s (names_walk m names ino_of_root)) (parts_joined p q) ∙ names_joined s (parts_of p) (parts_of q) ino_of_root

-- a name sought in an inode that was read and is no directory
pub other_kind : (v : View) (s : Seen) (m : Bounds) (name : List ℕ) (ino : ℕ) {inode : List ℕ} {t : Seen} → run v s (inode_walk m ino) ≡ ran (ok inode) t
    → is_directory (inode_of inode) ≡ false → run v s (directory_walk m name ino) ≡ ran (stop 12) t
unfolding directory_walk run
other_kind v s m name ino {inode} {t} read other =
    run_then v s (inode_walk m ino) (at_directory m name ino) read ∙ ap (run v t) (directory_other m name ino inode refl other)
