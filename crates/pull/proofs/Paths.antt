-- K7, of every pull: a path without a slash answers as document 01's pull of that name did, what is no path is 4, and any other answers as
-- the rest of it does from where its first names lead.
use Prim.Native.Nat.{ℕ, ◌<◌, ◌≤◌}
use native.Mathlib.Omega.{arith}
use mathlib.Core.Path.{◌≡◌, refl, ap, ◌∙◌}
use mathlib.Core.Bool.{Bool, true, false, ◌&&◌, and-false}
use mathlib.Core.List.{List, [], ◌∷◌, ◌++◌, Memᴰ}
use lib.ListN.{length}
use Rattle.field.specs.Card.{Card, card_of}
use Rattle.field.specs.Choice.{choose}
use Rattle.checkpoint.specs.declared.Volume.{Volume}
use Rattle.checkpoint.specs.Volume.{Opening, Opened, Refused, opened_image}
use Rattle.name_hash.specs.Name.{is_name}
use Rattle.walk.specs.Walk.{view_of, image_view, Seen, empty, ran, run, ok, stop, and_then}
use Rattle.walk.proofs.Runs.{run_then, run_stop, run_first, run_assoc}
use Rattle.inode.specs.Inode.{inode_of, is_directory}
use Rattle.node.specs.Node.{Bounds, bounds_of, inode_walk}
use Rattle.path.specs.Path.{slash, parts_of, part_count, are_names, is_path}
use Rattle.path.proofs.Parts.{some_part}
use Rattle.path.proofs.Laws.{parts_one, empty_no_path, ninth_no_path}
use Rattle.path_lookup.specs.Lookup.{ino_of_root, directory_walk, names_walk, path_walk}
use Rattle.path_lookup.proofs.Names.{names_one, path_joined, other_kind}
use Rattle.pull.specs.Walk.{file_walk, named_file_walk, pull_walk}
use Rattle.pull.specs.Pull.{Lent, Result, lent_in_shape, call_in_shape, refused_pull, written, pull_run, pulled_from, pulled}
use Rattle.pull.specs.OneName.{name_walk, name_in_shape, name_pulled_from, name_pulled}
use Rattle.pull.proofs.Results.{write, call_refused, call_opens}

-- ---- "a one_name path answers as before"
module _ (path : List ℕ) (one : Memᴰ slash path → ⊥) where
  one_path : is_path path ≡ is_name path
  unfolding is_path part_count are_names
  one_path = rw (parts_one path one) (go (is_name path))
    where
      go : (t : Bool) → (t && true) ≡ t
      go true = refl
      go false = refl

  one_part : part_count path ≡ 1
  unfolding part_count
  one_part = ap length (parts_one path one)

  -- the same calls are out of shape
  one_shape : (image : List ℕ) (lent : Lent) → call_in_shape image path lent ≡ name_in_shape image path lent
  unfolding call_in_shape lent_in_shape name_in_shape
  one_shape image lent = rw (one_path, one_part)

  -- and the walk is the same
  one_run : (card : Card) (v : Volume) (index : ℕ) → pull_run card v path index ≡ run (view_of card v) empty (name_walk (bounds_of v) path index)
  unfolding pull_run pull_walk named_file_walk name_walk
  one_run card v index =
      rw (parts_one path one)
      (run_first (view_of card v) empty empty _ _ (file_walk (bounds_of v) index) (names_one (view_of card v) (bounds_of v) empty path ino_of_root))

  pub one_name : (image : List ℕ) (index : ℕ) (lent : Lent) → pulled image path index lent ≡ name_pulled image path index lent
  unfolding pulled name_pulled
  one_name image index lent =
      rw (one_shape image lent) (ap (λ (r : Result). choose (name_in_shape image path lent) r (refused_pull 4 lent)) (go (opened_image image)))
    where
      go : (o : Opening) → pulled_from (card_of image) o path index lent ≡ name_pulled_from (card_of image) o path index lent
      go (Opened v) = write lent (one_run (card_of image) v index)
      go (Refused answer) = refl

-- ---- "an empty part or a ninth is 4": the lent memory stays as it was, and all counts are 0
module _ (image path : List ℕ) (index : ℕ) (lent : Lent) where
  pub no_path : is_path path ≡ false → pulled image path index lent ≡ refused_pull 4 lent
  unfolding call_in_shape
  no_path e = call_refused image path index lent (rw (e, and-false) refl)

  pub empty_part : Memᴰ [] (parts_of path) → pulled image path index lent ≡ refused_pull 4 lent
  empty_part m = no_path (empty_no_path path m)

  pub ninth_name : 8 < part_count path → pulled image path index lent ≡ refused_pull 4 lent
  ninth_name h = no_path (ninth_no_path path h)

-- ---- a path p/q: p is looked up, and then the file that q leads to from there
module _ (image p q : List ℕ) (index : ℕ) (lent : Lent) (shape : call_in_shape image (p ++ slash ∷ q) lent ≡ true)
    (v : Volume) (opens : opened_image image ≡ Opened v) where
  abbrev m : Bounds
  m = bounds_of v

  pub joined : pulled image (p ++ slash ∷ q) index lent
      ≡ written (run (image_view image v) empty (and_then (path_walk m p) (named_file_walk m (parts_of q) index))) lent
  unfolding pull_run pull_walk named_file_walk path_walk
  joined =
      call_opens image (p ++ slash ∷ q) index lent (Opened v) shape opens
      ∙ write lent
      (run_first (image_view image v) empty empty (path_walk m (p ++ slash ∷ q)) (and_then (path_walk m p) (names_walk m (parts_of q))) (file_walk m index)
      (path_joined (image_view image v) m empty p q)
      ∙ run_assoc (image_view image v) empty (path_walk m p) (names_walk m (parts_of q)) (file_walk m index))

  -- p leads to an inode number: the path answers as the rest of it does from there, and what was listed on the way stays listed
  pub answers_from : {ino : ℕ} {s : Seen} → run (image_view image v) empty (path_walk m p) ≡ ran (ok ino) s
      → pulled image (p ++ slash ∷ q) index lent ≡ written (run (image_view image v) s (named_file_walk m (parts_of q) index ino)) lent
  answers_from led = joined ∙ write lent (run_then (image_view image v) empty (path_walk m p) (named_file_walk m (parts_of q) index) led)

  -- p stops: so does the path
  pub stops_on_the_way : {answer : ℕ} {s : Seen} → run (image_view image v) empty (path_walk m p) ≡ ran (stop answer) s
      → pulled image (p ++ slash ∷ q) index lent ≡ written (ran (stop answer) s) lent
  stops_on_the_way led = joined ∙ write lent (run_stop (image_view image v) empty (path_walk m p) (named_file_walk m (parts_of q) index) led)

  -- "Each name but the last must be a directory, else 12": p leads to an inode that is none
  pub through_another_kind : {ino : ℕ} {inode : List ℕ} {s t : Seen} → run (image_view image v) empty (path_walk m p) ≡ ran (ok ino) s
      → run (image_view image v) s (inode_walk m ino) ≡ ran (ok inode) t → is_directory (inode_of inode) ≡ false
      → pulled image (p ++ slash ∷ q) index lent ≡ written (ran (stop 12) t) lent
  unfolding named_file_walk names_walk
  through_another_kind {ino = ino} {s = s} {t = t} led read other =
      answers_from led ∙ write lent (go (parts_of q) (some_part q))
    where
      go : (names : List (List ℕ)) → 1 ≤ length names → run (image_view image v) s (named_file_walk m names index ino) ≡ ran (stop 12) t
      go [] some = absurd (omega arith)
      go (name ∷ names) some =
          run_stop (image_view image v) s (names_walk m (name ∷ names) ino) (file_walk m index)
          (run_stop (image_view image v) s (directory_walk m name ino) (names_walk m names) (other_kind (image_view image v) s m name ino read other))
