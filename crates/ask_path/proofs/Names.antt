-- The names of a path from a place on: the one that starts there and those behind it, or none. Then where they lead from an inode.
use Prim.Native.Nat.{ℕ, ◌+◌, ◌-◌, ◌<◌, ◌≤◌}
use native.Mathlib.Omega.{arith}
use lib.Dec.{eqb}
use borrow.Author.Tests.{eqb-true, eqb-false, le-leb, lt-leb}
use mathlib.Core.Path.{◌≡◌, refl, sym, ap, ◌∙◌}
use mathlib.Core.Bool.{Bool, true, false}
use mathlib.Core.List.{List, [], ◌∷◌}
use lib.ListN.{length, take, drop}
use Rattle.field.specs.Choice.{choose}
use Rattle.path.specs.Path.{parts_of, first_part}
use Rattle.path.proofs.Parts.{parts_behind, part_inside, parts_from}
use Rattle.walk.specs.Walk.{and_then}
use Rattle.walk.proofs.Trees.{then_then, then_ok}
use Rattle.node.specs.Node.{inode_walk}
use Rattle.path_lookup.specs.Lookup.{at_directory, directory_walk, names_walk}
use Rattle.pull.specs.Walk.{file_walk, named_file_walk}
use Rattle.ask_directory.specs.Left.{Question, bounds_in, names_from, names_then, inode_then}

-- ---- by places
module _ (path : List ℕ) (at : ℕ) where
  pub no_names : length path < at → names_from path at ≡ []
  no_names h = rw (lt-leb at (length path) h)

  some_names : at ≤ length path → names_from path at ≡ parts_of (drop at path)
  some_names h = rw (le-leb at (length path) h)

behind_part : (path : List ℕ) (end : ℕ) → end ≤ length path → parts_behind path end ≡ names_from path (end + 1)
behind_part path end h = go (eqb end (length path)) refl
  where
    go : (t : Bool) → eqb end (length path) ≡ t → choose t [] (parts_of (drop (end + 1) path)) ≡ names_from path (end + 1)
    go true e =
        let last = eqb-true end (length path) e in
        sym (no_names path (end + 1) (omega arith))
    go false e =
        let more : end ≡ length path → ⊥ = eqb-false end (length path) e in
        sym (some_names path (end + 1) (omega arith))

pub names_from_lem : (path : List ℕ) (at : ℕ) {end : ℕ} → at ≤ length path → end ≡ at + length (first_part (drop at path))
    → names_from path at ≡ take (end - at) (drop at path) ∷ names_from path (end + 1)
names_from_lem path at {end} h ends =
    some_names path at h ∙ parts_from path at end h ends
    ∙ ap (λ (names : List (List ℕ)). take (end - at) (drop at path) ∷ names) (behind_part path end (part_inside path at end h ends).1)

-- ---- from an inode number: its inode is sought, and then what follows when it came
pub names_then_lem : (q : Question) (names : List (List ℕ)) (ino : ℕ)
    → names_then q names ino ≡ and_then (inode_walk (bounds_in q) ino) (inode_then q ino names)
unfolding named_file_walk names_walk file_walk directory_walk inode_then
names_then_lem q [] ino = then_ok ino (file_walk (bounds_in q) q.index)
names_then_lem q (name ∷ names) ino =
    then_then (directory_walk (bounds_in q) name ino) (names_walk (bounds_in q) names) (file_walk (bounds_in q) q.index)
    ∙ then_then (inode_walk (bounds_in q) ino) (at_directory (bounds_in q) name ino) (names_then q names)
