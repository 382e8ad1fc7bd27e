-- One turn of the loop over a path's names. What is left of the lookup is the names from a start on, in the directory of `ino`.
use Prim.Native.Nat.{ℕ, ◌+◌, ◌-◌, ◌≤◌}
use native.Mathlib.Omega.{arith}
use mathlib.Core.Path.{◌≡◌, ap}
use mathlib.Core.List.{List}
use lib.ListN.{length, take, drop}
use borrow.Author.Tests.{eq-eqb, ne_eqb}
use Rattle.walk.specs.Walk.{View, Outcome, ok, stop, and_then, Lists, Walked, Fits}
use Rattle.walk.proofs.Reached.{Reached, reached_start, reached_to, reached_then, reached_stop, reached_done}
use Rattle.walk.proofs.Fits.{fits_first, fits_at}
use Rattle.node.specs.Node.{Bounds}
use Rattle.path.specs.Path.{parts_of, first_part}
use Rattle.path.proofs.Parts.{parts_behind, part_inside, parts_from}
use Rattle.path_lookup.specs.Lookup.{ino_of_root, directory_walk, names_walk, path_walk}

pub record Names (v : View) (m : Bounds) (path : List ℕ) (s : Lists) (start ino : ℕ) (t : Lists) : Type 0 where
  pub inside : start ≤ length path
  pub reached : Reached v (path_walk m path) s (names_walk m (parts_of (drop start path)) ino) t

pub names_start : (v : View) (m : Bounds) (path : List ℕ) (s : Lists) → Names v m path s 0 ino_of_root s
unfolding path_walk
names_start v m path s = record { inside = omega arith; reached = reached_start _ _ _ }

module _ {v : View} {m : Bounds} {path : List ℕ} {s t : Lists} {start ino : ℕ} (n : Names v m path s start ino t) {end : ℕ}
    (ends : end ≡ start + length (first_part (drop start path))) where
  pub name_inside : (start ≤ end) × (end ≤ length path)
  name_inside = part_inside path start end n.inside ends

  -- the next name
  abbrev name : List ℕ
  name = take (end - start) (drop start path)

  to_name : Reached v (path_walk m path) s (and_then (directory_walk m name ino) (names_walk m (parts_behind path end))) t
  unfolding names_walk
  to_name = reached_to n.reached (ap (λ (parts : List (List ℕ)). names_walk m parts ino) (parts_from path start end n.inside ends))

  pub name_fits : Fits v (path_walk m path) s → Fits v (directory_walk m name ino) t
  name_fits fits = fits_first (names_walk m (parts_behind path end)) (fits_at fits to_name)

  module _ {x : Outcome ℕ} {u : Lists} (left : Walked v (directory_walk m name ino) t x u) where
    pub names_stop : {answer : ℕ} → x ≡ stop answer → Walked v (path_walk m path) s (stop answer) u
    names_stop e = reached_stop (names_walk m (parts_behind path end)) to_name left e

    -- it led to an inode number, from where the names behind it are sought
    behind : {child : ℕ} → x ≡ ok child → Reached v (path_walk m path) s (names_walk m (parts_behind path end) child) u
    behind e = reached_then (names_walk m (parts_behind path end)) to_name left e

    pub names_end : {child : ℕ} → x ≡ ok child → end ≡ length path → Walked v (path_walk m path) s (ok child) u
    unfolding names_walk
    names_end e last = reached_done (rw (eq-eqb _ _ last) at (behind e))

    pub names_next : {child : ℕ} → x ≡ ok child → (end ≡ length path → ⊥) → Names v m path s (end + 1) child u
    names_next e more =
        let known = name_inside in
        record { inside = omega arith; reached = rw (ne_eqb _ _ more) at (behind e) }
