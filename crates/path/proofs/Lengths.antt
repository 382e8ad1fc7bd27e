-- How long a path of k names is at most: each name has at most 255 bytes, and between two stands a slash.
use Prim.Native.Nat.{ℕ, suc, ◌+◌, ◌*◌, ◌≤◌}
use native.Mathlib.Omega.{arith}
use mathlib.Core.Path.{◌≡◌, refl}
use mathlib.Core.Bool.{Bool, true, false, and-false}
use mathlib.Core.List.{List, [], ◌∷◌}
use lib.ListN.{length}
use lib.Dec.{eqb, leb}
use Rattle.field.specs.Choice.{choose}
use Rattle.field.proofs.Choosing.{needed, needed_le}
use Rattle.name_hash.specs.Name.{is_name}
use Rattle.path.specs.Path.{slash, names_most, on_first, parts_of, part_count, are_names, is_path, name_count}
use Rattle.path.proofs.Parts.{some_part}
use Rattle.path.proofs.Counting.{parts_few}

-- the bytes of all parts, with one more for each
total : List (List ℕ) → ℕ
total [] = 0
total (part ∷ parts) = suc (length part) + total parts

-- a byte more in the first
total_first : (b : ℕ) (parts : List (List ℕ)) → 1 ≤ length parts → total (on_first b parts) ≡ suc (total parts)
unfolding total
total_first b [] h = absurd (omega arith)
total_first b (part ∷ parts) h = omega arith

-- so each slash is counted, and one more
parts_total : (path : List ℕ) → total (parts_of path) ≡ suc (length path)
unfolding total parts_of
parts_total [] = refl
parts_total (b ∷ path) = go (eqb b slash) (parts_total path)
  where
    go : (t : Bool) → total (parts_of path) ≡ suc (length path) → total (choose t ([] ∷ parts_of path) (on_first b (parts_of path))) ≡ suc (length (b ∷ path))
    go true ih = omega arith
    go false ih = let one = total_first b (parts_of path) (some_part path) in omega arith

names_total : (parts : List (List ℕ)) → are_names parts ≡ true → total parts ≤ 256 * length parts
unfolding total are_names
names_total [] h = omega arith
names_total (part ∷ parts) h =
    let short : length part ≤ 255 = needed_le (λ e. rw (e, and-false (leb 1 (length part))) refl) h in
    let more = names_total parts (needed (λ e. rw (e, and-false (is_name part)) refl) h) in
    omega arith

-- a path of k names has at most 256k - 1 bytes
pub path_most : (path : List ℕ) → is_path path ≡ true → length path + 1 ≤ 256 * part_count path
unfolding is_path part_count
path_most path h =
    let all = names_total (parts_of path) (needed (λ e. rw (e, and-false) refl) h) in
    let size = parts_total path in
    omega arith

-- so what is longer than eight such names is no path
pub too_long : (path : List ℕ) → 256 * names_most ≤ length path → name_count path ≡ 0
unfolding name_count
too_long path h = go (is_path path) refl
  where
    go : (b : Bool) → is_path path ≡ b → choose (is_path path) (part_count path) 0 ≡ 0
    go false e = rw e refl
    go true e =
        let most = path_most path e in
        let few = parts_few path e in
        absurd (omega arith)
