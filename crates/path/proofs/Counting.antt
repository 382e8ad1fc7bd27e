-- Names counted part by part: some are counted, and some parts are left.
use Prim.Native.Nat.{ℕ, ◌+◌, ◌<◌, ◌≤◌}
use native.Mathlib.Omega.{arith}
use native.Mathlib.Numerals.{add-one}
use mathlib.Core.Path.{◌≡◌, refl, sym, ap, ◌∙◌}
use mathlib.Core.Bool.{Bool, true, false, not, ◌&&◌, and-false}
use mathlib.Core.List.{List, [], ◌∷◌}
use lib.ListN.{length, get_or, drop, drop_of_length-le}
use lib.Seq.{drop-cons}
use lib.Dec.{eqb, leb}
use borrow.Author.Tests.{ne_eqb, le-leb, lt-leb}
use Rattle.field.specs.Choice.{choose}
use Rattle.field.proofs.Choosing.{needed_le}
use Rattle.name_hash.specs.Name.{is_name}
use Rattle.std.specs.List.{slice_split}
use Rattle.path.specs.Path.{slash, names_most, parts_of, part_count, are_names, is_path, name_count}
use Rattle.path.proofs.Parts.{some_part}
use Rattle.path.proofs.Splits.{split_is}

abbrev pub count_on : ℕ → List (List ℕ) → ℕ
count_on count parts = choose (leb (count + length parts) names_most && are_names parts) (count + length parts) 0

pub count_start : (path : List ℕ) → name_count path ≡ count_on 0 (parts_of path)
unfolding name_count is_path part_count
count_start path = let size : 0 + length (parts_of path) ≡ length (parts_of path) = omega arith in rw size

module _ (count : ℕ) (part : List ℕ) (parts : List (List ℕ)) where
  -- a part that is no name
  pub count_none : is_name part ≡ false → count_on count (part ∷ parts) ≡ 0
  unfolding are_names
  count_none e = rw (e, and-false) refl

  -- a name
  pub count_next : is_name part ≡ true → count_on count (part ∷ parts) ≡ count_on (count + 1) parts
  unfolding are_names
  count_next e = let size : count + length (part ∷ parts) ≡ count + 1 + length parts = omega arith in rw (e, size)

-- none is left
pub count_all : (count : ℕ) → count ≤ names_most → count_on count [] ≡ count
unfolding are_names
count_all count h =
    let size : count + 0 ≡ count = omega arith in
    rw (size, le-leb count names_most h)

-- the part that a split gives after as many as are counted
pub count_part : (path : List ℕ) (count n : ℕ) (part : List ℕ) → count ≡ n
    → (n < length (slice_split (λ b. eqb b slash) path)) × (part ≡ get_or (slice_split (λ b. eqb b slash) path) n part)
    → name_count path ≡ count_on count (drop count (parts_of path)) → name_count path ≡ count_on count (part ∷ drop (count + 1) (parts_of path))
count_part path count n part e turn known =
    let more : count < length (parts_of path) = rw (← split_is path, e) turn.0 in
    let is : get_or (parts_of path) count part ≡ part = rw (← split_is path, e) (sym turn.1) in
    let next : drop count (parts_of path) ≡ part ∷ drop (count + 1) (parts_of path) = rw (drop-cons (parts_of path) count part more, is, add-one count) in
    known ∙ ap (count_on count) next

-- and where it gives no more
pub count_end : (path : List ℕ) (count n : ℕ) → count ≡ n → n ≡ length (slice_split (λ b. eqb b slash) path) → count ≤ names_most
    → name_count path ≡ count_on count (drop count (parts_of path)) → name_count path ≡ count
count_end path count n e end few known =
    let all : length (parts_of path) ≤ count = rw (← split_is path) (omega arith) in
    known ∙ rw (drop_of_length-le (parts_of path) all) (count_all count few)

-- one too many is left
pub count_ninth : (parts : List (List ℕ)) (count : ℕ) → 1 ≤ length parts → names_most ≤ count → count_on count parts ≡ 0
count_ninth parts count some h = rw (lt-leb (count + length parts) names_most (omega arith))

-- ---- of the whole path
module _ (path : List ℕ) where
  pub count_parts : is_path path ≡ true → name_count path ≡ part_count path
  unfolding name_count
  count_parts e = rw e

  pub parts_few : is_path path ≡ true → part_count path ≤ names_most
  unfolding is_path
  parts_few = needed_le (λ e. rw e refl)

  -- 0 is of what is no path
  pub count_some : not (eqb (name_count path) 0) ≡ is_path path
  unfolding name_count part_count
  count_some = go (is_path path)
    where
      go : (t : Bool) → not (eqb (choose t (length (parts_of path)) 0) 0) ≡ t
      go true = let some = some_part path in rw (ne_eqb (length (parts_of path)) 0 (λ e. omega arith)) refl
      go false = refl

  pub count_few : name_count path ≤ names_most
  unfolding name_count
  count_few = go (is_path path) refl
    where
      go : (t : Bool) → is_path path ≡ t → choose t (part_count path) 0 ≤ names_most
      go true e = parts_few e
      go false e = omega arith
