-- A path's parts by the place of its first slash: what loops over its names go by.
use Prim.Native.Nat.{ℕ, suc, ◌+◌, ◌-◌, ◌<◌, ◌≤◌}
use native.Mathlib.Omega.{arith}
use mathlib.Core.Path.{◌≡◌, refl, sym, ap, ◌∙◌}
use mathlib.Core.Bool.{Bool, true, false}
use mathlib.Core.List.{List, [], ◌∷◌}
use lib.ListN.{length, take, drop, length-drop}
use lib.Seq.{drop-drop}
use lib.Dec.{eqb}
use borrow.Author.Tests.{eqb-true, eqb-false}
use Rattle.field.specs.Choice.{choose}
use Rattle.path.specs.Path.{slash, on_first, parts_of, first_part}

-- ---- the first part: it is the front of the path
pub first_front : (s : List ℕ) → take (length (first_part s)) s ≡ first_part s
unfolding first_part
first_front [] = refl
first_front (b ∷ s) = go (eqb b slash) (first_front s)
  where
    go : (t : Bool) → take (length (first_part s)) s ≡ first_part s → take (length (choose t [] (b ∷ first_part s))) (b ∷ s) ≡ choose t [] (b ∷ first_part s)
    go true ih = refl
    go false ih = ap (λ (l : List ℕ). b ∷ l) ih

pub first_within : (s : List ℕ) → length (first_part s) ≤ length s
unfolding first_part
first_within [] = omega arith
first_within (b ∷ s) = go (eqb b slash) (first_within s)
  where
    go : (t : Bool) → length (first_part s) ≤ length s → length (choose t [] (b ∷ first_part s)) ≤ length (b ∷ s)
    go true ih = omega arith
    go false ih = omega arith

-- ---- all parts: the first one, and unless it is the whole path those behind its slash
pub only_part : (s : List ℕ) → length (first_part s) ≡ length s → parts_of s ≡ first_part s ∷ []
unfolding first_part parts_of
only_part [] h = refl
only_part (b ∷ s) h = go (eqb b slash) h (only_part s)
  where
    go : (t : Bool) → length (choose t [] (b ∷ first_part s)) ≡ length (b ∷ s) → (length (first_part s) ≡ length s → parts_of s ≡ first_part s ∷ [])
        → choose t ([] ∷ parts_of s) (on_first b (parts_of s)) ≡ choose t [] (b ∷ first_part s) ∷ []
    go true h ih = absurd (omega arith)
    go false h ih = ap (on_first b) (ih (omega arith))

pub first_and_rest : (s : List ℕ) → length (first_part s) < length s → parts_of s ≡ first_part s ∷ parts_of (drop (suc (length (first_part s))) s)
unfolding first_part parts_of
first_and_rest [] h = absurd (omega arith)
first_and_rest (b ∷ s) h = go (eqb b slash) h (first_and_rest s)
  where
    go : (t : Bool) → length (choose t [] (b ∷ first_part s)) < length (b ∷ s)
        → (length (first_part s) < length s → parts_of s ≡ first_part s ∷ parts_of (drop (suc (length (first_part s))) s))
        → choose t ([] ∷ parts_of s) (on_first b (parts_of s))
        ≡ choose t [] (b ∷ first_part s) ∷ parts_of (drop (suc (length (choose t [] (b ∷ first_part s)))) (b ∷ s))
    go true h ih = refl
    go false h ih = ap (on_first b) (ih (omega arith))

-- ---- by places: the parts from a start on are the one that ends at `end`, and those behind it
abbrev pub parts_behind : List ℕ → ℕ → List (List ℕ)
parts_behind path end = choose (eqb end (length path)) [] (parts_of (drop (end + 1) path))

module _ (path : List ℕ) (start end : ℕ) (inside : start ≤ length path) (ends : end ≡ start + length (first_part (drop start path))) where
  abbrev left : List ℕ
  left = drop start path

  pub part_inside : (start ≤ end) × (end ≤ length path)
  part_inside =
      let most = first_within left in
      let size = length-drop start path in
      (omega arith, omega arith)

  part_first : take (end - start) left ≡ first_part left
  part_first =
      let size : end - start ≡ length (first_part left) = omega arith in
      ap (λ (n : ℕ). take n left) size ∙ first_front left

  pub parts_from : parts_of left ≡ take (end - start) left ∷ parts_behind path end
  parts_from = go (eqb end (length path)) refl
    where
      go : (t : Bool) → eqb end (length path) ≡ t → parts_of left ≡ take (end - start) left ∷ choose t [] (parts_of (drop (end + 1) path))
      go true e =
          let last = eqb-true end (length path) e in
          let size = length-drop start path in
          only_part left (omega arith) ∙ ap (λ (l : List ℕ). l ∷ []) (sym part_first)
      go false e =
          let more : end ≡ length path → ⊥ = eqb-false end (length path) e in
          let size = length-drop start path in
          let most = first_within left in
          let next : start + suc (length (first_part left)) ≡ end + 1 = omega arith in
          first_and_rest left (omega arith)
          ∙ rw (drop-drop (suc (length (first_part left))) start path, next, part_first)

-- there is a first part, whatever the bytes are
pub some_part : (path : List ℕ) → 1 ≤ length (parts_of path)
unfolding parts_of
some_part [] = omega arith
some_part (b ∷ path) = go (eqb b slash) (parts_of path)
  where
    go : (t : Bool) (parts : List (List ℕ)) → 1 ≤ length (choose t ([] ∷ parts) (on_first b parts))
    go true parts = omega arith
    go false [] = omega arith
    go false (part ∷ parts) = omega arith
