-- A path's parts, and its first one, in the library's words.
use Prim.Native.Nat.{ℕ, ◌+◌}
use native.Mathlib.Omega.{arith}
use mathlib.Core.Path.{◌≡◌, refl, ap, ◌∙◌}
use mathlib.Core.Bool.{Bool, true, false, not, cond}
use mathlib.Core.List.{List, [], ◌∷◌}
use lib.ListN.{length}
use lib.Dec.{eqb}
use Rattle.std.specs.List.{slice_split, onto_first, prefix_len}
use Rattle.field.specs.Choice.{choose}
use Rattle.path.specs.Path.{slash, on_first, parts_of, first_part}

on_first_is : (b : ℕ) (parts : List (List ℕ)) → onto_first b parts ≡ on_first b parts
on_first_is b [] = refl
on_first_is b (part ∷ parts) = refl

pub split_is : (path : List ℕ) → slice_split (λ b. eqb b slash) path ≡ parts_of path
unfolding parts_of
split_is [] = refl
split_is (b ∷ path) = go (eqb b slash) (split_is path)
  where
    go : (t : Bool) {parts : List (List ℕ)} → parts ≡ parts_of path
        → cond t ([] ∷ parts) (onto_first b parts) ≡ choose t ([] ∷ parts_of path) (on_first b (parts_of path))
    go true ih = ap (λ (l : List (List ℕ)). [] ∷ l) ih
    go false ih = ap (onto_first b) ih ∙ on_first_is b (parts_of path)

pub prefix_is : (path : List ℕ) → prefix_len (λ b. not (eqb b slash)) path ≡ length (first_part path)
unfolding first_part
prefix_is [] = refl
prefix_is (b ∷ path) = go (eqb b slash) (prefix_is path)
  where
    go : (t : Bool) {n : ℕ} → n ≡ length (first_part path) → cond (not t) (1 + n) 0 ≡ length (choose t [] (b ∷ first_part path))
    go true ih = refl
    go false ih = omega arith
