-- What the parts of a path are: two paths joined by a slash have the parts of both, and without a slash there is one. And what is no path.
use Prim.Native.Nat.{ℕ, ◌≤◌, ◌<◌}
use native.Mathlib.Omega.{arith}
use mathlib.Core.Path.{◌≡◌, refl, sym, ap, ◌∙◌}
use mathlib.Core.Bool.{Bool, true, false, and-false}
use mathlib.Core.Logic.{⊎_elim}
use mathlib.Core.List.Memᴰ
use mathlib.Core.List.{List, [], ◌∷◌, ◌++◌, Memᴰ}
use lib.ListN.{length}
use lib.Dec.{eqb}
use borrow.Author.Tests.{eqb-true, lt-leb}
use Rattle.field.specs.Choice.{choose}
use Rattle.path.specs.Path.{slash, names_most, on_first, parts_of, part_count, are_names, is_path}
use Rattle.path.proofs.Parts.{some_part}

on_first_joined : (b : ℕ) (parts more : List (List ℕ)) → 1 ≤ length parts → on_first b (parts ++ more) ≡ on_first b parts ++ more
on_first_joined b [] more h = absurd (omega arith)
on_first_joined b (part ∷ parts) more h = refl

pub parts_joined : (p q : List ℕ) → parts_of (p ++ slash ∷ q) ≡ parts_of p ++ parts_of q
unfolding parts_of
parts_joined [] q = refl
parts_joined (b ∷ p) q = go (eqb b slash) (parts_joined p q)
  where
    go : (t : Bool) → parts_of (p ++ slash ∷ q) ≡ parts_of p ++ parts_of q
        → choose t ([] ∷ parts_of (p ++ slash ∷ q)) (on_first b (parts_of (p ++ slash ∷ q)))
        ≡ choose t ([] ∷ parts_of p) (on_first b (parts_of p)) ++ parts_of q
    go true ih = ap (λ (l : List (List ℕ)). [] ∷ l) ih
    go false ih = ap (on_first b) ih ∙ on_first_joined b (parts_of p) (parts_of q) (some_part p)

pub parts_one : (path : List ℕ) → (Memᴰ slash path → ⊥) → parts_of path ≡ path ∷ []
unfolding parts_of
parts_one [] none = refl
parts_one (b ∷ path) none = go (eqb b slash) refl (parts_one path (λ m. none (Memᴰ.tail m)))
  where
    go : (t : Bool) → eqb b slash ≡ t → parts_of path ≡ path ∷ [] → choose t ([] ∷ parts_of path) (on_first b (parts_of path)) ≡ (b ∷ path) ∷ []
    go true e ih = absurd (none (Memᴰ.head (sym (eqb-true b slash e))))
    go false e ih = ap (on_first b) ih

-- ---- what is no path
empty_none : (parts : List (List ℕ)) → Memᴰ [] parts → are_names parts ≡ false
unfolding are_names
empty_none [] m = absurd (Memᴰ.not-nil m)
empty_none (part ∷ parts) m = ⊎_elim (λ e. rw (← e) refl) (λ r. rw (empty_none parts r, and-false) refl) (Memᴰ.cases_cons m)

pub empty_no_path : (path : List ℕ) → Memᴰ [] (parts_of path) → is_path path ≡ false
unfolding is_path
empty_no_path path m = rw (empty_none (parts_of path) m, and-false) refl

pub ninth_no_path : (path : List ℕ) → names_most < part_count path → is_path path ≡ false
unfolding is_path
ninth_no_path path h = rw (lt-leb (part_count path) names_most h) refl
