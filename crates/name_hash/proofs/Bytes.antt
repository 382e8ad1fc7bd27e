-- The bytes of a name, each by itself.
use Rattle.std.proofs.Common.{◌≡◌, ℕ, not, eqb, ◌&&◌, ◌||◌, true, false, Bool, List, [], ◌∷◌, refl, ap₂}
use Rattle.std.specs.List.{list_all}
use Rattle.name_hash.specs.Name.{name_bytes}

-- what the code asks of each
abbrev pub good : ℕ → Bool
good x = not (eqb x 0) && not (eqb x 47)

one_test : (p q : Bool) → (not p && not q) ≡ not (p || q)
one_test true q = refl
one_test false q = refl

pub all_good : (xs : List ℕ) → list_all good xs ≡ name_bytes xs
unfolding name_bytes
all_good [] = refl
all_good (x ∷ xs) = ap₂ ◌&&◌ (one_test (eqb x 0) (eqb x 47)) (all_good xs)
