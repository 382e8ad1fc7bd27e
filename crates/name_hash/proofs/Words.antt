-- A key word's bytes pushed one by one, as a fold.
use Rattle.std.proofs.Common.{◌≡◌, ℕ, List, [], ◌∷◌, refl}
use Rattle.std.specs.List.{fold}
use Rattle.name_hash.specs.Hash.{push, push_all}

pub pushed : (w : ℕ) (xs : List ℕ) → fold push w xs ≡ push_all w xs
unfolding push_all
pushed w [] = refl
pushed w (x ∷ xs) = pushed (push w x) xs
