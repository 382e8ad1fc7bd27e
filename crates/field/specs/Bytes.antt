-- A fixed byte string at an offset.
use Rattle.std.specs.Prelude.{List, [], ◌∷◌, Bool, true, ◌&&◌, ℕ, ◌+◌, get_or, eqb}

-- the bytes from an offset on begin with the string
unfoldable pub same_at : List ℕ → ℕ → List ℕ → Bool
same_at bytes at [] = true
same_at bytes at (x ∷ xs) = eqb (get_or bytes at 0) x && same_at bytes (at + 1) xs
