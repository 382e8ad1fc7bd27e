-- The segments whose valid count is off, and the valid blocks of all.
use Rattle.std.specs.Prelude.{List, [], ◌∷◌, ◌++◌, Bool, not, ℕ, zero, suc, ◌+◌, eqb}
use Rattle.field.specs.Choice.{choose}
use Rattle.sit.specs.Entry.{valid_count, map_ones}

-- "whose count isn't the number of ones in its map"
unfoldable pub is_off : List ℕ → Bool
is_off entry = not (eqb (valid_count entry) (map_ones entry))

-- "each segment whose count isn't the number of ones in its map", rising: of the first n segments, by their entries
unfoldable pub segments_off : (ℕ → List ℕ) → ℕ → List ℕ
segments_off entry zero = []
segments_off entry (suc n) = segments_off entry n ++ choose (is_off (entry n)) (n ∷ []) []

-- "the ones in all maps": of the first n segments
unfoldable pub ones_in_all : (ℕ → List ℕ) → ℕ → ℕ
ones_in_all entry zero = 0
ones_in_all entry (suc n) = ones_in_all entry n + map_ones (entry n)
