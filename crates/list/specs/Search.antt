-- The search of a list for the first number that fails a test: what Compare does with the listed nodes, the listed blocks and the
-- main area.
use Rattle.std.specs.Prelude.{Bool, List, [], ◌∷◌, ℕ}
use Rattle.field.specs.Choice.{choose}

-- `found` of the first number that fails the test, or `other` where all pass
unfoldable pub searched : {A : Type 0} → (ℕ → Bool) → (ℕ → A) → A → List ℕ → A
searched test found other [] = other
searched test found other (x ∷ xs) = choose (test x) (searched test found other xs) (found x)
