-- Which lists Compare takes.
use Rattle.std.specs.Prelude.{◌≡◌, ℕ, Bool, true, false, ◌&&◌, List, [], ◌∷◌, leb, ltb, Option, Some, None}
use Rattle.list.specs.Lists.{AllOf, Listed, entries, count_fits}
use Rattle.node.specs.Node.{Bounds, in_main}
use Rattle.list.specs.Search.{searched}
use Rattle.compare.specs.declared.Lists.{Lists}
use Rattle.compare.specs.Column.{numbers_in}

-- "strictly rising": each number is below the next
unfoldable pub rising_after : ℕ → List ℕ → Bool
rising_after x [] = true
rising_after x (y ∷ ys) = ltb x y && rising_after y ys

unfoldable pub is_rising : List ℕ → Bool
is_rising [] = true
is_rising (x ∷ xs) = rising_after x xs

-- not "a listed block lies outside the kept main area"
abbrev pub all_in_main : Bounds → List ℕ → Bool
all_in_main m blocks = searched (in_main m) (λ b. false) true blocks

abbrev pub InMain : Bounds → List ℕ → Type 0
InMain m blocks = AllOf (λ b. in_main m b ≡ true) blocks

-- "4 if the node list is empty, either list isn't strictly rising, a count exceeds its slice, or a listed block lies outside the
-- kept main area"
unfoldable pub lists_in_shape : Bounds → Listed → Listed → Bool
lists_in_shape m nodes blocks =
    leb 1 nodes.count && count_fits nodes && count_fits blocks && is_rising (entries nodes) && is_rising (entries blocks)
    && all_in_main m (entries blocks)

-- the code's: both lists if they are in shape, else none
abbrev pub ListsIn : Bounds → Listed → Listed → Option Lists → Type 0
ListsIn m nodes blocks (Some l) =
    (lists_in_shape m nodes blocks ≡ true) × (numbers_in l.nodes ≡ entries nodes) × (numbers_in l.blocks ≡ entries blocks)
ListsIn m nodes blocks None = lists_in_shape m nodes blocks ≡ false
