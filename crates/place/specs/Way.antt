-- The way to a block, from the inode on: each node's place number, and the slot that is taken in it. In the inode the slot is
-- that of an address, or 0 to 4 for its five node numbers.
use Rattle.std.specs.Prelude.{ℕ, ◌+◌, ◌*◌, List, [], ◌∷◌, ◌++◌, length, take, replicate}
use Rattle.place.specs.declared.Place.{Place}
use Rattle.place.specs.declared.Place.TheVariants.{Inode, Direct, Indirect, Double, Past}
use Rattle.place.specs.declared.Step.{Step}
use Rattle.place.specs.declared.Way.{Way}

abbrev pub step : ℕ → ℕ → Step
step number slot = record { number = number; slot = slot }

-- "Place numbers: inode 0, direct 1 and 2, indirect 3 (children from 4) and 1022 (children from 1023), double 2041, its child i
-- is 2042 + 1019i, with leaves from 2043 + 1019i."
abbrev pub way_of : Place → List Step
way_of (Inode s) = step 0 s ∷ []
way_of (Direct n s) = step 0 n ∷ step (1 + n) s ∷ []
way_of (Indirect n k s) = step 0 (2 + n) ∷ step (3 + 1019 * n) k ∷ step (4 + 1019 * n + k) s ∷ []
way_of (Double n k s) = step 0 4 ∷ step 2041 n ∷ step (2042 + 1019 * n) k ∷ step (2043 + 1019 * n + k) s ∷ []
way_of Past = []

-- a way in the code's array of four steps, with zeros behind it
abbrev pub in_array : List Step → Way
in_array way = record { count = length way; steps = take 4 (way ++ replicate 4 (step 0 0)) }
