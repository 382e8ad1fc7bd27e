-- "The first block of each hash level is kept as a table per directory level, its rule shown once for all of them."
use Rattle.std.specs.Prelude.{ℕ, suc, ◌+◌, ◌*◌, ◌<◌, ◌≡◌, Bool, true, ◌&&◌, List, [], ◌∷◌, eqb, length, get_or}
use Rattle.hash_level.specs.Level.{buckets_of, blocks_of, first_of}

-- the rule: what a directory level's table holds
pub record IsTable (dir : ℕ) (table : List ℕ) : Type 0 where
  pub entry : (level : ℕ) → level < 63 → get_or table level 0 ≡ first_of dir level

-- The test, which antt computes for each table: from a level that starts at block `first` on, each entry is where the level before
-- ends.
abbrev pub follows : ℕ → ℕ → ℕ → List ℕ → Bool
follows dir level first [] = true
follows dir level first (x ∷ xs) = eqb x first && follows dir (suc level) (first + buckets_of (level + dir) * blocks_of level) xs

abbrev pub passes : ℕ → List ℕ → Bool
passes dir table = eqb (length table) 63 && follows dir 0 0 table

-- the tables of one directory level after another, from a level on
abbrev pub all_pass : ℕ → List (List ℕ) → Bool
all_pass dir [] = true
all_pass dir (table ∷ tables) = passes dir table && all_pass (suc dir) tables
