-- The hash levels of a directory, by its directory level: `dir` is the directory level, `level` the n of the rule.
use Rattle.std.specs.Prelude.{ℕ, zero, suc, ◌+◌, ◌*◌, ◌%◌, ◌^◌, ltb}
use Rattle.field.specs.Choice.{choose}
use Rattle.hash_level.specs.declared.Level.{Level}

-- "buckets are 2^(n + level) while n + level is below 31, else 2^30": of the sum of the two
abbrev pub buckets_of : ℕ → ℕ
buckets_of sum = choose (ltb sum 31) (2 ^ sum) (2 ^ 30)

-- "blocks stay 2 for n below 31, else 4": in each bucket
abbrev pub blocks_of : ℕ → ℕ
blocks_of level = choose (ltb level 31) 2 4

-- the first block of a hash level: the levels follow each other
unfoldable pub first_of : ℕ → ℕ → ℕ
first_of dir zero = 0
first_of dir (suc level) = first_of dir level + buckets_of (level + dir) * blocks_of level

-- "the bucket hash mod buckets": its first block
unfoldable pub bucket_of : ℕ → ℕ → ℕ → ℕ
bucket_of dir level hash = first_of dir level + hash % buckets_of (level + dir) * blocks_of level

-- the bucket of a hash as the code has it
abbrev pub level_of : ℕ → ℕ → ℕ → Level
level_of dir level hash = record { count = blocks_of level; bucket = bucket_of dir level hash }
