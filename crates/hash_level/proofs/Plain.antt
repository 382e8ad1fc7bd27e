-- A directory level of 0 is document 01's rule, which knows no level: "level n below 31 has 2^n buckets of 2 blocks, others 2^30 of 4".
use Prim.Native.Nat.{ℕ, zero, suc, ◌+◌, ◌*◌, ◌%◌, ◌^◌}
use native.Mathlib.Nat.{add-zero}
use mathlib.Core.Path.{◌≡◌, refl, ap}
use lib.Dec.{ltb}
use Rattle.field.specs.Choice.{choose}
use Rattle.hash_level.specs.Level.{buckets_of, first_of, bucket_of, level_of}

abbrev pub plain_buckets : ℕ → ℕ
plain_buckets level = choose (ltb level 31) (2 ^ level) (2 ^ 30)

abbrev pub plain_blocks : ℕ → ℕ
plain_blocks level = choose (ltb level 31) 2 4

-- the levels follow each other
abbrev pub plain_first : ℕ → ℕ
plain_first zero = 0
plain_first (suc level) = plain_first level + plain_buckets level * plain_blocks level

first_0 : (level : ℕ) → first_of 0 level ≡ plain_first level
unfolding first_of
first_0 zero = refl
first_0 (suc level) = rw (first_0 level, ap buckets_of (add-zero level))

-- a hash's bucket starts where document 01 says, and has as many blocks
pub level_0 : (level hash : ℕ)
    → level_of 0 level hash ≡ record { count = plain_blocks level; bucket = plain_first level + hash % plain_buckets level * plain_blocks level }
unfolding bucket_of
level_0 level hash = rw (first_0 level, ap buckets_of (add-zero level))
