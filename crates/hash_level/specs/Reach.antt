-- How many of the blocks that a search looks for lie in reach, that is not behind `last`, the directory's last index.
use Rattle.std.specs.Prelude.{ℕ, zero, suc, ◌+◌, leb}
use Rattle.field.specs.Choice.{choose}
use Rattle.hash_level.specs.Level.{blocks_of, bucket_of}

-- of the n blocks from `block` on
unfoldable pub up_to : ℕ → ℕ → ℕ → ℕ
up_to last zero block = 0
up_to last (suc n) block = choose (leb block last) 1 0 + up_to last n (block + 1)

-- of a hash's buckets in the n levels from `level` on
unfoldable pub in_reach : ℕ → ℕ → ℕ → ℕ → ℕ → ℕ
in_reach last dir hash zero level = 0
in_reach last dir hash (suc n) level = up_to last (blocks_of level) (bucket_of dir level hash) + in_reach last dir hash n (level + 1)
