-- What the code's table holds.
use Rattle.std.specs.Prelude.{◌≡◌, List, ℕ, ◌+◌, ◌*◌, ◌<◌, get_or}
use Rattle.crc32.specs.Checksum.{crc_bits}

-- For each j below 8 and each byte k, at 256 j + k: what 8 (j + 1) steps make of k.
pub record IsTable (table : List ℕ) : Type 0 where
  pub entry : (j k : ℕ) → j < 8 → k < 256 → get_or table (256 * j + k) 0 ≡ crc_bits (8 * (j + 1)) k
