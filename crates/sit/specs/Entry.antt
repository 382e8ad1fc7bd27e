-- An entry of the segment information table (SIT): "74 bytes: 16-bit word with the count in bits 0 to 9 and the type above, 64 bytes
-- of map, time". Type and time aren't consulted.
use Rattle.std.specs.Prelude.{List, ℕ, zero, suc, ◌+◌, ◌%◌, take, drop}
use Rattle.field.specs.Number.{le16}
use Rattle.field.specs.Map.{top_bit}

-- how many blocks of the segment are valid, as the entry counts them
unfoldable pub valid_count : List ℕ → ℕ
valid_count entry = le16 entry 0 % 1024

-- which blocks of the segment are valid: a bit each
abbrev pub valid_map : List ℕ → List ℕ
valid_map entry = take 64 (drop 2 entry)

-- the ones among a map's first bits
unfoldable pub ones_below : ℕ → List ℕ → ℕ
ones_below zero map = 0
ones_below (suc b) map = ones_below b map + top_bit map b

-- "the number of ones in its map": a segment has 512 blocks
abbrev pub map_ones : List ℕ → ℕ
map_ones entry = ones_below 512 (valid_map entry)
