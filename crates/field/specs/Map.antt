-- The bits of a map of bytes: each is 0 or 1, and there are two orders.
use Rattle.std.specs.Prelude.{List, ℕ, zero, suc, ◌+◌, ◌-◌, ◌/◌, ◌%◌, ◌^◌, get_or}
use Rattle.std.specs.Int.Count.{under}

-- NAT and SIT maps: "bit 0 is the top bit of a byte"
unfoldable pub top_bit : List ℕ → ℕ → ℕ
top_bit map b = get_or map (b / 8) 0 / 2 ^ (7 - b % 8) % 2

-- "Directory maps count from the bottom bit."
unfoldable pub low_bit : List ℕ → ℕ → ℕ
low_bit map b = get_or map (b / 8) 0 / 2 ^ (b % 8) % 2

-- K5: "by counting zero bits of the map": of the n bits from b on, how many come before the first that is set
unfoldable pub zeros_from : (ℕ → ℕ) → ℕ → ℕ → ℕ
zeros_from bit zero b = 0
zeros_from bit (suc n) b = under (bit b) (zeros_from bit n (b + 1))

abbrev pub low_zeros : List ℕ → ℕ → ℕ → ℕ
low_zeros map n b = zeros_from (low_bit map) n b
