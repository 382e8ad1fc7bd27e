-- "The reflected CRC-32, polynomial EDB88320, start value F2F52010, no final complement", bit by bit.
use Rattle.std.specs.Prelude.{List, [], ◌∷◌, ℕ, zero, suc, ◌*◌, ◌/◌, ◌%◌}
use Rattle.std.specs.Int.Bits.{bit_xor}

abbrev pub polynomial : ℕ
polynomial = 0xEDB88320

abbrev pub start : ℕ
start = 0xF2F52010

-- "Reflected": the value moves down by one bit, and the polynomial is added where a 1 went out.
unfoldable pub crc_bit : ℕ → ℕ
crc_bit c = bit_xor (c / 2) (c % 2 * polynomial)

-- A number of such steps.
unfoldable pub crc_bits : ℕ → ℕ → ℕ
crc_bits zero c = c
crc_bits (suc n) c = crc_bits n (crc_bit c)

-- A byte is added to the low end, and eight steps follow.
abbrev pub crc_byte : ℕ → ℕ → ℕ
crc_byte c x = crc_bits 8 (bit_xor c x)

-- All bytes of a list, from a start value. "No final complement": the last value is the answer.
unfoldable pub crc_from : ℕ → List ℕ → ℕ
crc_from c [] = c
crc_from c (x ∷ xs) = crc_from (crc_byte c x) xs

-- The checksum of a checkpoint block's bytes.
abbrev pub checksum_of : List ℕ → ℕ
checksum_of bytes = crc_from start bytes
