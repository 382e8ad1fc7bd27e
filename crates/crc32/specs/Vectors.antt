-- The check value that CRC-32 is published with, computed by the definition.
use Rattle.std.specs.Prelude.{◌≡◌, refl, [], ◌∷◌}
use Rattle.crc32.specs.Checksum.{crc_bit, crc_bits, crc_from}

-- The digits "123456789", from FFFFFFFF, give CBF43926 after a final complement, so 340BC6D9 without it.
check_value : crc_from 0xFFFFFFFF (49 ∷ 50 ∷ 51 ∷ 52 ∷ 53 ∷ 54 ∷ 55 ∷ 56 ∷ 57 ∷ []) ≡ 0x340BC6D9
unfolding crc_bit crc_bits crc_from
check_value = refl
