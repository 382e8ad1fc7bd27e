-- `crc32::checksum` meets its contract. The constant is the table: the tests of its entries are computed here, once.
use mathlib.Core.Path.{refl}
use Rattle.crc32.specs.Checksum.{crc_bit, crc_bits}
use Rattle.crc32.proofs.EntryTest.{is_table}
use Rattle.crc32.proofs.checksum.Goals as goal

pub invariant_of-steps : goal.invariant_of-steps
unfolding crc_bit crc_bits
invariant_of-steps c = record { rule = is_table _ refl tt tt }
