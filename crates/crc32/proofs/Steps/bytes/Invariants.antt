-- What is left, from the value so far, gives the answer.
use mathlib.Core.Path.{◌≡◌}
use Prim.Native.Nat.{◌*◌}
use lib.ListN.{drop}
use Rattle.crc32.specs.Checksum.{crc_from}
use Rattle.crc32.proofs.Steps.bytes.Given as goal

abbrev pub invariant-loop-word : goal.invariant-loop-word
invariant-loop-word l = crc_from l.fn.from l.fn.bytes ≡ crc_from l.c (drop (8 * l.word-index) l.fn.bytes)

abbrev pub invariant-loop-byte : goal.invariant-loop-byte
invariant-loop-byte l = crc_from l.fn.from l.fn.bytes ≡ crc_from l.c (drop l.byte-index l.rest)
