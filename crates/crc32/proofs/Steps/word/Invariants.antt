-- The entries so far are those of the word's bytes above the ones to come.
use mathlib.Core.Path.{◌≡◌}
use Prim.Native.Nat.{◌-◌, ◌*◌, ◌/◌, ◌^◌}
use Rattle.crc32.proofs.EightBytes.{entries}
use Rattle.crc32.proofs.Steps.word.Given as goal

abbrev pub invariant-loop-row : goal.invariant-loop-row
invariant-loop-row l = l.sum ≡ entries l.row (l.word / 2 ^ (64 - 8 * l.row))
