-- Eight steps are one entry, and the rest shifted down.
use mathlib.Core.Path.{sym, ap, ◌∙◌}
use Prim.Native.Nat.{ℕ, ◌/◌}
use lib.Bits.{bit_xor}
use Rattle.crc32.proofs.Linear.{one_byte}
use Rattle.crc32.proofs.Steps.byte.Goals as goal

pub returns : goal.returns
returns c =
    let v = bit_xor c.args.c c.args.byte in
    sym (one_byte v ∙ ap (λ (n : ℕ). bit_xor n (v / 256)) (sym c.entry.ensures))
