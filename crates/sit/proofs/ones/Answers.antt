use native.Mathlib.Omega.{arith}
use Prim.Native.Nat.{◌+◌, ◌*◌}
use Rattle.sit.proofs.Counting.{ones_most, ones_word}
use Rattle.sit.proofs.ones.Goals as goal

pub overflow_add-sum : goal.overflow_add-sum
overflow_add-sum c =
    let map = c.args.map.now in
    let i = c.loop-i.i in
    let more = ones_word map (λ b. (c.type_inv.map b).fits) i in
    omega (arith, rw (← c.get64.ensures) at more, ones_most map (64 * (i + 1)))
