-- `same_block` meets its contract: the part of the file that is lent is the kept block.
use native.Mathlib.Omega.{arith}
use Prim.Native.Nat.{ℕ, ◌+◌, ◌-◌}
use mathlib.Core.Path.{◌≡◌, ap, ◌∙◌}
use mathlib.Core.List.{List}
use lib.ListN.{take, drop}
use Rattle.keep_file.specs.Reading.{bytes_at}
use Rattle.compare.proofs.Sameness.{pointwise_same}
use Rattle.keep_compare.proofs.same_block.Goals as goal

-- the part as the slice has it
part : (file : List ℕ) (at : ℕ) → take (at + 4096 - at) (drop at file) ≡ bytes_at file at
unfolding bytes_at
part file at = let e : at + 4096 - at ≡ 4096 = omega arith in ap (λ (n : ℕ). take n (drop at file)) e

pub returns : goal.returns
returns c =
    rw (← part c.args.file.now c.args.at, ← c.block_at.ensures) (c.eq.ensures ∙ pointwise_same _ _)
