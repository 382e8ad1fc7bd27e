-- The last block of a pack whose first block passes lies in its 512 blocks.
use Prim.Native.Nat.{◌≤◌}
use native.Mathlib.Omega.{arith}
use mathlib.Core.Path.{◌≡◌, sym, ◌∙◌}
use mathlib.Core.Bool.{true}
use Rattle.checkpoint.specs.Pack.{first_passes}
use Rattle.checkpoint.proofs.Passing.{first_total}
use Rattle.ask_open.specs.Came.{PackFits}
use Rattle.ask_open.proofs.Going.{one_to_last, one_to_second}
use Rattle.ask_open.proofs.one_first_came.Goals as goal
use Rattle.ask_open.proofs.one_first_came.Goals.{Then-first_passes}

-- the block passes, so its total is 2 to 512
passes : (k : Then-first_passes) → first_passes k.args.bytes.now ≡ true
passes k = sym k.first_passes.ensures ∙ k.if-first_passes.true

fits : (k : Then-first_passes) → PackFits k.args.bytes.now
fits k = first_total _ (passes k)

total : (k : Then-first_passes) → let cp = k.checkpoint_of-cp.result in
    (2 ≤ cp.cp_pack_total_block_count) × (cp.cp_pack_total_block_count ≤ 512)
total k = rw k.checkpoint_of-cp.ensures (fits k)

pub overflow_sub-result : goal.overflow_sub-result
overflow_sub-result c = omega (arith, total (goal.at.overflow_sub-result c).Then-first_passes)

pub overflow_add-result : goal.overflow_add-result
overflow_add-result c =
    omega (arith, total (goal.at.overflow_add-result c).Then-first_passes, c.requires.0.packs)

pub returns-then-first_passes : goal.returns-then-first_passes
returns-then-first_passes c =
    let here = goal.at.returns-then-first_passes c in
    record {
      result_value = λ k blocks first second. one_to_last k blocks first second c.args.bytes.now c.args.v c.checkpoint_of-cp.ensures
          (passes here.Then-first_passes);
      by_index = λ first second. (c.requires.0, fits here.Then-first_passes);
    }

pub returns : goal.returns
returns c =
    let fails = sym c.first_passes.ensures ∙ c.if-first_passes.false in
    record {
      result_value = λ k blocks first second. one_to_second k blocks first second c.args.bytes.now c.args.v c.second_pack.ensures fails;
      by_index = λ first second. (c.requires.0, tt);
    }
