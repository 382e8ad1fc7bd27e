-- The last block of a pack whose first block passes lies in its 512 blocks; else the first pack is chosen.
use Prim.Native.Nat.{◌≤◌}
use native.Mathlib.Omega.{arith}
use mathlib.Core.Path.{◌≡◌, sym, ◌∙◌}
use mathlib.Core.Bool.{true}
use Rattle.checkpoint.specs.Pack.{first_passes}
use Rattle.checkpoint.proofs.Passing.{first_total}
use Rattle.checkpoint.proofs.Negated.{fails, holds}
use Rattle.asking.specs.Open.{tried_by}
use Rattle.ask_open.specs.Came.{PackFits}
use Rattle.ask_open.proofs.Cases.{two_fails}
use Rattle.ask_open.proofs.Going.{two_to_last}
use Rattle.ask_open.proofs.two_first_came.Goals as goal
use Rattle.ask_open.proofs.two_first_came.Goals.{Else-not-first_passes}

-- the block passes, so its total is 2 to 512
passes : (k : Else-not-first_passes) → first_passes k.args.bytes.now ≡ true
passes k = holds k.first_passes.ensures k.if-not-first_passes.false

fits : (k : Else-not-first_passes) → PackFits k.args.bytes.now
fits k = first_total _ (passes k)

total : (k : Else-not-first_passes) → let cp = k.checkpoint_of-cp.result in
    (2 ≤ cp.cp_pack_total_block_count) × (cp.cp_pack_total_block_count ≤ 512)
total k = rw k.checkpoint_of-cp.ensures (fits k)

pub returns-then-not-first_passes : goal.returns-then-not-first_passes
returns-then-not-first_passes c =
    let a = c.args in
    let first = a.first.now in
    let bytes = a.bytes.now in
    let fails-here = fails c.first_passes.ensures c.if-not-first_passes.true in
    record {
      result_value = λ k blocks second.
          c.choose_first.ensures.result_value k blocks second bytes ∙ sym (two_fails k a.v.areas bytes (tried_by a.passed first) fails-here);
      by_index = λ second. c.choose_first.ensures.by_index second bytes;
    }

pub overflow_sub-result : goal.overflow_sub-result
overflow_sub-result c = omega (arith, total (goal.at.overflow_sub-result c).Else-not-first_passes)

pub overflow_add-result : goal.overflow_add-result
overflow_add-result c =
    omega (arith, total (goal.at.overflow_add-result c).Else-not-first_passes, c.second_pack.ensures, c.requires.areas_fit.0.packs)

pub returns : goal.returns
returns c =
    let a = c.args in
    let read = c.checkpoint_of-cp.ensures in
    record {
      result_value = λ k blocks second.
          two_to_last k blocks a.first.now second a.bytes.now a.v c.second_pack.ensures a.passed read (passes (goal.at.returns c).Else-not-first_passes);
      by_index = λ second. (c.requires.areas_fit.0, c.requires.areas_fit.1, fits (goal.at.returns c).Else-not-first_passes);
    }
