use native.Mathlib.Omega.{arith}
use mathlib.Core.Path.{refl, sym}
use Rattle.field.specs.Map.{zeros_from}
use Rattle.field.proofs.Zeros.{run_on, run_end}
use Rattle.field.proofs.low_zeros.Goals as goal

pub loop-run-init : goal.loop-run-init
unfolding zeros_from
loop-run-init c = record { within = omega arith; zeros = refl }

pub returns-then-most-run : goal.returns-then-most-run
returns-then-most-run c =
    let inv = c.loop-run.invariant in
    sym (run_on _ _ _ _ _ inv.zeros c.word_zeros-zeros.ensures _ inv.within (omega arith))

pub returns-then-zeros-lt57 : goal.returns-then-zeros-lt57
returns-then-zeros-lt57 c =
    sym (run_end _ _ _ _ _ c.loop-run.invariant.zeros c.word_zeros-zeros.ensures _ (omega arith) (omega arith))

pub loop-run-preserved : goal.loop-run-preserved
loop-run-preserved c = record {
  within = omega arith;
  zeros = run_on _ _ _ _ _ c.loop-run.invariant.zeros c.word_zeros-zeros.ensures _ (omega arith) (omega arith);
}
