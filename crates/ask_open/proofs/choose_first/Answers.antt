-- The first pack is chosen if it passed, else the answer is 7.
use native.Mathlib.Omega.{arith}
use mathlib.Core.Path.{◌≡◌, refl, sym, ◌∙◌}
use mathlib.Core.Bool.{true}
use Rattle.answer.specs.declared.Refusal.TheVariants.{NoCheckpoint}
use Rattle.ask_open.proofs.Cases.{none_passes, first_alone}
use Rattle.ask_open.proofs.Going.{goes_refused}
use Rattle.ask_open.proofs.Knowing.{has_passed, knows_refused}
use Rattle.ask_open.proofs.choose_first.Goals as goal
use Rattle.ask_open.proofs.choose_first.Goals.{Else-not-passed}

-- the first one passed
passed_by : (k : Else-not-passed) → k.args.passed ≡ true
passed_by k = k.if-not-passed.false

pub returns-then-not-passed : goal.returns-then-not-passed
returns-then-not-passed c =
    let a = c.args in
    let first = a.first.now in
    let o = c.refuse.result in
    let refused = c.refuse.ensures.0 in
    record {
      result_value = (λ k blocks second bytes.
          goes_refused k blocks first second bytes o NoCheckpoint refused
          ∙ sym (none_passes k a.areas first first a.passed c.if-not-passed.true));
      by_index = (λ second bytes. knows_refused first second bytes o refused);
    }

pub choose_pack-requires : goal.choose_pack-requires
choose_pack-requires c =
    record { areas_fit = (c.requires.0, omega arith); first_len = (c.requires.1, has_passed c.args.first.now c.args.passed (passed_by c) c.requires.2) }

pub returns : goal.returns
returns c =
    let here = goal.at.returns c in
    let a = c.args in
    let first = a.first.now in
    record {
      result_value = λ k blocks second bytes.
          c.choose_pack.ensures.result_value k blocks first second bytes refl
          ∙ sym (first_alone k a.areas first first a.passed (passed_by here.Else-not-passed));
      by_index = λ second bytes. c.choose_pack.ensures.by_index first second bytes;
    }
