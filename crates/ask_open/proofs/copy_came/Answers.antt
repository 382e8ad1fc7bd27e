-- A copy that passes gives its areas; if it fails, the second copy is asked for, or the answer is 5.
use mathlib.Core.Path.{◌≡◌, ap, sym, ◌∙◌}
use mathlib.Core.Bool.{true, false}
use Rattle.answer.specs.declared.Refusal.TheVariants.{NoSuperblock}
use Rattle.superblock.specs.Superblock.{copy_of, superblock_of, passes}
use Rattle.superblock.specs.Areas.{accepted}
use Rattle.superblock.proofs.Finding.{passed, failed}
use Rattle.asking.specs.Open.{areas_ask}
use Rattle.ask_open.proofs.Cases.{copy_passes_lem, second_fails}
use Rattle.ask_open.proofs.Going.{goes_refused, to_second_copy}
use Rattle.ask_open.proofs.Knowing.{copy_fields, knows_refused}
use Rattle.ask_open.proofs.copy_came.Goals as goal
use Rattle.ask_open.proofs.copy_came.Goals.{In-None, In-Some}

-- the copy passes, with these fields
passed_by : (k : In-Some) → (passes k.args.blocks (copy_of k.args.bytes.now) ≡ true) × (k.in-Some.s ≡ superblock_of (copy_of k.args.bytes.now))
passed_by k =
    passed k.args.blocks (copy_of k.args.bytes.now) k.try_copy.ensures k.in-Some.is

-- or it fails
failed_by : (k : In-None) → passes k.args.blocks (copy_of k.args.bytes.now) ≡ false
failed_by k =
    failed k.args.blocks (copy_of k.args.bytes.now) k.try_copy.ensures k.in-None.is

pub copy_passed-requires : goal.copy_passed-requires
copy_passed-requires c =
    rw (passed_by c).1 (copy_fields c.args.blocks (copy_of c.args.bytes.now) (passed_by c).0)

pub returns-then-second_copy : goal.returns-then-second_copy
returns-then-second_copy c =
    let a = c.args in
    let bytes = c.args.bytes.now in
    let o = c.refuse.result in
    let refused = c.refuse.ensures.0 in
    record {
      result_value = λ k first second.
          goes_refused k a.blocks first second bytes o NoSuperblock refused
          ∙ sym (second_fails k a.blocks bytes a.second_copy c.if-second_copy.true (failed_by (goal.at.returns-then-second_copy c).In-None));
      by_index = λ first second. knows_refused first second bytes o refused;
    }

pub returns-in-Some : goal.returns-in-Some
returns-in-Some c =
    let a = c.args in
    let bytes = c.args.bytes.now in
    let same = passed_by (goal.at.returns-in-Some c).In-Some in
    record {
      result_value = λ k first second.
          c.copy_passed.ensures.result_value k first second bytes
          ∙ ap (λ s. areas_ask k (accepted s)) same.1 ∙ sym (copy_passes_lem k a.blocks bytes a.second_copy same.0);
      by_index = λ first second. c.copy_passed.ensures.by_index first second bytes;
    }

pub returns-else-second_copy : goal.returns-else-second_copy
returns-else-second_copy c =
    let here = goal.at.returns-else-second_copy c in
    let a = c.args in
    record {
      result_value = λ k first second.
          to_second_copy k a.blocks first second c.args.bytes.now c.no_volume.result a.second_copy c.if-second_copy.false (failed_by here.In-None);
      by_index = λ first second. tt;
    }
