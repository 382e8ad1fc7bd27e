-- The areas that the copy names, which fit 32 bits, or why the card is refused.
use mathlib.Core.Path.{◌≡◌, sym, ap, ◌∙◌}
use Rattle.answer.specs.Number.{refusal_number}
use Rattle.superblock.specs.Areas.{At, Refused, accepted}
use Rattle.superblock.specs.Search.{found_in}
use Rattle.ask_open.proofs.Cases.{areas_refused}
use Rattle.ask_open.proofs.Going.{goes_refused, to_areas}
use Rattle.ask_open.proofs.Knowing.{end_fits, accepted_fit, knows_refused}
use Rattle.ask_open.proofs.copy_passed.Goals as goal
use Rattle.ask_open.proofs.copy_passed.Goals.{In-Ok, In-Err}

-- the areas, or the refusal, are those of the copy's fields
areas_by : (k : In-Ok) → accepted k.args.s ≡ At k.in-Ok.areas
areas_by k = sym k.accept.ensures ∙ ap found_in k.in-Ok.is

refusal_by : (k : In-Err) → accepted k.args.s ≡ Refused (refusal_number k.in-Err.refusal)
refusal_by k = sym k.accept.ensures ∙ ap found_in k.in-Err.is

pub accept-requires : goal.accept-requires
accept-requires c = end_fits c.args.blocks c.ranges.blocks.fits c.args.s c.requires

pub returns-in-Ok : goal.returns-in-Ok
returns-in-Ok c =
    let here = goal.at.returns-in-Ok c in
    let areas = c.with_areas.ensures in
    let fit = accepted_fit c.args.blocks c.ranges.blocks.fits c.args.s c.requires (areas_by here.In-Ok) in
    record {
      result_value = λ k first second bytes. to_areas k c.args.blocks first second bytes c.with_areas.result c.args.s areas (areas_by here.In-Ok);
      by_index = λ first second bytes. rw areas fit;
    }

pub returns-in-Err : goal.returns-in-Err
returns-in-Err c =
    let here = goal.at.returns-in-Err c in
    let a = c.args in
    let o = c.refuse.result in
    let refused = c.refuse.ensures.0 in
    record {
      result_value = λ k first second bytes.
          goes_refused k a.blocks first second bytes o c.in-Err.refusal refused ∙ sym (areas_refused k a.s (refusal_by here.In-Err));
      by_index = λ first second bytes. knows_refused first second bytes o refused;
    }
