use native.Mathlib.Omega.{arith}
use mathlib.Core.Path.{◌≡◌}
use Rattle.segment_report.proofs.Tallying.{tallied_start, tallied_most, tallied_next, tallied_all}
use Rattle.segment_report.proofs.report_opened.Goals as goal

pub loop-segment-init : goal.loop-segment-init
loop-segment-init c = (tallied_start _ _, λ k. (c.type_inv.list k).fits)

pub add_segment-requires-clause-tally_bound : goal.add_segment-requires-clause-tally_bound
add_segment-requires-clause-tally_bound c = tallied_most _ c.loop-segment.invariant.0

pub loop-segment-preserved : goal.loop-segment-preserved
loop-segment-preserved c =
    let room = c.requires in
    (rw c.add_segment.ensures (tallied_next _ c.loop-segment.invariant.0 (omega arith)), λ b. (c.type_inv.list b).fits)

pub returns : goal.returns
returns c =
    let all : c.loop-segment.segment ≡ c.args.table.card.volume.areas.main_segments = omega arith in
    tallied_all _ _ (rw all at c.loop-segment.invariant.0) c.loop-segment.invariant.1 c.requires
