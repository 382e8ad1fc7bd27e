use Prim.Native.Nat.{ℕ, ◌<◌}
use lib.ListN.{get_or}
use Rattle.checkpoint.specs.OpenImage.{card_in}
use Rattle.sit.specs.Table.{sit_entry}
use Rattle.segment_report.specs.Report.{reported}
use Rattle.segment_report.proofs.Tallying.{Tallied}
use Rattle.segment_report.proofs.report_opened.Given as goal

abbrev pub invariant-loop-segment : goal.invariant-loop-segment
invariant-loop-segment l =
    Tallied (sit_entry (card_in l.table.card) l.table.card.volume) l.initial.list l.segment (reported l.tally l.list)
    × ((k : ℕ) → get_or l.list k 0 < 256)
