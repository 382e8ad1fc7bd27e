-- The three ways that a report ends.
use mathlib.Core.Path.{◌≡◌}
use mathlib.Core.List.{List}
use Prim.Native.Nat.{ℕ, ◌/◌, ◌≤◌, ◌<◌}
use lib.ListN.{length}
use borrow.Author.Tests.{le-leb, lt-leb}
use Rattle.field.specs.Card.{card_of}
use Rattle.checkpoint.specs.declared.Volume.{Volume}
use Rattle.checkpoint.specs.Volume.{Opened, Refused}
use Rattle.sit.specs.Opening.{opened_with_sit}
use Rattle.segment_report.specs.Report.{refused_report, report_of, segment_report}

module _ (image list : List ℕ) where
  pub refused_by_opening : (n : ℕ) → opened_with_sit image ≡ Refused n → segment_report image list ≡ refused_report n list
  unfolding segment_report
  refused_by_opening n e = rw e

  module _ (v : Volume) (e : opened_with_sit image ≡ Opened v) where
    pub too_short : length list / 4 < v.areas.main_segments → segment_report image list ≡ refused_report 4 list
    unfolding segment_report
    too_short h = rw (e, lt-leb _ _ h)

    pub made : v.areas.main_segments ≤ length list / 4 → segment_report image list ≡ report_of (card_of image) v list
    unfolding segment_report
    made h = rw (e, le-leb _ _ h)

pub ruleset ways_of_ending = (refused_by_opening, too_short, made)
