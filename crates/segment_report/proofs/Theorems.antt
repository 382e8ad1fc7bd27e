-- What is so of every segment report, whatever the image and the lent list. Each is stated over `segment_report`, the definition that
-- the contract cites.
use Prim.Native.Nat.{ℕ, ◌-◌, ◌/◌, ◌*◌, ◌<◌, ◌≤◌}
use native.Mathlib.Omega.{arith}
use mathlib.Core.Path.{◌≡◌, refl}
use mathlib.Core.Bool.{true, false}
use mathlib.Core.Logic.{◌⊎◌, inl, inr, ⊎_elim, ◌↔◌}
use mathlib.Core.List.{List, Memᴰ}
use lib.ListN.{length, drop}
use lib.Dec.{leb}
use borrow.Author.Tests.{leb-true, leb-false}
use Rattle.field.specs.Card.{card_of}
use Rattle.field.proofs.Choosing.{either}
use Rattle.superblock.specs.Shape.{most_blocks}
use Rattle.superblock.proofs.Shaped.{shape_card}
use Rattle.checkpoint.specs.declared.Volume.{Volume}
use Rattle.checkpoint.specs.Volume.{Opening, Opened, Refused}
use Rattle.checkpoint.proofs.Inside.{image_shaped, image_volume}
use Rattle.list.specs.Lists.{Rising, AllOf, listing, entries}
use Rattle.list.proofs.Written.{numbers_over, drop_over}
use Rattle.sit.specs.Entry.{valid_count, map_ones}
use Rattle.sit.specs.Table.{table_block, table_address, sit_entry}
use Rattle.sit.specs.Opening.{opened_with_sit}
use Rattle.sit.proofs.Openings.{opened_image_lem, opened_sit, refusals_sit}
use Rattle.sit.proofs.Inside.{block_in_table, address_inside}
use Rattle.segment_report.specs.Off.{segments_off, ones_in_all}
use Rattle.segment_report.specs.Report.{Reported, refused_report, off_on, report_of, segment_report}
use Rattle.segment_report.proofs.Ends.{refused_by_opening, too_short, made}
use Rattle.segment_report.proofs.Listing.{Off, ones_in_all_most, off_below, off_rising, off_exactly, none_listed}

-- the list as the report left it, up to its count
abbrev pub list_left : Reported → List ℕ
list_left r = entries (listing r.list r.numbers.count)

-- A report ends in one of three ways: the image, or its SIT journal, is refused; the list is too short; or it is made.
pub data ReportEnds (image list : List ℕ) (r : Reported) : Type 0 where
  refused : (answer : ℕ) → opened_with_sit image ≡ Refused answer → r ≡ refused_report answer list → ReportEnds image list r
  short : (v : Volume) → opened_with_sit image ≡ Opened v → length list / 4 < v.areas.main_segments
      → r ≡ refused_report 4 list → ReportEnds image list r
  report : (v : Volume) → opened_with_sit image ≡ Opened v → v.areas.main_segments ≤ length list / 4
      → r ≡ report_of (card_of image) v list → ReportEnds image list r

module _ (image list : List ℕ) where
  pub ends : ReportEnds image list (segment_report image list)
  ends = go (opened_with_sit image) refl
    where
      go : (o : Opening) → opened_with_sit image ≡ o → ReportEnds image list (segment_report image list)
      go (Refused n) e = refused n e (refused_by_opening image list n e)
      go (Opened v) e =
          ⊎_elim (λ (p : leb v.areas.main_segments (length list / 4) ≡ true).
          report v e (leb-true _ _ p) (made image list v e (leb-true _ _ p)))
          (λ (p : leb v.areas.main_segments (length list / 4) ≡ false).
          short v e (leb-false _ _ p) (too_short image list v e (leb-false _ _ p)))
          (either (leb v.areas.main_segments (length list / 4)))

  -- a report that isn't made says so by 4 to 8
  data Answered (r : Reported) : Type 0 where
    refusal : (answer : ℕ) → 4 ≤ answer → answer ≤ 8 → r ≡ refused_report answer list → Answered r
    reports : (v : Volume) → opened_with_sit image ≡ Opened v → r ≡ report_of (card_of image) v list → Answered r

  answered : Answered (segment_report image list)
  answered = go ends
    where
      go : {r : Reported} → ReportEnds image list r → Answered r
      go (refused n e f) = let few = refusals_sit image n e in refusal n few.0 few.1 f
      go (short v e h f) = refusal 4 (omega arith) (omega arith) f
      go (report v e h f) = reports v e f

  -- "it answers 0", or one of 4 to 8
  pub answers : ((segment_report image list).numbers.answer ≡ 0)
      ⊎ ((4 ≤ (segment_report image list).numbers.answer) × ((segment_report image list).numbers.answer ≤ 8))
  unfolding report_of
  answers = go answered
    where
      go : {r : Reported} → Answered r → (r.numbers.answer ≡ 0) ⊎ ((4 ≤ r.numbers.answer) × (r.numbers.answer ≤ 8))
      go (refusal n l m e) = rw e (inr (l, m))
      go (reports v o e) = rw e (inl refl)

  -- "after a refusal, the whole list stay[s]"
  pub untouched : 4 ≤ (segment_report image list).numbers.answer → (segment_report image list).list ≡ list
  unfolding report_of
  untouched = go answered
    where
      go : {r : Reported} → Answered r → 4 ≤ r.numbers.answer → r.list ≡ list
      go (refusal n l m e) h = rw e
      go (reports v o e) h = absurd (let f = rw e at h in omega arith)

  -- a report that was made: answer 0
  module _ (v : Volume) (opens : opened_with_sit image ≡ Opened v) (done : (segment_report image list).numbers.answer ≡ 0) where
    abbrev entry : ℕ → List ℕ
    entry = sit_entry (card_of image) v

    abbrev segments : ℕ
    segments = v.areas.main_segments

    is_report : segment_report image list ≡ report_of (card_of image) v list
    unfolding report_of
    is_report = go answered
      where
        go : Answered (segment_report image list) → segment_report image list ≡ report_of (card_of image) v list
        go (refusal n l m e) = absurd (let f : n ≡ 0 = rw e at done in omega arith)
        go (reports u o e) = let same : u ≡ v = cc in rw same at e

    -- what it lists, up to its count
    pub listed_are : list_left (segment_report image list) ≡ segments_off entry segments
    unfolding report_of off_on
    listed_are = rw is_report (numbers_over (segments_off entry segments) list)

    -- "rising": each segment once
    pub rises : Rising (list_left (segment_report image list))
    rises = rw listed_are (off_rising entry segments)

    -- its entries are main segments
    pub in_main_area : AllOf (λ s. s < segments) (list_left (segment_report image list))
    in_main_area = rw listed_are (off_below entry segments)

    -- "each segment whose count isn't the number of ones in its map", and no other
    pub exactly : (s : ℕ) → Memᴰ s (list_left (segment_report image list)) ↔ ((s < segments) × Off (entry s))
    exactly s = rw listed_are (off_exactly entry segments s)

    -- "how many": the count is the list's length
    pub how_many : (segment_report image list).numbers.count ≡ length (segments_off entry segments)
    unfolding report_of off_on
    how_many = rw is_report

    -- "later entries .. stay"
    pub later_stay : let n = (segment_report image list).numbers.count in drop (4 * n) (segment_report image list).list ≡ drop (4 * n) list
    unfolding report_of off_on
    later_stay = rw is_report (drop_over (segments_off entry segments) list)

    -- no segment is off exactly if the count is 0
    pub none_off : ((segment_report image list).numbers.count ≡ 0) ↔ ((s : ℕ) → s < segments → valid_count (entry s) ≡ map_ones (entry s))
    none_off = rw how_many (none_listed entry segments)

    -- "the ones in all maps": at most all blocks of the main area
    pub valid_blocks_lem : ((segment_report image list).numbers.valid_blocks ≡ ones_in_all entry segments)
        × ((segment_report image list).numbers.valid_blocks ≤ 512 * segments)
    unfolding report_of
    valid_blocks_lem = rw is_report (refl, ones_in_all_most entry segments)

  -- "Every main segment has a place there": its table block is one of the 256 × SIT segments that have two copies, and the copy that the
  -- map names lies in the SIT area
  pub every_segment_has_a_place : (v : Volume) → opened_with_sit image ≡ Opened v → (s : ℕ) → s < v.areas.main_segments
      → (table_block s < 256 * v.areas.sit_segments) × (v.areas.sit ≤ table_address (card_of image) v (table_block s))
      × (table_address (card_of image) v (table_block s) < v.areas.nat)
  every_segment_has_a_place v e s h =
      let sit = opened_sit image v e in
      let inside = address_inside (card_of image) v sit s h in
      (block_in_table (card_of image) v sit s h, inside.0, inside.1)

  -- a list of 8,185 numbers has room for every card: before its main area lie two blocks of superblocks, and two segments each of
  -- checkpoint, SIT and NAT
  pub segments_most : (v : Volume) → opened_with_sit image ≡ Opened v → v.areas.main_segments ≤ (most_blocks - 2) / 512 - 6
  segments_most v e =
      let opens = opened_image_lem image v e in
      let a = (image_volume image v opens).places.areas_in in
      let shape = shape_card image (image_shaped image v opens) in
      omega arith
