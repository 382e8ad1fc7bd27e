-- What a segment report answers, and the lent list as it leaves it.
use Rattle.std.specs.Prelude.{List, Bool, ℕ, ◌+◌, ◌*◌, ◌/◌, length, leb, Result, Ok, Err}
use Rattle.field.specs.Number.{put32_at}
use Rattle.field.specs.Card.{Card, card_of}
use Rattle.field.specs.Choice.{choose}
use Rattle.checkpoint.specs.declared.Volume.{Volume}
use Rattle.checkpoint.specs.Volume.{Opening, Opened, Refused}
use Rattle.answer.specs.declared.Refusal.{Refusal}
use Rattle.answer.specs.Number.{refusal_number}
use Rattle.list.specs.Lists.{over}
use Rattle.sit.specs.Entry.{map_ones}
use Rattle.sit.specs.Table.{sit_entry}
use Rattle.sit.specs.Opening.{opened_with_sit}
use Rattle.segment_report.specs.declared.Segments.{Segments}
use Rattle.segment_report.specs.Off.{is_off, segments_off, ones_in_all}

-- a report's numbers, and the lent list as it leaves it
pub record Reported : Type 0 where
  pub numbers : Segments
  pub list : List ℕ

abbrev pub reported : Segments → List ℕ → Reported
reported numbers list = record { numbers = numbers; list = list }

-- "after a refusal, the whole list stay[s]", and a number that the answer doesn't name is 0
abbrev pub refused_numbers : ℕ → Segments
refused_numbers answer = record { answer = answer; count = 0; valid_blocks = 0 }

-- the code's answer as the numbers: a report's, or those of an error
abbrev pub numbers_in : Result Segments Refusal → Segments
numbers_in (Ok numbers) = numbers
numbers_in (Err refusal) = refused_numbers (refusal_number refusal)

abbrev pub refused_report : ℕ → List ℕ → Reported
refused_report answer list = reported (refused_numbers answer) list

-- "a lent list with one 32-bit number a main segment (shorter is 4 ..)"
abbrev pub has_room : Volume → List ℕ → Bool
has_room v list = leb v.areas.main_segments (length list / 4)

-- the main segments of an opened card whose count is off
unfoldable pub off_on : Card → Volume → List ℕ
off_on card v = segments_off (sit_entry card v) v.areas.main_segments

-- "it writes, rising, each segment .. and it answers 0 with how many and the ones in all maps; later entries .. stay"
unfoldable pub report_of : Card → Volume → List ℕ → Reported
report_of card v list =
    reported
    (record { answer = 0; count = length (off_on card v); valid_blocks = ones_in_all (sit_entry card v) v.areas.main_segments })
    (over (off_on card v) list)

-- the room is asked for "after 5 to 8"
abbrev pub report_from : Card → Opening → List ℕ → Reported
report_from card (Opened v) list = choose (has_room v list) (report_of card v list) (refused_report 4 list)
report_from card (Refused answer) list = refused_report answer list

-- what a segment report answers of an image, and leaves of a lent list
unfoldable pub segment_report : List ℕ → List ℕ → Reported
segment_report image list = report_from (card_of image) (opened_with_sit image) list

-- For the code: a report of some segments with one more, whose ones are added, and which is listed behind the others if its count is
-- off. The meaning above doesn't use it.
unfoldable pub with_segment : List ℕ → ℕ → Reported → Reported
with_segment entry segment r =
    let n : ℕ = r.numbers.count in
    let all : ℕ = r.numbers.valid_blocks + map_ones entry in
    choose (is_off entry)
    (reported (record { answer = r.numbers.answer; count = n + 1; valid_blocks = all }) (put32_at r.list (4 * n) segment))
    (reported (record { answer = r.numbers.answer; count = n; valid_blocks = all }) r.list)
