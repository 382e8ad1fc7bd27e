-- Opening a card for a call that reads SIT entries: as for every call, and then its SIT journal.
use Rattle.std.specs.Prelude.{List, Bool, ℕ, ◌*◌, ◌≤◌}
use Rattle.field.specs.Number.{le16}
use Rattle.field.specs.Card.{Card, card_of}
use Rattle.field.specs.Choice.{choose}
use Rattle.checkpoint.specs.declared.Volume.{Volume}
use Rattle.checkpoint.specs.Volume.{Opening, Opened, Refused, VolumeIn, opened_image}
use Rattle.journal.specs.Journal.{count_within}
use Rattle.sit.specs.Table.{sit_journal_of}

-- "at most 6; more is 8"
unfoldable pub sit_journal_readable : List ℕ → Bool
sit_journal_readable journal = count_within 6 journal

-- "That journal's 8 is only for calls that read SIT entries."
abbrev pub with_sit : Card → Opening → Opening
with_sit card (Opened v) = choose (sit_journal_readable (sit_journal_of card v)) (Opened v) (Refused 8)
with_sit card (Refused answer) = Refused answer

-- an image's volume, or the first of 4 to 8 that applies; its SIT journal's 8 comes last
unfoldable pub opened_with_sit : List ℕ → Opening
opened_with_sit image = with_sit (card_of image) (opened_image image)

-- what holds of a volume that was opened so: what is read for a segment's entry lies inside the card, and "Every main segment has a
-- place there": 55 entries in each block of the first copies
pub record SitIn (card : Card) (v : Volume) : Type 0 where
  pub volume : VolumeIn card v
  pub journal_count : le16 (sit_journal_of card v) 0 ≤ 6
  pub every_place : v.areas.main_segments ≤ 55 * (256 * v.areas.sit_segments)
