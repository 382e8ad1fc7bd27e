-- What the definitions compute of the card's segments.
use mathlib.Core.Path.{◌≡◌, refl}
use mathlib.Core.Bool.{true}
use mathlib.Core.List.{[]}
use Rattle.field.specs.Number.{le16, le32}
use Rattle.field.specs.Map.{top_bit}
use Rattle.journal.specs.Journal.{search_from, journal_find}
use Rattle.list.specs.Lists.{bytes_of}
use Rattle.sit.specs.Entry.{valid_count, ones_below}
use Rattle.sit.specs.Table.{sit_journal_of, table_address, in_table, sit_entry}
use Rattle.sit.specs.Opening.{sit_journal_readable}
use Rattle.segment_report.specs.Off.{is_off, segments_off, ones_in_all}
use Rattle.sample_card.specs.Image.{filled, pack, journal, sit_block, runs, block_in, card}
use Rattle.sample_card.specs.Volume.{volume}

-- the SIT journal has no entry
pub sit_journal_readable_lem : sit_journal_readable (sit_journal_of card volume) ≡ true
unfolding runs block_in journal filled bytes_of le16 sit_journal_of sit_journal_readable
sit_journal_readable_lem = refl

-- the segments that are off, and the ones in all maps
pub segments : (segments_off (sit_entry card volume) 1 ≡ []) × (ones_in_all (sit_entry card volume) 1 ≡ 9)
unfolding runs block_in pack journal sit_block filled bytes_of le16 le32 top_bit search_from journal_find valid_count ones_below sit_journal_of table_address
    in_table
    sit_entry is_off segments_off ones_in_all
segments = (refl, refl)
