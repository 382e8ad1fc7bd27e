-- A segment's SIT entry: what the SIT journal holds decides, and otherwise the table.
use Rattle.std.specs.Prelude.{List, ℕ, ◌+◌, ◌*◌, ◌/◌, ◌%◌, take, drop, eqb, Option, Some, None}
use Rattle.field.specs.Map.{top_bit}
use Rattle.field.specs.Card.{Card}
use Rattle.field.specs.Choice.{choose}
use Rattle.superblock.specs.declared.Areas.{Areas}
use Rattle.checkpoint.specs.declared.Volume.{Volume}
use Rattle.checkpoint.specs.Volume.{is_compact}
use Rattle.journal.specs.Journal.{journal_find}

-- The SIT journal, from its start to its block's end. A pack that isn't compact has near its end a block, the summary, for each log that
-- is being written: hot, warm and cold data, in this order. Each has a journal from byte 3,584 on, NAT's in hot data's, which is
-- document 01's journal block, and SIT's in cold data's.
-- "Compact packs hold that journal at byte 507, others at 3,584 of the summary two blocks after hot data"
unfoldable pub sit_journal_of : Card → Volume → List ℕ
sit_journal_of card v =
    choose (is_compact v) (drop 507 (card.block v.journal_block)) (drop 3584 (card.block (v.journal_block + 2)))

-- "55 to a block": the table block that has a segment's entry
abbrev pub table_block : ℕ → ℕ
table_block segment = segment / 55

-- "Copies: table block b, plus 256 × SIT segments if its bit is set": the second copies follow all of the first
abbrev pub copy_address : Areas → ℕ → ℕ → ℕ
copy_address a b bit = a.sit + b + choose (eqb bit 1) (256 * a.sit_segments) 0

-- "The SIT map starts at 192" of the pack's first block
abbrev pub sit_map_in : List ℕ → List ℕ
sit_map_in first = drop 192 first

abbrev pub sit_map_of : Card → Volume → List ℕ
sit_map_of card v = sit_map_in (card.block v.pack)

-- the address of "the table copy the SIT map names"
unfoldable pub table_address : Card → Volume → ℕ → ℕ
table_address card v b = copy_address v.areas b (top_bit (sit_map_of card v) b)

-- the 74 bytes of an entry that start at an offset
abbrev pub entry_at : List ℕ → ℕ → List ℕ
entry_at bytes at = take 74 (drop at bytes)

-- a segment's entry in the table
unfoldable pub in_table : Card → Volume → ℕ → List ℕ
in_table card v segment = entry_at (card.block (table_address card v (table_block segment))) (74 * (segment % 55))

-- a journal's "78-byte entries" are the segment's number, then its entry
abbrev pub or_table : List ℕ → Option ℕ → List ℕ → List ℕ
or_table journal (Some at) other = entry_at journal (at + 4)
or_table journal None other = other

-- a main segment's SIT entry: "from the SIT journal of the cold-data summary if it is there .., else from the table copy"
unfoldable pub sit_entry : Card → Volume → ℕ → List ℕ
sit_entry card v segment = or_table (sit_journal_of card v) (journal_find 78 (sit_journal_of card v) segment) (in_table card v segment)
