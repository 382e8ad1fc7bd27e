-- The rules of request K1, segment counts, by number: what the definitions compute on both sides of each boundary, and what the
-- request's sentence says. 1 is yes, 0 no. What isn't written out of a block is zeros, as every byte past a list's end counts as 0.
use Rattle.std.specs.Prelude.{refl, List, [], ◌∷◌, ◌++◌, ℕ, ◌+◌, ◌-◌, ◌*◌, ◌/◌, ◌%◌, length, replicate, eqb}
use mathlib.Core.List as List
use Rattle.field.specs.Number.{le16, le32}
use Rattle.field.specs.Map.{top_bit}
use Rattle.field.specs.Card.{Card}
use Rattle.field.specs.Choice.{choose}
use Rattle.list.specs.Lists.{bytes_of, over}
use Rattle.superblock.specs.declared.Areas.{Areas}
use Rattle.checkpoint.specs.declared.Volume.{Volume}
use Rattle.checkpoint.specs.Volume.{Opening, Opened, Refused}
use Rattle.journal.specs.Journal.{search_from, journal_find}
use Rattle.sit.specs.Entry.{valid_count, ones_below, map_ones}
use Rattle.sit.specs.Table.{sit_journal_of, table_block, table_address, in_table, sit_entry}
use Rattle.sit.specs.Opening.{sit_journal_readable, with_sit}
use Rattle.segment_report.specs.Off.{is_off, segments_off, ones_in_all}
use Rattle.segment_report.specs.Report.{Reported, off_on, report_of, report_from}
use Rattle.bench_sheet.specs.Line.{Line, ◌is◌, Holds, yes}

-- ---- an entry

-- "16-bit word with the count in bits 0 to 9 and the type above, 64 bytes of map, time"
abbrev entry_of : ℕ → List ℕ → List ℕ
entry_of word map = (word % 256 ∷ word / 256 ∷ []) ++ map ++ replicate (64 - length map) 0 ++ replicate 8 255

abbrev entry_rules : List Line
entry_rules =
    -- "the count in bits 0 to 9 and the type above"
    (List.map (λ word. valid_count (entry_of word [])) (255 ∷ 256 ∷ 512 ∷ 513 ∷ 1023 ∷ 1024 ∷ 1536 ∷ 65535 ∷ [])
    is (255 ∷ 256 ∷ 512 ∷ 513 ∷ 1023 ∷ 0 ∷ 512 ∷ 1023 ∷ []))
    -- "the number of ones in its map", of 64 bytes
    ∷ (List.map (λ byte. map_ones (entry_of 65535 (byte ∷ []))) (0 ∷ 1 ∷ 128 ∷ 129 ∷ 254 ∷ 255 ∷ []) is (0 ∷ 1 ∷ 1 ∷ 2 ∷ 7 ∷ 8 ∷ []))
    ∷ ((map_ones (entry_of 0 (replicate 63 0 ++ (1 ∷ []))) ∷ map_ones (entry_of 0 (replicate 64 255)) ∷ []) is (1 ∷ 512 ∷ []))
    -- "whose count isn't the number of ones in its map"; the type isn't consulted
    ∷ (List.map (λ word. yes (is_off (entry_of word (replicate 64 255)))) (511 ∷ 512 ∷ 513 ∷ 1023 ∷ 1536 ∷ []) is (1 ∷ 0 ∷ 1 ∷ 1 ∷ 0 ∷ []))
    ∷ []

-- ---- where entries are

-- a SIT area from block 1536 with so many segments, and so many main segments; a pack at 512 with the flags, whose journal block is 517;
-- the pack's total isn't consulted
abbrev areas : ℕ → ℕ → Areas
areas sitSegments mainSegments =
    record {
      checkpoint = 512;
      sit = 1536;
      sit_segments = sitSegments;
      nat = 1536 + 512 * sitSegments;
      nat_segments = 2;
      ssa = 2560 + 512 * sitSegments;
      ssa_segments = 0;
      main = 2560 + 512 * sitSegments;
      main_segments = mainSegments;
      main_end = 2560 + 512 * sitSegments + 512 * mainSegments;
    }

abbrev volume : ℕ → ℕ → ℕ → Volume
volume sitSegments mainSegments flags =
    record {
      areas = areas sitSegments mainSegments;
      pack = 512;
      total = 16;
      flags = flags;
      nat_map = 192 + 32 * sitSegments;
      journal_block = 517;
      journal_at = choose (eqb (flags / 4 % 2) 1) 0 3584;
    }

-- a card whose SIT map starts with a byte, and whose other blocks are as given
abbrev card : ℕ → (ℕ → List ℕ) → Card
card byte block = record { blocks = 65536; block = λ b. choose (eqb b 512) (replicate 192 0 ++ (byte ∷ [])) (block b) }

-- the address of a segment's table block, by the SIT map's first byte and the number of SIT segments
abbrev placed : ℕ → ℕ → ℕ → ℕ
placed byte sitSegments segment = table_address (card byte (λ b. [])) (volume sitSegments 57 4) (table_block segment)

abbrev place_rules : List Line
place_rules =
    -- "55 to a block"; "table block b, plus 256 × SIT segments if its bit is set": SIT's second copies follow all of the first
    (List.map (placed 0 2) (0 ∷ 54 ∷ 55 ∷ 439 ∷ 440 ∷ []) is (1536 ∷ 1536 ∷ 1537 ∷ 1543 ∷ 1544 ∷ []))
    ∷ (List.map (placed 255 2) (0 ∷ 54 ∷ 55 ∷ 439 ∷ 440 ∷ []) is (2048 ∷ 2048 ∷ 2049 ∷ 2055 ∷ 1544 ∷ []))
    ∷ (List.map (placed 255 4) (0 ∷ 55 ∷ 28160 ∷ []) is (2560 ∷ 2561 ∷ 2048 ∷ []))
    -- "bit 0 is the top bit of a byte"
    ∷ ((placed 128 2 0 ∷ placed 128 2 55 ∷ placed 1 2 385 ∷ placed 1 2 384 ∷ []) is (2048 ∷ 1537 ∷ 2055 ∷ 1542 ∷ []))
    -- "at most 6; more is 8"
    ∷ (List.map (λ n. yes (sit_journal_readable (n ∷ 0 ∷ []))) (0 ∷ 6 ∷ 7 ∷ []) is (1 ∷ 1 ∷ 0 ∷ []))
    ∷ (List.map (λ n. yes (sit_journal_readable (0 ∷ n ∷ []))) (0 ∷ 1 ∷ []) is (1 ∷ 0 ∷ []))
    ∷ []

-- ---- a card with a journal

-- an entry of a journal: the segment's number, then its SIT entry
abbrev journaled : ℕ → ℕ → List ℕ
journaled segment word = bytes_of (segment ∷ []) ++ entry_of word []

-- a SIT journal of so many entries, of four that are there: segment 1 twice, segment 54, and segment 2
abbrev journal : ℕ → List ℕ
journal n = (n ∷ 0 ∷ []) ++ journaled 1 7 ++ journaled 1 8 ++ journaled 54 9 ++ journaled 2 3

-- the table: in its first block segment 0 counts 2 of 2 ones, segment 1 none of 8, segment 54 counts 5; in its second block segment 55 counts
-- 4 and segment 56 counts 1,023; in that block's second copy segment 55 counts 6
abbrev table : ℕ → List ℕ
table b =
    choose (eqb b 1536) (entry_of 2 (192 ∷ []) ++ entry_of 0 (255 ∷ []) ++ replicate 3848 0 ++ entry_of 5 [])
    (choose (eqb b 1537) (entry_of 4 [] ++ entry_of 1023 []) (choose (eqb b 2049) (entry_of 6 []) []))

-- with the flag of a compact pack the journal is in block 517; else that is hot data's summary, and cold data's is block 519
abbrev blocks : ℕ → ℕ → ℕ → List ℕ
blocks flags n b =
    choose (eqb (flags / 4 % 2) 1) (choose (eqb b 517) (replicate 507 0 ++ journal n) (table b))
    (choose (eqb b 519) (replicate 3584 0 ++ journal n) (choose (eqb b 517) (replicate 3584 0 ++ journal 1) (table b)))

-- what the entry of a segment counts, by the SIT map's first byte, the flags and the journal's count
abbrev counted : ℕ → ℕ → ℕ → ℕ → ℕ
counted byte flags n segment = valid_count (sit_entry (card byte (blocks flags n)) (volume 2 57 flags) segment)

abbrev entries_rules : List Line
entries_rules =
    -- "55 to a block, 74 bytes"
    (List.map (counted 0 4 0) (0 ∷ 1 ∷ 2 ∷ 54 ∷ 55 ∷ 56 ∷ []) is (2 ∷ 0 ∷ 0 ∷ 5 ∷ 4 ∷ 1023 ∷ []))
    -- "from the SIT journal .. if it is there (78-byte entries ..; the first of equals decides)"
    ∷ (List.map (counted 0 4 1) (1 ∷ 2 ∷ 54 ∷ []) is (7 ∷ 0 ∷ 5 ∷ []))
    ∷ (List.map (counted 0 4 2) (1 ∷ 2 ∷ 54 ∷ []) is (7 ∷ 0 ∷ 5 ∷ []))
    ∷ (List.map (counted 0 4 3) (1 ∷ 2 ∷ 54 ∷ []) is (7 ∷ 0 ∷ 9 ∷ []))
    ∷ (List.map (counted 0 4 4) (1 ∷ 2 ∷ 54 ∷ []) is (7 ∷ 3 ∷ 9 ∷ []))
    -- "Compact packs hold that journal at byte 507, others at 3,584 of the summary two blocks after hot data": compact is flag 4
    ∷ (List.map (counted 0 5 3) (1 ∷ 2 ∷ 54 ∷ []) is (7 ∷ 0 ∷ 9 ∷ []))
    ∷ (List.map (counted 0 1 3) (1 ∷ 2 ∷ 54 ∷ []) is (7 ∷ 0 ∷ 9 ∷ []))
    ∷ (List.map (counted 0 0x23 3) (1 ∷ 2 ∷ 54 ∷ []) is (7 ∷ 0 ∷ 9 ∷ []))
    ∷ (List.map (counted 0 0 0) (1 ∷ 2 ∷ 54 ∷ []) is (0 ∷ 0 ∷ 5 ∷ []))
    -- "else from the table copy the SIT map names"
    ∷ (List.map (counted 64 4 0) (54 ∷ 55 ∷ 56 ∷ []) is (5 ∷ 6 ∷ 0 ∷ []))
    ∷ []

-- ---- the report on the card's first segments

-- the answer, the count, the valid blocks, and the list as it is left, of which so many bytes were lent, each a 9
abbrev leaves : Reported → List ℕ
leaves r = (r.numbers.answer ∷ r.numbers.count ∷ r.numbers.valid_blocks ∷ []) ++ r.list

abbrev report_on : ℕ → Opening → ℕ → List ℕ
report_on n opening room = leaves (report_from (card 0 (blocks 4 n)) (with_sit (card 0 (blocks 4 n)) opening) (replicate room 9))

abbrev opened_with : ℕ → Opening
opened_with mainSegments = Opened (volume 2 mainSegments 4)

abbrev report_rules : List Line
report_rules =
    -- "it writes, rising, each segment whose count isn't the number of ones in its map, and it answers 0 with how many and the ones in all
    -- maps; later entries .. stay"
    (report_on 0 (opened_with 3) 12 is (0 ∷ 1 ∷ 10 ∷ 1 ∷ 0 ∷ 0 ∷ 0 ∷ 9 ∷ 9 ∷ 9 ∷ 9 ∷ 9 ∷ 9 ∷ 9 ∷ 9 ∷ []))
    ∷ (report_on 4 (opened_with 3) 15 is (0 ∷ 2 ∷ 2 ∷ 1 ∷ 0 ∷ 0 ∷ 0 ∷ 2 ∷ 0 ∷ 0 ∷ 0 ∷ 9 ∷ 9 ∷ 9 ∷ 9 ∷ 9 ∷ 9 ∷ 9 ∷ []))
    ∷ (report_on 4 (opened_with 1) 4 is (0 ∷ 0 ∷ 2 ∷ 9 ∷ 9 ∷ 9 ∷ 9 ∷ []))
    ∷ (report_on 4 (opened_with 0) 0 is (0 ∷ 0 ∷ 0 ∷ []))
    -- "a lent list with one 32-bit number a main segment (shorter is 4, after 5 to 8)"; "That journal's 8"
    ∷ (report_on 4 (opened_with 3) 11 is ((4 ∷ 0 ∷ 0 ∷ []) ++ replicate 11 9))
    ∷ (report_on 7 (opened_with 3) 11 is ((8 ∷ 0 ∷ 0 ∷ []) ++ replicate 11 9))
    ∷ (report_on 7 (Refused 5) 1 is (5 ∷ 0 ∷ 0 ∷ 9 ∷ []))
    ∷ []

pub entry_rules_lem : Holds entry_rules
unfolding le16 top_bit valid_count ones_below is_off
entry_rules_lem = refl

pub place_rules_lem : Holds place_rules
unfolding le16 top_bit table_address sit_journal_readable
place_rules_lem = refl

pub entries_rules_lem : Holds entries_rules
unfolding le16 le32 top_bit bytes_of search_from journal_find valid_count sit_journal_of table_address in_table sit_entry
entries_rules_lem = refl

pub report_rules_lem : Holds report_rules
unfolding le16 le32 top_bit bytes_of over search_from journal_find valid_count ones_below sit_journal_of table_address in_table sit_entry sit_journal_readable
    is_off segments_off ones_in_all off_on report_of
report_rules_lem = refl
