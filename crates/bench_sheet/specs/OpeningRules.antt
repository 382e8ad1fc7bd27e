-- The rules for opening a card, by number: what the definitions compute on both sides of each boundary, and what the sentence of
-- document 01, or of a request, says. 1 is yes, 0 no; of two packs it is which.
use Rattle.std.specs.Prelude.{refl, List, [], ◌∷◌, ◌++◌, ℕ, zero, suc, ◌+◌, ◌-◌, ◌*◌, ◌/◌, length, set, replicate, eqb, leb, None}
use mathlib.Core.List as List
use Rattle.field.specs.Number.{le16, le32, le64}
use Rattle.field.specs.Bytes.{same_at}
use Rattle.field.specs.Card.{Card}
use Rattle.field.specs.Choice.{choose}
use Rattle.list.specs.Lists.{bytes_of}
use Rattle.journal.specs.Journal.{search_from, twice_among, names_twice}
use Rattle.superblock.specs.declared.Areas.{Areas}
use Rattle.superblock.specs.Areas as f
use Rattle.superblock.specs.Shape.{in_shape}
use Rattle.superblock.specs.Superblock.{superblock_of, logs_pass, units_pass, counts_pass, areas_pass, ends_pass, fields_pass, passes}
use Rattle.superblock.specs.Areas.{found}
use Rattle.checkpoint.specs.declared.Checkpoint.{Checkpoint}
use Rattle.checkpoint.specs.Volume.{Opening, Opened, Refused, maps_readable, header_readable, journal_readable, open_pack, open_chosen, open_areas}
use Rattle.checkpoint.specs.Checkpoint.{checkpoint_of}
use Rattle.checkpoint.specs.Pack.{newer}
use Rattle.checkpoint.specs.Journal.{damaged, journal_in, journal_placed, journal_offset}
use Rattle.bench_sheet.specs.Line.{Line, ◌is◌, Holds, yes}
use Rattle.bench_sheet.specs.Volume004.{words, superblock, card004, main_numbers}

-- ---- the superblock: 004's copy with other numbers

abbrev passing : List ℕ → ℕ
passing numbers = yes (passes 25600 (bytes_of numbers))

-- another number at a byte offset of the copy
abbrev with : ℕ → ℕ → ℕ
with offset x = passing (set words (offset / 4) x)

-- both sector logs
abbrev sectors : ℕ → ℕ → ℕ
sectors size count = passing (set (set words 2 size) 3 count)

-- other SIT and NAT counts, with all that follows them moved
abbrev counts : ℕ → ℕ → ℕ
counts sit nat =
    let natStart : ℕ = 1536 + 512 * sit in
    let ssaStart : ℕ = natStart + 512 * nat in
    passing (set (set (set (set (set (set words 14 sit) 15 nat) 17 (46 - (sit + nat))) 21 natStart) 22 ssaStart) 23 (ssaStart + 512))

-- the areas all moved, to start at a block
abbrev from : ℕ → ℕ
from start =
    passing
    (set (set (set (set (set (set words 18 start) 19 start) 20 (start + 1024)) 21 (start + 2048)) 22 (start + 3072)) 23 (start + 3584))

-- the same with a segment less, and two less in the main area, so that there is room for areas to move
abbrev roomy : List ℕ
roomy = set (set words 12 48) 17 40

-- SIT, NAT, SSA and main area, of which those from one on (0 is SIT) start x − 1 blocks later
abbrev moved : ℕ → ℕ → ℕ
moved x area =
    let by : ℕ → ℕ = λ k. choose (leb area k) x 1 in
    passing (set (set (set (set roomy 20 (1535 + by 0)) 21 (2559 + by 1)) 22 (3583 + by 2)) 23 (4095 + by 3))

-- so many checkpoint segments, with all that follows them moved
abbrev checkpoints : ℕ → ℕ
checkpoints n =
    let sit : ℕ = 512 + 512 * n in
    passing (set (set (set (set (set roomy 13 n) 20 sit) 21 (sit + 1024)) 22 (sit + 2048)) 23 (sit + 2560))

abbrev on_card : ℕ → ℕ
on_card blocks = yes (passes blocks (bytes_of words))

-- what is found with such copies in blocks 0 and 1
abbrev copies : List ℕ → List ℕ → List ℕ
copies first second = main_numbers (found (card004 (λ b. choose (eqb b 0) first second)))

abbrev none : List ℕ
none = replicate 3072 0

-- an image of so many blocks
abbrev sized : ℕ → ℕ
sized blocks = yes (in_shape (4096 * blocks))

abbrev superblock_rules : List Line
superblock_rules =
    -- "An image has whole blocks, 2 to .. of them": lengths in bytes
    (List.map (λ bytes. yes (in_shape bytes)) (0 ∷ 4096 ∷ 8191 ∷ 8192 ∷ 8193 ∷ 17179869183 ∷ 17179869185 ∷ []) is (0 ∷ 0 ∷ 0 ∷ 1 ∷ 0 ∷ 0 ∷ 0 ∷ []))
    -- K8: "4,194,304 is in shape, one more is 4", and both sides of the limit before, in blocks
    ∷ (List.map sized (0 ∷ 1 ∷ 262144 ∷ 262145 ∷ 4194303 ∷ 4194304 ∷ 4194305 ∷ []) is (0 ∷ 0 ∷ 1 ∷ 1 ∷ 1 ∷ 1 ∷ 0 ∷ []))
    -- "The first four bytes must be 10 20 F5 F2."
    ∷ (List.map (with 0) (0xF2F52010 ∷ 0xF3F52010 ∷ 0xF2F52011 ∷ []) is (1 ∷ 0 ∷ 0 ∷ []))
    -- "block log 12, segment log 9; sector log 9 to 12 and the two sector logs sum to 12"
    ∷ (List.map (with 16) (11 ∷ 12 ∷ 13 ∷ []) is (0 ∷ 1 ∷ 0 ∷ []))
    ∷ (List.map (with 20) (8 ∷ 9 ∷ 10 ∷ []) is (0 ∷ 1 ∷ 0 ∷ []))
    ∷ ((sectors 8 4 ∷ sectors 9 3 ∷ sectors 12 0 ∷ sectors 13 0 ∷ []) is (0 ∷ 1 ∷ 1 ∷ 0 ∷ []))
    ∷ ((sectors 9 2 ∷ sectors 9 4 ∷ sectors 12 1 ∷ []) is (0 ∷ 0 ∷ 0 ∷ []))
    -- "sections and zones at least 1; inodes 3, 1, 2"
    ∷ (List.map (with 24) (0 ∷ 1 ∷ 2 ∷ []) is (0 ∷ 1 ∷ 1 ∷ []))
    ∷ (List.map (with 28) (0 ∷ 1 ∷ 2 ∷ []) is (0 ∷ 1 ∷ 1 ∷ []))
    ∷ ((with 96 2 ∷ with 96 4 ∷ with 100 0 ∷ with 100 2 ∷ with 104 1 ∷ with 104 3 ∷ []) is (0 ∷ 0 ∷ 0 ∷ 0 ∷ 0 ∷ 0 ∷ []))
    -- "checkpoint segments 2; SIT and NAT counts even and at least 2"
    ∷ (List.map checkpoints (1 ∷ 2 ∷ 3 ∷ []) is (0 ∷ 1 ∷ 0 ∷ []))
    ∷ (List.map (λ sit. counts sit 2) (0 ∷ 1 ∷ 2 ∷ 3 ∷ 4 ∷ []) is (0 ∷ 0 ∷ 1 ∷ 0 ∷ 1 ∷ []))
    ∷ (List.map (counts 2) (0 ∷ 1 ∷ 2 ∷ 3 ∷ 4 ∷ []) is (0 ∷ 0 ∷ 1 ∷ 0 ∷ 1 ∷ []))
    -- "segment 0 = checkpoint address, at least 2"
    ∷ (List.map (λ start. passing (set roomy 18 start)) (511 ∷ 512 ∷ 513 ∷ []) is (0 ∷ 1 ∷ 0 ∷ []))
    ∷ (List.map from (1 ∷ 2 ∷ 512 ∷ []) is (0 ∷ 1 ∷ 1 ∷ []))
    -- "each area starts where the one before ends": one block later and one earlier for SIT, NAT, SSA, main, and for none
    ∷ (List.map (moved 2) (0 ∷ 1 ∷ 2 ∷ 3 ∷ 4 ∷ []) is (0 ∷ 0 ∷ 0 ∷ 0 ∷ 1 ∷ []))
    ∷ (List.map (moved 0) (0 ∷ 1 ∷ 2 ∷ 3 ∷ 4 ∷ []) is (0 ∷ 0 ∷ 0 ∷ 0 ∷ 1 ∷ []))
    -- "main end ≤ segment 0 + 512 × segment count ≤ block count ≤ image blocks."
    ∷ (List.map (with 68) (41 ∷ 42 ∷ 43 ∷ []) is (1 ∷ 1 ∷ 0 ∷ []))
    ∷ (List.map (with 48) (48 ∷ 49 ∷ 50 ∷ []) is (0 ∷ 1 ∷ 0 ∷ []))
    ∷ (List.map (with 36) (25599 ∷ 25600 ∷ 25601 ∷ []) is (0 ∷ 1 ∷ 0 ∷ []))
    ∷ (List.map on_card (25599 ∷ 25600 ∷ 25601 ∷ []) is (0 ∷ 1 ∷ 1 ∷ []))
    -- "Sums are exact, never wrapped": 512 × 2^23 is 2^32
    ∷ ((with 68 (42 + 8388608) ∷ with 48 (49 + 8388608) ∷ []) is (0 ∷ 0 ∷ []))
    -- 6: "feature word not 0, or payload not 0"
    ∷ (copies (superblock 0 0) none is (4096 ∷ 42 ∷ 25600 ∷ []))
    ∷ (copies (superblock 1 0) none is (6 ∷ []))
    ∷ (copies (superblock 0 1) none is (6 ∷ []))
    -- "At byte 1,024 of block 0; only if that copy doesn't pass, of block 1." 5: "no superblock copy passes"
    ∷ (copies none (superblock 0 0) is (4096 ∷ 42 ∷ 25600 ∷ []))
    ∷ (copies (superblock 0 1) (superblock 0 0) is (6 ∷ []))
    ∷ (copies none none is (5 ∷ []))
    ∷ []

-- ---- the checkpoint

-- a pack's header: version, flags, total, start of summaries, map sizes
abbrev header : ℕ → ℕ → ℕ → ℕ → ℕ → ℕ → Checkpoint
header version flags total start sitMap natMap =
    record {
      checkpoint_ver = version;
      ckpt_flags = flags;
      cp_pack_total_block_count = total;
      cp_pack_start_sum = start;
      sit_ver_bitmap_bytesize = sitMap;
      nat_ver_bitmap_bytesize = natMap;
      checksum_offset = 4092;
    }

-- which of two packs wins by its version, the 1st or the 2nd; by `chosen_first` and `chosen_second` it is chosen if it passes
abbrev pack : ℕ → ℕ → ℕ
pack v w = choose (newer (header v 0 16 5 64 64) (header w 0 16 5 64 64)) 2 1

-- the areas of a card with such SIT and NAT counts, as far as a pack is held to them
abbrev areas : ℕ → ℕ → Areas
areas sit nat =
    record {
      checkpoint = 512;
      sit = 1536;
      sit_segments = sit;
      nat = 2560;
      nat_segments = nat;
      ssa = 3584;
      ssa_segments = 1;
      main = 4096;
      main_segments = 42;
      main_end = 25600;
    }

-- the journal block of a pack of 16 blocks, and its journal's first byte; its start of summaries is 5
abbrev journal : ℕ → List ℕ
journal flags = journal_in (header 5 flags 16 5 64 64) ∷ journal_offset (header 5 flags 16 5 64 64) ∷ []

abbrev placed : ℕ → ℕ → ℕ → ℕ
placed flags total start = yes (journal_placed (header 5 flags total start 64 64))

-- a pack with flags and map sizes, on a card with two SIT and two NAT segments
abbrev readable : ℕ → ℕ → ℕ → ℕ
readable flags sitMap natMap = yes (maps_readable (areas 2 2) (header 5 flags 16 5 sitMap natMap))

-- maps of the size that the counts ask for
abbrev fitting : ℕ → ℕ → ℕ
fitting sit nat = yes (maps_readable (areas sit nat) (header 5 0 16 5 (32 * sit) (32 * nat)))

-- whether a pack with the flags and fitting maps is read, by K9's two flags too
abbrev unmarked : ℕ → ℕ
unmarked flags = yes (header_readable (areas 2 2) (header 5 flags 16 5 64 64))

-- entries of a NAT journal with the numbers
abbrev entries : List ℕ → List ℕ
entries [] = []
entries (number ∷ numbers) = bytes_of (number ∷ []) ++ replicate 9 0 ++ entries numbers

-- so many different numbers
abbrev different : ℕ → List ℕ
different zero = []
different (suc n) = n ∷ different n

-- whether a journal is read that counts so many of its entries
abbrev counted : ℕ → List ℕ → ℕ
counted count numbers = yes (journal_readable ((count ∷ 0 ∷ []) ++ entries numbers))

-- a card with a compact pack at block 512: its first block, and a journal with the numbers in its block 5
abbrev pack_card : ℕ → List ℕ → Card
pack_card flags numbers =
    record {
      blocks = 25600;
      block =
          λ b.
          choose (eqb b 512) (replicate 132 0 ++ bytes_of (flags ∷ 16 ∷ 5 ∷ 0 ∷ 0 ∷ 0 ∷ 64 ∷ 64 ∷ 4092 ∷ []) ++ replicate 3928 0)
          (choose (eqb b 517) (length numbers ∷ 0 ∷ entries numbers) (replicate 4096 0));
    }

-- where the chosen pack's NAT map and journal are, or the answer
abbrev opening : Opening → List ℕ
opening (Opened v) = v.nat_map ∷ v.journal_block ∷ v.journal_at ∷ []
opening (Refused answer) = answer ∷ []

abbrev checkpoint_rules : List Line
checkpoint_rules =
    -- "Versions 5 and 5: first pack."; K3: "the second pack wins exactly if second minus first is above zero"
    ((pack 5 5 ∷ pack 5 6 ∷ pack 6 5 ∷ []) is (1 ∷ 2 ∷ 1 ∷ []))
    -- "Versions FFFFFFFFFFFFFFFF and 0 choose the 0.", from either side
    ∷ ((pack 0xFFFFFFFFFFFFFFFF 0 ∷ pack 0 0xFFFFFFFFFFFFFFFF ∷ []) is (2 ∷ 1 ∷ []))
    -- "A difference of exactly 2^63 keeps the first pack."; then one less and one more than that
    ∷ ((pack 5 0x8000000000000005 ∷ pack 0x8000000000000005 5 ∷ []) is (1 ∷ 1 ∷ []))
    ∷ ((pack 5 0x8000000000000004 ∷ pack 0x8000000000000004 5 ∷ []) is (2 ∷ 1 ∷ []))
    ∷ ((pack 5 0x8000000000000006 ∷ pack 0x8000000000000006 5 ∷ []) is (1 ∷ 2 ∷ []))
    -- the difference is signed, the versions aren't
    ∷ ((pack 0x7FFFFFFFFFFFFFFF 0x8000000000000000 ∷ pack 0x8000000000000000 0x7FFFFFFFFFFFFFFF ∷ []) is (2 ∷ 1 ∷ []))
    -- all 64 bits count
    ∷ ((pack 0 0x80000000 ∷ pack 0 0x100000000 ∷ pack 0x100000000 1 ∷ []) is (2 ∷ 2 ∷ 1 ∷ []))
    -- the rule is no order: 0, 2^62 and 2^63 + 1 are each newer than the one before, in a circle
    ∷ ((pack 0 0x4000000000000000 ∷ pack 0x4000000000000000 0x8000000000000001 ∷ pack 0x8000000000000001 0 ∷ []) is (2 ∷ 2 ∷ 2 ∷ []))
    -- "Else it is block total − 7 with unmount or fastboot, total − 4 without ..; journal at its byte 3,584."
    ∷ (journal 0 is (12 ∷ 3584 ∷ []))
    ∷ (journal 1 is (9 ∷ 3584 ∷ []))
    ∷ (journal 0x20 is (9 ∷ 3584 ∷ []))
    ∷ (journal 0x21 is (9 ∷ 3584 ∷ []))
    -- "Compact: the journal block is the start-of-summaries number ..; NAT journal at its byte 0."
    ∷ (journal 4 is (5 ∷ 0 ∷ []))
    ∷ (journal 5 is (5 ∷ 0 ∷ []))
    -- ".. 1 to total − 2"
    ∷ (List.map (placed 4 16) (0 ∷ 1 ∷ 14 ∷ 15 ∷ []) is (0 ∷ 1 ∷ 1 ∷ 0 ∷ []))
    -- ".. and at least 1"
    ∷ ((placed 0 4 1 ∷ placed 0 5 1 ∷ placed 1 7 1 ∷ placed 1 8 1 ∷ []) is (0 ∷ 1 ∷ 0 ∷ 1 ∷ []))
    -- "Answer 8 if the large map is set"
    ∷ (List.map (λ flags. readable flags 64 64) (0 ∷ 0x200 ∷ 0x400 ∷ 0x800 ∷ []) is (1 ∷ 1 ∷ 0 ∷ 1 ∷ []))
    -- "the SIT map size (156) isn't 32 × SIT segments or the NAT map size (160) isn't 32 × NAT segments"
    ∷ (List.map (λ size. readable 0 size 64) (32 ∷ 63 ∷ 64 ∷ 65 ∷ []) is (0 ∷ 0 ∷ 1 ∷ 0 ∷ []))
    ∷ (List.map (readable 0 64) (32 ∷ 63 ∷ 64 ∷ 65 ∷ []) is (0 ∷ 0 ∷ 1 ∷ 0 ∷ []))
    -- "192 + both sizes > 4,092": 4,064 is the greatest sum below, 4,096 the least above
    ∷ ((fitting 61 60 ∷ fitting 60 61 ∷ fitting 62 60 ∷ fitting 60 62 ∷ []) is (1 ∷ 1 ∷ 0 ∷ 0 ∷ []))
    -- "or the journal block is out of place"
    ∷ (List.map (λ start. yes (maps_readable (areas 2 2) (header 5 4 16 start 64 64))) (0 ∷ 1 ∷ 14 ∷ 15 ∷ []) is (0 ∷ 1 ∷ 1 ∷ 0 ∷ []))
    -- "A journal is a 16-bit count, at most 38 (else 8)"; "The SIT map starts at 192, the NAT map after it."
    ∷ (List.map (λ count. counted count (different count)) (0 ∷ 38 ∷ 39 ∷ []) is (1 ∷ 1 ∷ 0 ∷ []))
    ∷ ((yes (journal_readable (0 ∷ 1 ∷ [])) ∷ []) is (0 ∷ []))
    ∷ (opening (open_pack (pack_card 4 (different 38)) (areas 2 2) 512) is (256 ∷ 517 ∷ 0 ∷ []))
    ∷ (opening (open_pack (pack_card 4 (different 39)) (areas 2 2) 512) is (8 ∷ []))
    -- K9: "Answer 8 also if the chosen pack's flags hold error (8) or needs-check (10 hex)": each alone, both, each with all others
    -- but the large map, and those others
    ∷ (List.map unmarked (0 ∷ 8 ∷ 0x10 ∷ 0x18 ∷ 0xFFFFFBEF ∷ 0xFFFFFBF7 ∷ 0xFFFFFBE7 ∷ []) is (1 ∷ 0 ∷ 0 ∷ 0 ∷ 0 ∷ 0 ∷ 1 ∷ []))
    ∷ (opening (open_pack (pack_card 0xC []) (areas 2 2) 512) ++ opening (open_pack (pack_card 0x14 []) (areas 2 2) 512) is (8 ∷ 8 ∷ []))
    -- "or the NAT journal names one number twice": side by side, and apart
    ∷ ((counted 2 (5 ∷ 6 ∷ []) ∷ counted 2 (5 ∷ 5 ∷ []) ∷ []) is (1 ∷ 0 ∷ []))
    ∷ ((counted 3 (5 ∷ 5 ∷ 6 ∷ []) ∷ counted 3 (5 ∷ 6 ∷ 5 ∷ []) ∷ counted 3 (6 ∷ 5 ∷ 5 ∷ []) ∷ []) is (0 ∷ 0 ∷ 0 ∷ []))
    ∷ (opening (open_pack (pack_card 4 (5 ∷ 6 ∷ 5 ∷ [])) (areas 2 2) 512) is (8 ∷ []))
    -- any number, though it isn't valid; all four bytes of it count; what is behind the count isn't named
    ∷ ((counted 2 (0 ∷ 0 ∷ []) ∷ counted 2 (0xFFFFFFFF ∷ 0xFFFFFFFF ∷ []) ∷ []) is (0 ∷ 0 ∷ []))
    ∷ ((counted 2 (5 ∷ 0x1000005 ∷ []) ∷ counted 2 (5 ∷ 0x105 ∷ []) ∷ []) is (1 ∷ 1 ∷ []))
    ∷ ((counted 2 (5 ∷ 6 ∷ 5 ∷ []) ∷ counted 1 (5 ∷ 5 ∷ []) ∷ []) is (1 ∷ 1 ∷ []))
    -- 8: "chosen pack not readable"; 7: "no checkpoint pack passes"; 5 and 6 come before them
    ∷ (opening (open_pack (pack_card 0x404 (different 38)) (areas 2 2) 512) is (8 ∷ []))
    ∷ (opening (open_chosen (pack_card 4 (different 38)) (areas 2 2) None) is (7 ∷ []))
    ∷ (opening (open_areas (pack_card 4 (different 38)) (f.Refused 5)) ++ opening (open_areas (pack_card 4 (different 38)) (f.Refused 6)) is (5 ∷ 6 ∷ []))
    ∷ []

pub superblock_rules_lem : Holds superblock_rules
unfolding le16 le32 le64 same_at bytes_of in_shape superblock_of logs_pass units_pass counts_pass areas_pass ends_pass fields_pass passes found
superblock_rules_lem = refl

pub checkpoint_rules_lem : Holds checkpoint_rules
unfolding le16 le32 le64 bytes_of checkpoint_of newer journal_in journal_placed journal_offset search_from twice_among names_twice damaged maps_readable
    header_readable journal_readable open_pack
checkpoint_rules_lem = refl
