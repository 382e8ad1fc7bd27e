-- The bench sheet is document 01's term for its list of worked numbers. The lines that it marks to be proved are one table here:
-- what the definitions compute on the left, what the document says on the right.
use Rattle.std.specs.Prelude.{refl, false, List, [], ◌∷◌, ℕ, ◌+◌, ◌/◌, ◌%◌, ◌^◌, set, replicate}
use mathlib.Core.List as List
use Rattle.field.specs.Number.{le16, le32, le64}
use Rattle.field.specs.Map.{top_bit, low_bit}
use Rattle.field.specs.Bytes.{same_at}
use Rattle.place.specs.Place.{place_of}
use Rattle.place.specs.Way.{way_of}
use Rattle.place.specs.declared.Step.{Step}
use Rattle.superblock.specs.Superblock.{superblock_of, logs_pass, units_pass, counts_pass, areas_pass, ends_pass, fields_pass, passes}
use Rattle.superblock.specs.Areas.{found}
use Rattle.nat.specs.Table.{table_block, copy_address}
use Rattle.list.specs.Lists.{bytes_of}
use Rattle.walk.specs.Walk.{Walk, done, look, read, Outcome, ok, stop}
use Rattle.node.specs.Block.{held}
use Rattle.hash_level.specs.Level.{first_of}
use Rattle.dentry.specs.Slot.{wanted, entry_at, well_formed, matches, slot_at, slots_from}
use Rattle.directory.specs.Find.{after_block}
use Rattle.bench_sheet.specs.Line.{Line, ◌is◌, Holds}
use Rattle.bench_sheet.specs.Volume004.{superblock, card004, main_numbers}

-- the way to a block as numbers: place and slot of each node
abbrev way_numbers : List Step → List ℕ
way_numbers [] = []
way_numbers (s ∷ steps) = s.number ∷ s.slot ∷ way_numbers steps

abbrev way : ℕ → ℕ → List ℕ
way A index = way_numbers (way_of (place_of A index))

-- a part of what 004's format options set, by the Linux header: the bits of -O extra_attr and -O compression. Its -g android sets
-- more; any of them is answer 6
abbrev features004 : ℕ
features004 = 0x8 + 0x2000

abbrev main004 : ℕ → List ℕ
main004 feature = main_numbers (found (card004 (λ b. superblock 0 feature)))

-- a directory block whose one entry, at a slot, has a name of so many bytes: its bit, and the length in its entry
abbrev one_entry : ℕ → ℕ → List ℕ
one_entry slot len = set (set (replicate 4096 0) (slot / 8) (2 ^ (slot % 8))) (entry_at slot + 8) len

-- the answer of a search that comes to a block of a directory and to none behind it; 0 with a match
abbrev answer_in : Walk (Outcome ℕ) → List ℕ
answer_in (done (ok ino)) = 0 ∷ []
answer_in (done (stop answer)) = answer ∷ []
answer_in (look n k) = []
answer_in (read b k) = []

abbrev search_answer : List ℕ → List ℕ
search_answer block = answer_in (after_block false (wanted 1 []) (done (stop 2)) (held block))

abbrev sheet : List Line
sheet =
    -- "004's 100 MB volume: main 4096, 42 segments, end 25600. Its format options set features: answer 6."
    (main004 0 is (4096 ∷ 42 ∷ 25600 ∷ []))
    ∷ (main004 features004 is (6 ∷ []))
    -- "Number 454 is in table block 0, 455 in 1."
    ∷ ((table_block 454 ∷ table_block 455 ∷ []) is (0 ∷ 1 ∷ []))
    -- "NAT at 2560: block 0 at 2560 or 3072; block 511 at 3071 or 3583; block 512 at 3584 or 4096."
    ∷ ((copy_address 2560 0 0 ∷ copy_address 2560 0 1 ∷ []) is (2560 ∷ 3072 ∷ []))
    ∷ ((copy_address 2560 511 0 ∷ copy_address 2560 511 1 ∷ []) is (3071 ∷ 3583 ∷ []))
    ∷ ((copy_address 2560 512 0 ∷ copy_address 2560 512 1 ∷ []) is (3584 ∷ 4096 ∷ []))
    -- "Byte 80 hex: entry 0 in a NAT map, slot 7 in a directory."
    ∷ (List.map (top_bit (0x80 ∷ [])) (0 ∷ 1 ∷ 2 ∷ 3 ∷ 4 ∷ 5 ∷ 6 ∷ 7 ∷ []) is (1 ∷ 0 ∷ 0 ∷ 0 ∷ 0 ∷ 0 ∷ 0 ∷ 0 ∷ []))
    ∷ (List.map (low_bit (0x80 ∷ [])) (0 ∷ 1 ∷ 2 ∷ 3 ∷ 4 ∷ 5 ∷ 6 ∷ 7 ∷ []) is (0 ∷ 0 ∷ 0 ∷ 0 ∷ 0 ∷ 0 ∷ 0 ∷ 1 ∷ []))
    -- "A = 923: index 922 inode, 923 first direct entry 0, 2958 second direct entry 1017"
    ∷ (way 923 922 is (0 ∷ 922 ∷ []))
    ∷ (way 923 923 is (0 ∷ 0 ∷ 1 ∷ 0 ∷ []))
    ∷ (way 923 2958 is (0 ∷ 1 ∷ 2 ∷ 1017 ∷ []))
    -- "2959 first indirect, 1,039,283 second, 2,075,607 double, 1,057,053,438 last"
    ∷ (way 923 2959 is (0 ∷ 2 ∷ 3 ∷ 0 ∷ 4 ∷ 0 ∷ []))
    ∷ (way 923 1039283 is (0 ∷ 3 ∷ 1022 ∷ 0 ∷ 1023 ∷ 0 ∷ []))
    ∷ (way 923 2075607 is (0 ∷ 4 ∷ 2041 ∷ 0 ∷ 2042 ∷ 0 ∷ 2043 ∷ 0 ∷ []))
    ∷ (way 923 1057053438 is (0 ∷ 4 ∷ 2041 ∷ 1017 ∷ 1038365 ∷ 1017 ∷ 1039383 ∷ 1017 ∷ []))
    ∷ (way 923 1057053439 is [])
    -- "A = 873: 873 is first direct entry 0."
    ∷ (way 873 873 is (0 ∷ 0 ∷ 1 ∷ 0 ∷ []))
    -- "Levels 0 to 3 start at 0, 2, 6, 14; level 29 at 1,073,741,822."
    ∷ (List.map (first_of 0) (0 ∷ 1 ∷ 2 ∷ 3 ∷ 29 ∷ []) is (0 ∷ 2 ∷ 6 ∷ 14 ∷ 1073741822 ∷ []))
    -- "Length 8 at slot 213 fits; length 9 is 14."
    ∷ (search_answer (one_entry 213 8) is (2 ∷ []))
    ∷ (search_answer (one_entry 213 9) is (14 ∷ []))
    ∷ []

pub bench_sheet : Holds sheet
unfolding top_bit low_bit place_of le16 le32 le64 same_at bytes_of superblock_of logs_pass units_pass counts_pass areas_pass ends_pass fields_pass passes
    found first_of well_formed matches slot_at slots_from after_block
bench_sheet = refl
