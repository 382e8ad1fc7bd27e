-- K4's rules, by number: what the definitions compute on both sides of each boundary, and what the request's sentence says. 1 is yes,
-- 0 no. What isn't written out of a block is zeros.
use Rattle.std.specs.Prelude.{refl, List, [], ◌∷◌, ◌++◌, ℕ, ◌+◌, ◌-◌, ◌*◌, length, take, replicate}
use mathlib.Core.List as List
use Rattle.field.specs.Number.{le16, le32, le64}
use Rattle.field.specs.Map.{low_bit, zeros_from}
use Rattle.field.specs.Bytes.{same_at}
use Rattle.list.specs.Lists.{bytes_of, insert}
use Rattle.nat.specs.Table.{OutOfRange, Entry}
use Rattle.walk.specs.Walk.{empty, run, bind, onward, and_then, Outcome, ok, stop}
use Rattle.inode.specs.Inode.{inode_of, has_inline_data, has_inline_dentry, has_extra_attr, data_room, dentry_room, is_directory, is_regular}
use Rattle.inode.specs.Inode.{addresses_in, is_past, count_in}
use Rattle.node.specs.Node.{in_main, belongs, at_block, at_entry, node_walk}
use Rattle.dentry.specs.declared.Slot.{Slot}
use Rattle.dentry.specs.declared.Slot.TheVariants.{Free, Match, Other, Malformed}
use Rattle.dentry.specs.Slot.{inline_layout, entry_at, wanted, well_formed, matches, slot_at, slots_from}
use Rattle.dentry.specs.Scan.{tally_from}
use Rattle.name_hash.specs.Hash.{hash_of}
use Rattle.directory.specs.Find.{find_walk}
use Rattle.path_lookup.specs.Lookup.{ino_of_root, at_directory, directory_walk}
use Rattle.pull.specs.Walk.{Block, content_walk, at_file, file_walk}
use Rattle.pull.specs.Pull.{content_answer, content_bytes}
use Rattle.bench_sheet.specs.Line.{Line, ◌is◌, Holds, yes}
use Rattle.bench_sheet.specs.WalkRules.{main, lists, footed, inode, inode_block, scanned_in}

-- ---- which are read

abbrev file_read : ℕ → ℕ → ℕ
file_read inline size = yes (is_regular (inode 0x8000 inline size 0 0))

abbrev directory_read : ℕ → ℕ → ℕ
directory_read inline size = yes (is_directory (inode 0x4000 inline size 0 0))

-- ---- inline slots, by the bytes from 364 on

-- slot 181, the last, in use: its bit stands in byte 22, its entry at 2,021, its name at 3,480
abbrev last_slot : ℕ → List ℕ
last_slot len =
    replicate 22 0 ++ (0x20 ∷ []) ++ replicate 1998 0 ++ bytes_of (77 ∷ 40 ∷ []) ++ (len ∷ 0 ∷ 1 ∷ []) ++ replicate 1448 0 ++ (97 ∷ [])

-- what a slot holds: 0 if it is free, 1 for another entry, 14 for a malformed one, else the inode number in the name's
abbrev slot_number : Slot → ℕ
slot_number Free = 0
slot_number (Match ino) = ino
slot_number (Other slots) = 1
slot_number Malformed = 14

abbrev slot181 : List ℕ → ℕ
slot181 part = slot_number (slot_at inline_layout part (wanted 77 (97 ∷ [])) 181)

-- ---- pulls

-- an inline file of five bytes, 51 to 55, behind an address that isn't followed: block `index`, with what is listed for it
abbrev small_file : List ℕ
small_file =
    let front = inode_block 0x8000 2 5 0 0 in
    footed (front ++ replicate (360 - length front) 0 ++ bytes_of (5000 ∷ []) ++ (51 ∷ 52 ∷ 53 ∷ 54 ∷ 55 ∷ 56 ∷ [])) 4 4 0

abbrev file : ℕ → List ℕ
file index = lists (λ (b : Block). content_answer b.content) (λ n. Entry n 4096) (λ b. small_file) (file_walk main index 4)

-- the count of its block 0, and the first six bytes that a pull hands out
abbrev handed : Outcome Block → List ℕ
handed (ok b) = b.count ∷ take 6 (content_bytes b.count b.content)
handed (stop answer) = []

abbrev bytes : List ℕ
bytes = handed (run (record { table = λ n. OutOfRange; block = λ b. [] }) empty (at_file main 0 4 small_file)).value

-- an inline directory with "." in slot 0, for a child: its bit at 364, its entry at 394, whose hash is 0, its name at 2,396
abbrev pub dot_block : ℕ → ℕ → ℕ → ℕ → ℕ → ℕ → List ℕ
dot_block ino child inline size depth level =
    let front = inode_block 0x4000 inline size depth level in
    let map = front ++ replicate (364 - length front) 0 ++ (1 ∷ []) in
    let entry = map ++ replicate 33 0 ++ bytes_of (child ∷ []) ++ (1 ∷ 0 ∷ 2 ∷ []) in
    footed (entry ++ replicate (2396 - length entry) 0 ++ (46 ∷ [])) ino ino 0

-- the inode number that a pull finds for "." in such a root, 40, or its answer, and what is listed then
abbrev root : ℕ → ℕ → ℕ → ℕ → List ℕ
root inline size depth level =
    lists (λ ino. ino) (λ n. Entry n 4096) (λ b. dot_block 3 40 inline size depth level) (directory_walk main (46 ∷ []) ino_of_root)

abbrev inline_rules : List Line
inline_rules =
    -- "With 50 words kept for attributes that is 3,488 bytes, without them 3,688"; "A size above the room is 12."
    (List.map (file_read 3) (0 ∷ 3488 ∷ 3489 ∷ 3688 ∷ []) is (1 ∷ 1 ∷ 0 ∷ 0 ∷ []))
    ∷ (List.map (file_read 2) (0 ∷ 3489 ∷ 3688 ∷ 3689 ∷ []) is (1 ∷ 1 ∷ 1 ∷ 0 ∷ []))
    ∷ (List.map (file_read 2) (4294967296 ∷ []) ++ List.map (file_read 0) (3689 ∷ 4294967296 ∷ []) is (0 ∷ 1 ∷ 1 ∷ []))
    -- "an inline directory always keeps the 50, attribute bit or not"
    ∷ (List.map (directory_read 4) (0 ∷ 3488 ∷ 3489 ∷ 3688 ∷ []) is (1 ∷ 1 ∷ 0 ∷ 0 ∷ []))
    ∷ (List.map (directory_read 5) (0 ∷ 3488 ∷ 3489 ∷ 3688 ∷ []) is (1 ∷ 1 ∷ 0 ∷ 0 ∷ []))
    ∷ (List.map (directory_read 0) (3489 ∷ 4294967296 ∷ []) is (1 ∷ 1 ∷ []))
    -- "both together, 2 on a directory, and 4 on a regular file stay 12", and 20 hex with either
    ∷ (List.map (λ inline. file_read inline 1) (2 ∷ 4 ∷ 6 ∷ 0x0A ∷ 0x22 ∷ []) is (1 ∷ 0 ∷ 0 ∷ 1 ∷ 0 ∷ []))
    ∷ (List.map (λ inline. directory_read inline 1) (2 ∷ 4 ∷ 6 ∷ 0x0C ∷ 0x24 ∷ []) is (0 ∷ 1 ∷ 0 ∷ 1 ∷ 0 ∷ []))
    -- "Its 3,488 bytes are a 23-byte map, 7 reserved, 182 entries, 182 name slots": entries end where names begin, names where the room does
    ∷ ((entry_at inline_layout.slots ∷ (inline_layout.names + 8 * inline_layout.slots) ∷ []) is (inline_layout.names ∷ dentry_room ∷ []))
    ∷ ((inline_layout.start ∷ inline_layout.slots ∷ inline_layout.names ∷ []) is (364 ∷ 182 ∷ 2032 ∷ []))
    -- "182 entries": a name of 255 bytes has 32 slots
    ∷ ((yes (well_formed inline_layout 150 255) ∷ yes (well_formed inline_layout 151 255) ∷ []) is (1 ∷ 0 ∷ []))
    ∷ ((yes (well_formed inline_layout 181 8) ∷ yes (well_formed inline_layout 181 9) ∷ []) is (1 ∷ 0 ∷ []))
    -- "a 23-byte map, 7 reserved": behind bit 181 and in the reserved bytes no bit counts
    ∷ (scanned_in inline_layout [] is (0 ∷ 1 ∷ 1 ∷ []))
    ∷ (scanned_in inline_layout (replicate 22 0 ++ (0xC0 ∷ replicate 7 0xFF)) is (0 ∷ 1 ∷ 1 ∷ []))
    -- "182 entries, 182 name slots": the last of them
    ∷ ((slot181 (last_slot 1) ∷ slot181 (last_slot 9) ∷ slot181 [] ∷ []) is (40 ∷ 14 ∷ 0 ∷ []))
    -- "Both start one address word into the address area"; "no data block of its own"
    ∷ (bytes is (5 ∷ 51 ∷ 52 ∷ 53 ∷ 54 ∷ 55 ∷ 0 ∷ []))
    ∷ (file 0 is (0 ∷ 4 ∷ 4096 ∷ []))
    ∷ (file 1 is (3 ∷ 4 ∷ 4096 ∷ []))
    -- "scanned at any depth up to 63", whatever its level up to 30
    ∷ (root 4 1 0 0 ++ root 5 3488 1 30 is (40 ∷ 3 ∷ 4096 ∷ 40 ∷ 3 ∷ 4096 ∷ []))
    ∷ (root 4 1 63 1 ++ root 4 1 64 1 is (40 ∷ 3 ∷ 4096 ∷ 12 ∷ 3 ∷ 4096 ∷ []))
    ∷ (root 4 1 0 31 is (12 ∷ 3 ∷ 4096 ∷ []))
    -- 12 for a size above the room, then "size 0: 2"
    ∷ (root 4 3489 0 0 ++ root 4 0 0 0 is (12 ∷ 3 ∷ 4096 ∷ 2 ∷ 3 ∷ 4096 ∷ []))
    ∷ []

pub inline_rules_lem : Holds inline_rules
unfolding le16 le32 le64 bytes_of low_bit zeros_from same_at insert run bind onward and_then in_main belongs at_block at_entry node_walk
    inode_of has_inline_data has_inline_dentry has_extra_attr data_room is_directory is_regular addresses_in is_past count_in
    well_formed matches slot_at slots_from tally_from find_walk hash_of
    content_walk at_file file_walk at_directory directory_walk
inline_rules_lem = refl
