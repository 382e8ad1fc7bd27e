-- Document 01's rules for node lookup and for the walk of a pull, by number: what the definitions compute on both sides of each
-- boundary, and what the document's sentence says. 1 is yes, 0 no. What isn't written out of a block is zeros, as every byte past a list's end counts as 0.
use Rattle.std.specs.Prelude.{refl, false, List, [], ◌∷◌, ◌++◌, ℕ, zero, suc, ◌+◌, ◌-◌, ◌*◌, ◌/◌, ◌%◌, length, replicate, eqb}
use mathlib.Core.List as List
use Rattle.field.specs.Number.{le16, le32, le64}
use Rattle.field.specs.Map.{top_bit, low_bit, zeros_from}
use Rattle.field.specs.Bytes.{same_at}
use Rattle.field.specs.Choice.{choose}
use Rattle.list.specs.Lists.{bytes_of, insert}
use Rattle.place.specs.Place.{place_of}
use Rattle.checkpoint.specs.declared.Volume.{Volume}
use Rattle.nat.specs.Table.{TableAnswer, OutOfRange, Entry, in_range, table_address, entry_in, in_table, table_answer}
use Rattle.journal.specs.Journal.{search_from, journal_find}
use Rattle.nat.specs.Entry.{in_journal}
use Rattle.walk.specs.Walk.{Walk, done, Outcome, ok, stop, Ran, empty, run, bind, onward, and_then}
use Rattle.inode.specs.declared.Inode.{Inode}
use Rattle.inode.specs.Inode.{inode_of, has_inline_data, has_inline_dentry, has_extra_attr, data_room, is_directory, is_regular}
use Rattle.inode.specs.Inode.{addresses_in, is_past, count_in}
use Rattle.node.specs.Node.{Bounds, in_main, belongs, at_block, at_entry, node_walk}
use Rattle.node.specs.Block.{is_hole, data_walk, follow_walk, way_walk, block_walk}
use Rattle.dentry.specs.declared.Layout.{Layout}
use Rattle.dentry.specs.Slot.{block_layout, wanted, well_formed, matches, slot_at, slots_from}
use Rattle.dentry.specs.Scan.{tally_from, entries_in, turns_in, turns_most}
use Rattle.directory.specs.Find.{Directory, after_slots, fetch_from, after_block, bucket_walk, levels_walk, find_walk}
use Rattle.hash_level.specs.Level.{first_of, bucket_of}
use Rattle.name_hash.specs.Hash.{hash_of}
use Rattle.path_lookup.specs.Lookup.{ino_of_root, at_directory, directory_walk}
use Rattle.pull.specs.Walk.{Block, content_walk, at_file, file_walk}
use Rattle.pull.specs.Pull.{lending, lent_in_shape, content_answer}
use Rattle.bench_sheet.specs.Line.{Line, ◌is◌, Holds, yes}

-- ---- node lookup

-- a volume with its pack at 512, its NAT map at 256 there, its journal at the start of block 517, and two NAT segments from 2560
abbrev volume : Volume
volume =
    record {
      areas =
          record {
            checkpoint = 512;
            sit = 1536;
            sit_segments = 2;
            nat = 2560;
            nat_segments = 2;
            ssa = 3584;
            ssa_segments = 1;
            main = 4096;
            main_segments = 42;
            main_end = 25600;
          };
      pack = 512;
      total = 16;
      flags = 4;
      nat_map = 256;
      journal_block = 517;
      journal_at = 0;
    }

-- an entry of a NAT block, and of a journal
abbrev nat_entry : ℕ → ℕ → List ℕ
nat_entry ino address = 255 ∷ bytes_of (ino ∷ address ∷ [])

abbrev journal_entry : ℕ → ℕ → ℕ → List ℕ
journal_entry number ino address = bytes_of (number ∷ []) ++ nat_entry ino address

-- its card: numbers 6, 7 and 8 in a journal of three, number 9 behind its end. Of table block 0 the first copy is in use, of table
-- block 1 the second
abbrev nat_block : ℕ → List ℕ
nat_block b =
    choose (eqb b 512) (replicate 256 0 ++ (0x40 ∷ []))
    (choose (eqb b 517)
    ((3 ∷ 0 ∷ []) ++ journal_entry 6 61 5001 ++ journal_entry 7 71 5002 ++ journal_entry 8 81 5003 ++ journal_entry 9 91 5004)
    (choose (eqb b 2560) (replicate 63 0 ++ nat_entry 73 6001 ++ nat_entry 83 6002 ++ nat_entry 93 6003 ++ replicate 3996 0 ++ nat_entry 94 6004)
    (choose (eqb b 3073) (nat_entry 95 6005) [])))

abbrev answered : TableAnswer → List ℕ
answered OutOfRange = 9 ∷ []
answered (Entry ino address) = 0 ∷ ino ∷ address ∷ []

abbrev looked : ℕ → List ℕ
looked number = answered (table_answer (record { blocks = 25600; block = nat_block }) volume number)

abbrev lookup_rules : List Line
lookup_rules =
    -- "Valid numbers are 1 to 455 × 256 × NAT segments − 1."
    (List.map (λ number. yes (in_range volume number)) (0 ∷ 1 ∷ 232959 ∷ 232960 ∷ []) is (0 ∷ 1 ∷ 1 ∷ 0 ∷ []))
    ∷ (looked 0 ++ looked 232960 is (9 ∷ 9 ∷ []))
    -- the journal comes before the table: "13-byte entries: number, then a NAT entry", which is "version, inode, address"
    ∷ (looked 6 is (0 ∷ 61 ∷ 5001 ∷ []))
    ∷ (looked 7 is (0 ∷ 71 ∷ 5002 ∷ []))
    ∷ (looked 8 is (0 ∷ 81 ∷ 5003 ∷ []))
    -- "Otherwise table block b = number / 455", of "455 entries of 9 bytes"
    ∷ (looked 9 is (0 ∷ 93 ∷ 6003 ∷ []))
    ∷ (looked 454 is (0 ∷ 94 ∷ 6004 ∷ []))
    ∷ (looked 455 is (0 ∷ 95 ∷ 6005 ∷ []))
    ∷ []

-- ---- nodes

abbrev pub main : Bounds
main = record { start = 4096; end = 25600 }

-- the answer of a walk, then the node numbers that it lists, then the blocks. Node numbers are below 100 here, blocks 4,096 or more
abbrev pub ended : {A : Type 0} → (A → ℕ) → Outcome A → ℕ
ended answer (ok a) = answer a
ended answer (stop number) = number

abbrev pub lists : {A : Type 0} → (A → ℕ) → (ℕ → TableAnswer) → (ℕ → List ℕ) → Walk (Outcome A) → List ℕ
lists {A = A} answer table block w =
    let r : Ran (Outcome A) = run (record { table = table; block = block }) empty w in
    ended answer r.value ∷ (r.seen.nodes ++ r.seen.blocks)

-- a node's block: what it starts with, and the number, inode and flag that it ends with
abbrev pub footed : List ℕ → ℕ → ℕ → ℕ → List ℕ
footed front number ino flag = front ++ replicate (4072 - length front) 0 ++ bytes_of (number ∷ ino ∷ flag ∷ [])

-- node 5 of file 4, at place 1, where the table and the node's block say so
abbrev node : TableAnswer → ℕ → ℕ → ℕ → List ℕ
node entry number ino flag = lists (λ block. 0) (λ n. entry) (λ b. footed [] number ino flag) (node_walk main 5 4 1)

-- a data address
abbrev data_at : ℕ → List ℕ
data_at address = lists content_answer (λ n. OutOfRange) (λ b. []) (data_walk main address)

abbrev number_at : ℕ → ℕ → List ℕ
number_at offset number = replicate offset 0 ++ bytes_of (number ∷ [])

-- file 4, whose inode is zeros but for a number at an offset; node 5 is its first direct node and holds nothing
abbrev block : ℕ → ℕ → ℕ → List ℕ
block offset number index =
    lists content_answer (λ n. choose (eqb n 5) (Entry 4 4100) OutOfRange) (λ b. footed [] 5 4 8)
    (block_walk main 4 (number_at offset number) 923 index)

abbrev node_rules : List Line
node_rules =
    -- 9: "node number out of range, or its address is 0"; 10: "node address outside the main area"
    (node OutOfRange 5 4 8 is (9 ∷ 5 ∷ []))
    ∷ (node (Entry 4 0) 5 4 8 is (9 ∷ 5 ∷ []))
    ∷ (node (Entry 4 4095) 5 4 8 is (10 ∷ 5 ∷ []))
    ∷ (node (Entry 4 4096) 5 4 8 is (0 ∷ 5 ∷ 4096 ∷ []))
    ∷ (node (Entry 4 25599) 5 4 8 is (0 ∷ 5 ∷ 25599 ∷ []))
    ∷ (node (Entry 4 25600) 5 4 8 is (10 ∷ 5 ∷ []))
    -- "At a node: 9, 10, then the block is read and listed, then 11": "The block's number must be the one asked, its inode and the
    -- table's inode the file's inode number .., and flag / 8 its place number; else 11."
    ∷ (node (Entry 4 4096) 5 4 15 is (0 ∷ 5 ∷ 4096 ∷ []))
    ∷ (node (Entry 4 4096) 6 4 8 is (11 ∷ 5 ∷ 4096 ∷ []))
    ∷ (node (Entry 4 4096) 5 3 8 is (11 ∷ 5 ∷ 4096 ∷ []))
    ∷ (node (Entry 3 4096) 5 4 8 is (11 ∷ 5 ∷ 4096 ∷ []))
    ∷ (node (Entry 4 4096) 5 4 7 is (11 ∷ 5 ∷ 4096 ∷ []))
    ∷ (node (Entry 4 4096) 5 4 16 is (11 ∷ 5 ∷ 4096 ∷ []))
    -- "Inside a node, .. address 0 and address FFFFFFFF are holes"; 13: "data address outside the main area"
    ∷ (data_at 0 is (1 ∷ []))
    ∷ (data_at 0xFFFFFFFF is (1 ∷ []))
    ∷ (data_at 0xFFFFFFFE ++ data_at 1 is (13 ∷ 13 ∷ []))
    ∷ (data_at 4095 is (13 ∷ []))
    ∷ (data_at 4096 is (0 ∷ 4096 ∷ []))
    ∷ (data_at 25599 is (0 ∷ 25599 ∷ []))
    ∷ (data_at 25600 is (13 ∷ []))
    -- "addresses from 360"
    ∷ (block 360 4200 0 is (0 ∷ 4200 ∷ []))
    ∷ (block 4048 4200 922 is (0 ∷ 4200 ∷ []))
    -- "five node numbers from 4,052"; "Inside a node, number 0, .. are holes"
    ∷ (block 4052 5 923 is (1 ∷ 5 ∷ 4100 ∷ []))
    ∷ (block 4056 5 923 is (1 ∷ []))
    ∷ (block 4068 6 2075607 is (9 ∷ 6 ∷ []))
    ∷ (block 4052 0xFFFFFFFF 923 is (9 ∷ 0xFFFFFFFF ∷ []))
    -- "an index past the last place, for which nothing is looked up or read"
    ∷ (block 4068 6 1057053439 is (1 ∷ []))
    ∷ []

-- ---- inodes

abbrev pub inode : ℕ → ℕ → ℕ → ℕ → ℕ → Inode
inode mode inline size depth level = record { mode = mode; inline = inline; size = size; depth = depth; level = level }

abbrev regular : ℕ → ℕ → ℕ
regular mode inline = yes (is_regular (inode mode inline 0 0 0))

abbrev directory : ℕ → ℕ → ℕ → ℕ → ℕ
directory mode inline depth level = yes (is_directory (inode mode inline 0 depth level))

abbrev past : ℕ → ℕ → ℕ
past size index = yes (is_past (inode 0x8000 0 size 0 0) index)

abbrev count : ℕ → ℕ → ℕ
count size index = count_in (inode 0x8000 0 size 0 0) index

abbrev fields : Inode → List ℕ
fields i = i.mode ∷ i.inline ∷ i.size ∷ i.depth ∷ i.level ∷ []

-- the start of an inode's block; the size is below 2^32
abbrev pub inode_block : ℕ → ℕ → ℕ → ℕ → ℕ → List ℕ
inode_block mode inline size depth level =
    (mode % 256 ∷ mode / 256 ∷ 0 ∷ inline ∷ [])
    ++ replicate 12 0
    ++ bytes_of (size ∷ 0 ∷ [])
    ++ replicate 48 0
    ++ bytes_of (depth ∷ [])
    ++ replicate 271 0
    ++ (level ∷ [])

abbrev inode_rules : List Line
inode_rules =
    -- "mode 0 (16 bits ..), inline byte 3, size 16 (64 bits), depth 72, directory level 347 (one byte)"
    (fields (inode_of (inode_block 0x81A4 17 4097 258 9)) is (0x81A4 ∷ 17 ∷ 4097 ∷ 258 ∷ 9 ∷ []))
    ∷ (fields (inode_of (number_at 20 1)) is (0 ∷ 0 ∷ 4294967296 ∷ 0 ∷ 0 ∷ []))
    -- "top four bits 4 directory, 8 regular"
    ∷ (List.map (λ mode. regular mode 0) (0x7FFF ∷ 0x8000 ∷ 0x8FFF ∷ 0x9000 ∷ 0x4000 ∷ []) is (0 ∷ 1 ∷ 1 ∷ 0 ∷ 0 ∷ []))
    ∷ (List.map (λ mode. directory mode 0 1 0) (0x3FFF ∷ 0x4000 ∷ 0x4FFF ∷ 0x5000 ∷ 0x8000 ∷ []) is (0 ∷ 1 ∷ 1 ∷ 0 ∷ 0 ∷ []))
    -- "2 on a directory, and 4 on a regular file stay 12", and so does bit 20 hex
    ∷ (List.map (regular 0x8000) (1 ∷ 2 ∷ 4 ∷ 8 ∷ 0x10 ∷ 0x20 ∷ 0x40 ∷ 0x80 ∷ []) is (1 ∷ 1 ∷ 0 ∷ 1 ∷ 1 ∷ 0 ∷ 1 ∷ 1 ∷ []))
    ∷ (List.map (λ inline. directory 0x4000 inline 1 0) (1 ∷ 2 ∷ 4 ∷ 8 ∷ 0x10 ∷ 0x20 ∷ 0x40 ∷ 0x80 ∷ []) is (1 ∷ 0 ∷ 1 ∷ 1 ∷ 1 ∷ 0 ∷ 1 ∷ 1 ∷ []))
    -- "Depth over 63 ..: 12"; "refusal 12 for a level now starts at 31"
    ∷ (List.map (λ depth. directory 0x4000 0 depth 0) (0 ∷ 63 ∷ 64 ∷ []) is (1 ∷ 1 ∷ 0 ∷ []))
    ∷ (List.map (directory 0x4000 0 1) (0 ∷ 1 ∷ 30 ∷ 31 ∷ 32 ∷ 255 ∷ []) is (1 ∷ 1 ∷ 1 ∷ 0 ∷ 0 ∷ 0 ∷ []))
    -- "Inline bit 1 set: A = 873 addresses, else A = 923."
    ∷ (List.map (λ inline. addresses_in (inode 0x8000 inline 0 0 0)) (0 ∷ 1 ∷ 8 ∷ 9 ∷ []) is (923 ∷ 873 ∷ 923 ∷ 873 ∷ []))
    -- "Answer 3 if index × 4,096 ≥ size or the index is larger": "Indexes run to A + 1,057,052,515."
    ∷ (List.map (past 4096) (0 ∷ 1 ∷ []) ++ List.map (past 4097) (0 ∷ 1 ∷ 2 ∷ []) is (0 ∷ 1 ∷ 0 ∷ 0 ∷ 1 ∷ []))
    ∷ (List.map (past 0xFFFFFFFFFFFFFFFF) (1057053438 ∷ 1057053439 ∷ []) ++ (past 0 0 ∷ []) is (0 ∷ 1 ∷ 1 ∷ []))
    -- "Size 4,097: index 1 gives count 1"; "Count: the smaller of 4,096 and size − 4,096 × index."
    ∷ ((count 4097 0 ∷ count 4097 1 ∷ count 4096 0 ∷ count 4095 0 ∷ []) is (4096 ∷ 1 ∷ 4096 ∷ 4095 ∷ []))
    ∷ []

-- ---- directories

-- an entry, with the first byte of its name
record Dentry : Type 0 where
  hash : ℕ
  ino : ℕ
  len : ℕ
  byte : ℕ

abbrev dentry : ℕ → ℕ → ℕ → ℕ → Dentry
dentry hash ino len byte = record { hash = hash; ino = ino; len = len; byte = byte }

abbrev entries : List Dentry → List ℕ
entries [] = []
entries (d ∷ ds) = bytes_of (d.hash ∷ d.ino ∷ []) ++ (d.len ∷ 0 ∷ 0 ∷ []) ++ entries ds

abbrev names : List Dentry → List ℕ
names [] = []
names (d ∷ ds) = d.byte ∷ replicate 7 0 ++ names ds

-- the first slots of a directory block, and its map's first byte
abbrev slots : ℕ → List Dentry → List ℕ
slots map ds = map ∷ replicate 29 0 ++ entries ds ++ replicate (2354 - 11 * length ds) 0 ++ names ds

-- entries of the name that is sought, "a", with a hash of 77, and another's
abbrev a40 : Dentry
a40 = dentry 77 40 1 97

abbrev a41 : Dentry
a41 = dentry 77 41 1 97

abbrev other : ℕ → Dentry
other len = dentry 78 50 len 97

-- the inode number that a search came to without another block, or the answer
abbrev sought : Walk (Outcome ℕ) → ℕ
sought w = ended (λ ino. ino) (run (record { table = λ n. OutOfRange; block = λ b. [] }) empty w).value

-- the inode number or the answer that three steps of the search come to; 2 if they come to nothing
abbrev three : ℕ → List Dentry → ℕ
three map ds = sought (after_slots (done (stop 2)) (slots_from block_layout (slots map ds) (wanted 77 (97 ∷ [])) 3 0))

abbrev directory_rules : List Line
directory_rules =
    -- "A set one needs length 1 to 255 and ⌈length/8⌉ slots before the end, else 14"
    (List.map (λ len. yes (well_formed block_layout 0 len)) (0 ∷ 1 ∷ 255 ∷ 256 ∷ []) is (0 ∷ 1 ∷ 1 ∷ 0 ∷ []))
    ∷ ((yes (well_formed block_layout 182 255) ∷ yes (well_formed block_layout 183 255) ∷ []) is (1 ∷ 0 ∷ []))
    ∷ ((three 1 (other 0 ∷ []) ∷ three 0 (other 0 ∷ []) ∷ []) is (14 ∷ 2 ∷ []))
    -- "slots rising, stopping at the first match": a malformed slot before it is met, one behind it isn't
    ∷ ((three 1 (a40 ∷ []) ∷ three 0 (a40 ∷ []) ∷ []) is (40 ∷ 2 ∷ []))
    ∷ ((three 3 (a40 ∷ a41 ∷ []) ∷ three 2 (a40 ∷ a41 ∷ []) ∷ []) is (40 ∷ 41 ∷ []))
    ∷ ((three 3 (other 0 ∷ a40 ∷ []) ∷ three 3 (a40 ∷ other 0 ∷ []) ∷ []) is (14 ∷ 40 ∷ []))
    -- "then it matches by hash, length and bytes"
    ∷ ((three 1 (dentry 78 40 1 97 ∷ []) ∷ three 1 (dentry 77 40 2 97 ∷ []) ∷ three 1 (dentry 77 40 1 98 ∷ []) ∷ []) is (2 ∷ 2 ∷ 2 ∷ []))
    -- "or the search moves past its slots": an entry of 8 bytes has one, of 9 two
    ∷ ((three 3 (other 8 ∷ a40 ∷ []) ∷ three 3 (other 9 ∷ a40 ∷ []) ∷ three 7 (other 9 ∷ a40 ∷ a41 ∷ []) ∷ []) is (40 ∷ 2 ∷ 41 ∷ []))
    ∷ []

-- how many entries the scan of slots for "a" looks at, its turns, and how many those may be
abbrev pub scanned_in : Layout → List ℕ → List ℕ
scanned_in l block = let w = wanted 77 (97 ∷ []) in entries_in l block w ∷ turns_in l block w ∷ turns_most l block w ∷ []

abbrev scanned : List ℕ → List ℕ
scanned block = scanned_in block_layout block

abbrev scan_rules : List Line
scan_rules =
    -- K5: "A block's scan counts its turns, .. one a run skipped": a run ends with slot 213, whatever stands behind its bit
    (scanned [] is (0 ∷ 1 ∷ 1 ∷ []))
    ∷ (scanned (replicate 26 0 ++ (0xC0 ∷ 0xFF ∷ 0xFF ∷ 0xFF ∷ [])) is (0 ∷ 1 ∷ 1 ∷ []))
    -- "one an entry looked at": one between two runs takes all turns that it may; "at most 2e + 1 for e entries"
    ∷ (scanned (slots 2 (other 1 ∷ other 1 ∷ [])) is (1 ∷ 3 ∷ 3 ∷ []))
    -- the match is looked at, or the malformed one, and nothing behind it: here behind an entry, a run, and a run before each
    ∷ (scanned (slots 3 (other 8 ∷ a40 ∷ [])) is (2 ∷ 2 ∷ 5 ∷ []))
    ∷ (scanned (slots 5 (other 8 ∷ a40 ∷ a40 ∷ [])) is (2 ∷ 3 ∷ 5 ∷ []))
    ∷ (scanned (slots 10 (a40 ∷ other 8 ∷ a40 ∷ a40 ∷ [])) is (2 ∷ 4 ∷ 5 ∷ []))
    ∷ (scanned (slots 6 (a40 ∷ other 0 ∷ other 1 ∷ [])) is (1 ∷ 2 ∷ 3 ∷ []))
    -- the bits of an entry's other slots aren't looked at: a name of 9 bytes has two
    ∷ (scanned (slots 7 (other 9 ∷ a40 ∷ a40 ∷ [])) is (2 ∷ 2 ∷ 5 ∷ []))
    ∷ (scanned (slots 5 (other 9 ∷ a40 ∷ a40 ∷ [])) is (2 ∷ 2 ∷ 5 ∷ []))
    ∷ []

-- ---- the pull

-- the root's inode at place 0, as its block says; the name is sought only if there is something to search
abbrev root : ℕ → ℕ → ℕ → ℕ → ℕ → List ℕ
root mode size depth level flag =
    lists (λ ino. 0) (λ n. Entry n 4096) (λ b. footed (inode_block mode 0 size depth level) 3 3 flag) (directory_walk main (97 ∷ []) ino_of_root)

-- n numbers from i on
abbrev counting : ℕ → ℕ → List ℕ
counting zero i = []
counting (suc n) i = i ∷ counting n (i + 1)

-- a root with a level, whose block i is at 5000 + i, and empty
abbrev big_root : ℕ → ℕ → List ℕ
big_root level depth =
    let front = inode_block 0x4000 0 1 depth level in
    footed (front ++ replicate (360 - length front) 0 ++ bytes_of (counting 64 5000)) 3 3 0

-- what a pull reads of it for ".", whose hash is 0
abbrev searched : ℕ → ℕ → List ℕ
searched level depth = lists (λ ino. 0) (λ n. Entry n 4096) (λ b. choose (eqb b 4096) (big_root level depth) []) (directory_walk main (46 ∷ []) ino_of_root)

-- and what the search reads for a hash
abbrev searched_for : ℕ → ℕ → ℕ → List ℕ
searched_for hash level depth =
    let d : Directory = record { bounds = main; ino = 3; inode = big_root level depth; addresses = 923; inline = false; dir_level = level } in
    lists (λ ino. 0) (λ n. Entry n 4096) (λ b. []) (find_walk d (wanted hash (46 ∷ [])) depth)

-- block `index` of a file of 4,097 bytes whose inode number is asked for
abbrev file : (ℕ → TableAnswer) → ℕ → ℕ → ℕ → List ℕ
file table mode ino index =
    lists (λ (b : Block). content_answer b.content) table (λ b. footed (inode_block mode 0 4097 0 0) ino ino 0) (file_walk main index ino)

-- whether so many bytes are what a pull of k names is lent
abbrev pub lent : ℕ → ℕ → ℕ → ℕ → ℕ
lent k block nodes blocks = yes (lent_in_shape k (lending (replicate block 0) (replicate nodes 0) (replicate blocks 0)))

abbrev pull_rules : List Line
pull_rules =
    -- "a block buffer of exactly 4,096 bytes", and for one name "a node list of at least 179 and a block list of at least 238 32-bit numbers"
    (List.map (λ block. lent 1 block 716 952) (4095 ∷ 4096 ∷ 4097 ∷ []) is (0 ∷ 1 ∷ 0 ∷ []))
    ∷ (List.map (λ nodes. lent 1 4096 nodes 952) (715 ∷ 716 ∷ 720 ∷ []) is (0 ∷ 1 ∷ 1 ∷ []))
    ∷ (List.map (lent 1 4096 716) (951 ∷ 952 ∷ 956 ∷ []) is (0 ∷ 1 ∷ 1 ∷ []))
    -- 1 is "hole"; "Size 4,097: .. index 2 gives 3."
    ∷ (file (λ n. Entry n 4096) 0x8000 4 1 is (1 ∷ 4 ∷ 4096 ∷ []))
    ∷ (file (λ n. Entry n 4096) 0x8000 4 2 is (3 ∷ 4 ∷ 4096 ∷ []))
    -- "The root must be a directory and the file regular .., else 12"
    ∷ (file (λ n. Entry n 4096) 0x4000 4 2 is (12 ∷ 4 ∷ 4096 ∷ []))
    ∷ (root 0x8000 0 1 0 0 is (12 ∷ 3 ∷ 4096 ∷ []))
    -- "Then size 0: 2; size isn't consulted otherwise"; "Place numbers: inode 0"
    ∷ (root 0x4000 0 1 0 0 is (2 ∷ 3 ∷ 4096 ∷ []))
    ∷ (root 0x4000 1 0 0 0 is (2 ∷ 3 ∷ 4096 ∷ []))
    ∷ (root 0x4000 0 64 0 0 is (12 ∷ 3 ∷ 4096 ∷ []))
    ∷ (root 0x4000 0 1 30 0 is (2 ∷ 3 ∷ 4096 ∷ []))
    ∷ (root 0x4000 0 1 31 0 is (12 ∷ 3 ∷ 4096 ∷ []))
    ∷ (root 0x4000 0 1 0 8 is (11 ∷ 3 ∷ 4096 ∷ []))
    -- "Search levels 0 to depth − 1, in each the bucket hash mod buckets, its blocks in order"
    ∷ (searched 0 3 is (2 ∷ 3 ∷ 4096 ∷ 5000 ∷ 5001 ∷ 5002 ∷ 5003 ∷ 5006 ∷ 5007 ∷ []))
    ∷ (searched 1 3 is (2 ∷ 3 ∷ 4096 ∷ 5000 ∷ 5001 ∷ 5004 ∷ 5005 ∷ 5012 ∷ 5013 ∷ []))
    ∷ (searched 30 1 is (2 ∷ 3 ∷ 4096 ∷ 5000 ∷ 5001 ∷ []))
    ∷ (searched_for 7 0 3 is (2 ∷ 5000 ∷ 5001 ∷ 5004 ∷ 5005 ∷ 5012 ∷ 5013 ∷ []))
    ∷ (searched_for 7 1 3 is (2 ∷ 5002 ∷ 5003 ∷ 5010 ∷ 5011 ∷ 5026 ∷ 5027 ∷ []))
    ∷ (searched_for 7 4 1 is (2 ∷ 5014 ∷ 5015 ∷ []))
    -- "inode number 0 in a directory entry is looked up, so listed, and is 9"
    ∷ (file (λ n. choose (eqb n 0) OutOfRange (Entry n 4096)) 0x8000 0 0 is (9 ∷ 0 ∷ []))
    ∷ []

pub lookup_rules_lem : Holds lookup_rules
unfolding le16 le32 top_bit bytes_of search_from journal_find in_journal in_range table_address entry_in in_table table_answer
lookup_rules_lem = refl

pub node_rules_lem : Holds node_rules
unfolding le16 le32 bytes_of place_of insert run bind onward and_then in_main belongs at_block at_entry node_walk is_hole data_walk follow_walk way_walk
    block_walk
node_rules_lem = refl

pub inode_rules_lem : Holds inode_rules
unfolding le16 le32 le64 bytes_of inode_of has_inline_data has_inline_dentry has_extra_attr data_room is_directory is_regular addresses_in is_past count_in
inode_rules_lem = refl

pub directory_rules_lem : Holds directory_rules
unfolding le16 le32 bytes_of low_bit same_at run well_formed matches slot_at slots_from
directory_rules_lem = refl

pub scan_rules_lem : Holds scan_rules
unfolding le16 le32 bytes_of low_bit zeros_from same_at well_formed matches slot_at tally_from
scan_rules_lem = refl

pub pull_rules_lem : Holds pull_rules
unfolding le16 le32 le64 bytes_of place_of insert run bind onward and_then in_main belongs at_block at_entry node_walk is_hole data_walk follow_walk
    way_walk block_walk inode_of has_inline_data has_inline_dentry has_extra_attr data_room is_directory is_regular addresses_in is_past count_in
    content_walk at_file file_walk fetch_from levels_walk find_walk at_directory directory_walk lent_in_shape first_of bucket_of bucket_walk after_block
    low_bit slot_at
    slots_from hash_of same_at
pull_rules_lem = refl
