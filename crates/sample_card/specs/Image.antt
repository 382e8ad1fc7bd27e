-- One card, written out: as large as a card may be, 4,194,304 blocks, of which sixteen hold something. Its last segment is its main area,
-- so that nodes and data lie behind byte 2^32. Its root directory, of directory level 2, has two files: "brake.log", of 4,103 bytes, a hole,
-- and seven bytes in its block 1, which is the card's last; and "pads.tbl", a friction table, whose nine bytes are inline (K4). It has a
-- folder too, "roads" (K7), an inline directory with one file: "wet.bin", of four bytes. Offsets are document 01's.
use Rattle.std.specs.Prelude.{ℕ, ◌+◌, ◌-◌, List, [], ◌∷◌, ◌++◌, length, replicate, ltb}
use Rattle.field.specs.Card.{Card}
use Rattle.field.specs.Choice.{choose}
use Rattle.list.specs.Lists.{bytes_of}
use Rattle.path.specs.Path.{slash}

-- ---- a block from its parts

-- bytes that stand at an offset of a block
pub record Part : Type 0 where
  pub offset : ℕ
  pub bytes : List ℕ

abbrev pub at : ℕ → List ℕ → Part
at offset bytes = record { offset = offset; bytes = bytes }

-- 32-bit numbers from an offset on
abbrev pub numbers_at : ℕ → List ℕ → Part
numbers_at offset numbers = at offset (bytes_of numbers)

-- a block from a byte on: parts in rising order, and zeros between and behind them
unfoldable pub filled : ℕ → List Part → List ℕ
filled from [] = replicate (4096 - from) 0
filled from (p ∷ ps) = replicate (p.offset - from) 0 ++ (p.bytes ++ filled (p.offset + length p.bytes) ps)

unfoldable pub zeros : List ℕ
zeros = replicate 4096 0

-- ---- names and content

-- "brake.log"
abbrev pub name : List ℕ
name = 98 ∷ 114 ∷ 97 ∷ 107 ∷ 101 ∷ 46 ∷ 108 ∷ 111 ∷ 103 ∷ []

-- "brake", which the card doesn't have
abbrev pub missing : List ℕ
missing = 98 ∷ 114 ∷ 97 ∷ 107 ∷ 101 ∷ []

-- "42 bar" and a line feed
abbrev pub content : List ℕ
content = 52 ∷ 50 ∷ 32 ∷ 98 ∷ 97 ∷ 114 ∷ 10 ∷ []

-- "pads.tbl"
abbrev pub inline_name : List ℕ
inline_name = 112 ∷ 97 ∷ 100 ∷ 115 ∷ 46 ∷ 116 ∷ 98 ∷ 108 ∷ []

-- "0.42 dry" and a line feed
abbrev pub inline_content : List ℕ
inline_content = 48 ∷ 46 ∷ 52 ∷ 50 ∷ 32 ∷ 100 ∷ 114 ∷ 121 ∷ 10 ∷ []

-- "roads"
abbrev pub folder_name : List ℕ
folder_name = 114 ∷ 111 ∷ 97 ∷ 100 ∷ 115 ∷ []

-- "wet.bin"
abbrev pub inner_name : List ℕ
inner_name = 119 ∷ 101 ∷ 116 ∷ 46 ∷ 98 ∷ 105 ∷ 110 ∷ []

-- 28 and 100, 16 bits each
abbrev pub inner_content : List ℕ
inner_content = 0x1C ∷ 0x00 ∷ 0x64 ∷ 0x00 ∷ []

-- "roads/wet.bin"
abbrev pub inner_path : List ℕ
inner_path = folder_name ++ (slash ∷ inner_name)

-- "brake.log/x", through a file
abbrev pub through_file : List ℕ
through_file = name ++ (slash ∷ 120 ∷ [])

-- "gone/wet.bin", through a folder that the card doesn't have
abbrev pub through_missing : List ℕ
through_missing = 103 ∷ 111 ∷ 110 ∷ 101 ∷ slash ∷ inner_name

-- ---- the blocks

-- the mark; logs and units; the block count; segment counts (8,191: checkpoint 2, SIT 2, NAT 2, SSA all that is left, main 1); where
-- segment 0 and the five areas start; the three inode numbers
unfoldable pub superblock : List ℕ
superblock =
    filled 0
    (at 1024 (0x10 ∷ 0x20 ∷ 0xF5 ∷ 0xF2 ∷ [])
    ∷ numbers_at 1032 (9 ∷ 3 ∷ 12 ∷ 9 ∷ 1 ∷ 1 ∷ [])
    ∷ numbers_at 1060 (4194304 ∷ 0 ∷ [])
    ∷ numbers_at 1072 (8191 ∷ 2 ∷ 2 ∷ 2 ∷ 8184 ∷ 1 ∷ [])
    ∷ numbers_at 1096 (512 ∷ 512 ∷ 1536 ∷ 2560 ∷ 3584 ∷ 4193792 ∷ [])
    ∷ numbers_at 1120 (3 ∷ 1 ∷ 2 ∷ [])
    ∷ [])

-- the checksum that the pack's blocks hold
abbrev pub checksum : ℕ
checksum = 3931937229

-- first and last block of the checkpoint pack: version 1; flags unmount and compact, three blocks, summaries in block 1; the sizes of
-- the two maps, whose bits are all 0, and the checksum's offset; the checksum
unfoldable pub pack : List ℕ
pack =
    filled 0
    (numbers_at 0 (1 ∷ 0 ∷ [])
    ∷ numbers_at 132 (5 ∷ 3 ∷ 1 ∷ [])
    ∷ numbers_at 156 (64 ∷ 64 ∷ 4092 ∷ [])
    ∷ numbers_at 4092 (checksum ∷ [])
    ∷ [])

-- the NAT journal has one entry: the root, inode 3, is at block 4193792
unfoldable pub journal : List ℕ
journal = filled 0 (at 0 (1 ∷ 0 ∷ []) ∷ numbers_at 2 (3 ∷ []) ∷ numbers_at 7 (3 ∷ 4193792 ∷ []) ∷ [])

-- the first block of the SIT has the entry of the one main segment: its first eight blocks and its last are valid
unfoldable pub sit_block : List ℕ
sit_block = filled 0 (at 0 (9 ∷ 0 ∷ 0xFF ∷ []) ∷ at 65 (0x01 ∷ []) ∷ [])

-- the first block of the NAT has four more: the root's files, inodes 4 and 5, are at blocks 4193794 and 4193796, its folder, inode 6, is at
-- 4193797, and the folder's file, inode 7, at 4193798
unfoldable pub nat_block : List ℕ
nat_block =
    filled 0
    (numbers_at 37 (4 ∷ 4193794 ∷ [])
    ∷ numbers_at 46 (5 ∷ 4193796 ∷ [])
    ∷ numbers_at 55 (6 ∷ 4193797 ∷ [])
    ∷ numbers_at 64 (7 ∷ 4193798 ∷ [])
    ∷ [])

-- an inode: mode, inline byte, size, depth, directory level, the parts of its address area, and the footer
abbrev pub inode : List ℕ → ℕ → ℕ → ℕ → ℕ → List Part → ℕ → List ℕ
inode mode inline size depth level area number =
    filled 0
    (at 0 mode
    ∷ at 3 (inline ∷ [])
    ∷ numbers_at 16 (size ∷ 0 ∷ [])
    ∷ numbers_at 72 (depth ∷ [])
    ∷ at 347 (level ∷ [])
    ∷ (area ++ (numbers_at 4072 (number ∷ number ∷ 0 ∷ []) ∷ [])))

-- a directory of depth 1 and directory level 2: four buckets of two blocks, of which the first has its first block at 4193795, the last
-- at 4193793, and all others are holes
unfoldable pub root_inode : List ℕ
root_inode = inode (0xED ∷ 0x41 ∷ []) 0 28672 1 2 (numbers_at 360 (4193795 ∷ 0 ∷ 0 ∷ 0 ∷ 0 ∷ 0 ∷ 4193793 ∷ []) ∷ []) 3

-- a regular file; its block 0 is a hole, its block 1 is at 4194303. In a file the level isn't consulted
unfoldable pub file_inode : List ℕ
file_inode = inode (0xA4 ∷ 0x81 ∷ []) 0 4103 0 31 (numbers_at 360 (0 ∷ 4194303 ∷ []) ∷ []) 4

-- a regular file whose bytes are in its inode: neither the address word before them nor the byte behind them is the file's
unfoldable pub inline_inode : List ℕ
inline_inode = inode (0xA4 ∷ 0x81 ∷ []) 2 9 0 0 (numbers_at 360 (4194303 ∷ []) ∷ at 364 (inline_content ++ (0xFF ∷ [])) ∷ []) 5

-- a directory entry: hash, inode number, the name's length, type
abbrev pub entry : ℕ → ℕ → ℕ → ℕ → List ℕ
entry hash ino long type = bytes_of (hash ∷ ino ∷ []) ++ (long ∷ 0 ∷ type ∷ [])

-- the root's first bucket: "." and "..", whose hash is 0, in slots 0 and 1
unfoldable pub dots_block : List ℕ
dots_block = filled 0 (at 0 (3 ∷ []) ∷ at 30 (entry 0 3 1 2 ++ entry 0 3 2 2) ∷ at 2384 (46 ∷ []) ∷ at 2392 (46 ∷ 46 ∷ []) ∷ [])

-- its last: "brake.log" in slots 0 and 1, "pads.tbl" in slot 2, "roads" in slot 3
unfoldable pub dentry_block : List ℕ
dentry_block =
    filled 0
    (at 0 (15 ∷ [])
    ∷ at 30 (entry 3025346403 4 9 1)
    ∷ at 52 (entry 3748076867 5 8 1 ++ entry 717294463 6 5 2)
    ∷ at 2384 name
    ∷ at 2400 inline_name
    ∷ at 2408 folder_name
    ∷ [])

-- a directory whose slots are in its inode, from byte 364 on: ".", ".." and "wet.bin" in slots 0 to 2
unfoldable pub folder_inode : List ℕ
folder_inode =
    inode (0xED ∷ 0x41 ∷ []) 4 3488 1 0
    (at 364 (7 ∷ [])
    ∷ at 394 (entry 0 6 1 2 ++ entry 0 3 2 2 ++ entry 1968758198 7 7 1)
    ∷ at 2396 (46 ∷ [])
    ∷ at 2404 (46 ∷ 46 ∷ [])
    ∷ at 2412 inner_name
    ∷ [])
    6

-- a regular file; its block 0 is at 4193799
unfoldable pub inner_inode : List ℕ
inner_inode = inode (0xA4 ∷ 0x81 ∷ []) 0 4 0 0 (numbers_at 360 (4193799 ∷ []) ∷ []) 7

-- block 1 of "brake.log": behind its seven bytes stands one that isn't the file's
unfoldable pub data_block : List ℕ
data_block = filled 0 (at 0 content ∷ at 7 (0xFF ∷ []) ∷ [])

-- block 0 of "wet.bin", likewise
unfoldable pub inner_block : List ℕ
inner_block = filled 0 (at 0 inner_content ∷ at 4 (0xFF ∷ []) ∷ [])

-- ---- the card

-- one block, so many times
pub record Run : Type 0 where
  pub times : ℕ
  pub block : List ℕ

abbrev pub once : List ℕ → Run
once block = record { times = 1; block = block }

abbrev pub empty : ℕ → Run
empty times = record { times = times; block = zeros }

-- all blocks in order: both copies of the superblock; from block 512 on the checkpoint pack, from 1536 the SIT, from 2560 the NAT, from 3584
-- the SSA; from 4193792 to 4194303 the main area
unfoldable pub runs : List Run
runs =
    once superblock ∷ once superblock ∷ empty 510
    ∷ once pack ∷ once journal ∷ once pack ∷ empty 1021
    ∷ once sit_block ∷ empty 1023
    ∷ once nat_block ∷ empty 1023
    ∷ empty 4190208
    ∷ once root_inode ∷ once dentry_block ∷ once file_inode ∷ once dots_block ∷ once inline_inode
    ∷ once folder_inode ∷ once inner_inode ∷ once inner_block ∷ empty 503 ∷ once data_block
    ∷ []

-- the blocks one by one
unfoldable pub laid_out : List Run → List (List ℕ)
laid_out [] = []
laid_out (r ∷ rs) = replicate r.times r.block ++ laid_out rs

-- one block behind the other
unfoldable pub joined : List (List ℕ) → List ℕ
joined [] = []
joined (b ∷ bs) = b ++ joined bs

-- the card's bytes
unfoldable pub image : List ℕ
image = joined (laid_out runs)

-- block b, found by its run
unfoldable pub block_in : List Run → ℕ → List ℕ
block_in [] b = []
block_in (r ∷ rs) b = choose (ltb b r.times) r.block (block_in rs (b - r.times))

-- the same by its blocks
abbrev pub card : Card
card = record { blocks = 4194304; block = block_in runs }
