-- The superblock: its fields, under their names in the Linux header, and when a copy passes.
use Rattle.std.specs.Prelude.{List, [], ◌∷◌, Bool, ◌&&◌, ℕ, ◌+◌, ◌*◌, ◌%◌, drop, eqb, leb}
use Rattle.field.specs.Number.{le32, le64}
use Rattle.field.specs.Card.{Card}
use Rattle.superblock.specs.declared.Superblock.{Superblock}
use Rattle.field.specs.Bytes.{same_at}

-- "At byte 1,024 of block 0", and of block 1: the bytes of a block's copy from its start on
abbrev pub copy_of : List ℕ → List ℕ
copy_of block = drop 1024 block

abbrev pub copy_in : Card → ℕ → List ℕ
copy_in card b = copy_of (card.block b)

-- "The first four bytes must be 10 20 F5 F2."
abbrev pub mark : List ℕ
mark = 0x10 ∷ 0x20 ∷ 0xF5 ∷ 0xF2 ∷ []

-- "Offsets from the start"
unfoldable pub superblock_of : List ℕ → Superblock
superblock_of copy =
    record {
      log_sectorsize = le32 copy 8;
      log_sectors_per_block = le32 copy 12;
      log_blocksize = le32 copy 16;
      log_blocks_per_seg = le32 copy 20;
      segs_per_sec = le32 copy 24;
      secs_per_zone = le32 copy 28;
      block_count = le64 copy 36;
      segment_count = le32 copy 48;
      segment_count_ckpt = le32 copy 52;
      segment_count_sit = le32 copy 56;
      segment_count_nat = le32 copy 60;
      segment_count_ssa = le32 copy 64;
      segment_count_main = le32 copy 68;
      segment0_blkaddr = le32 copy 72;
      cp_blkaddr = le32 copy 76;
      sit_blkaddr = le32 copy 80;
      nat_blkaddr = le32 copy 84;
      ssa_blkaddr = le32 copy 88;
      main_blkaddr = le32 copy 92;
      root_ino = le32 copy 96;
      node_ino = le32 copy 100;
      meta_ino = le32 copy 104;
      cp_payload = le32 copy 1664;
      feature = le32 copy 2180;
    }

-- "block log 12, segment log 9; sector log 9 to 12 and the two sector logs sum to 12"
unfoldable pub logs_pass : Superblock → Bool
logs_pass s =
    eqb s.log_blocksize 12 && eqb s.log_blocks_per_seg 9 && leb 9 s.log_sectorsize && leb s.log_sectorsize 12
    && eqb (s.log_sectorsize + s.log_sectors_per_block) 12

-- "sections and zones at least 1; inodes 3, 1, 2"
unfoldable pub units_pass : Superblock → Bool
units_pass s =
    leb 1 s.segs_per_sec && leb 1 s.secs_per_zone && eqb s.root_ino 3 && eqb s.node_ino 1 && eqb s.meta_ino 2

-- "even and at least 2"
abbrev pub even_pairs : ℕ → Bool
even_pairs count = eqb (count % 2) 0 && leb 2 count

-- "checkpoint segments 2; SIT and NAT counts even and at least 2"
unfoldable pub counts_pass : Superblock → Bool
counts_pass s = eqb s.segment_count_ckpt 2 && even_pairs s.segment_count_sit && even_pairs s.segment_count_nat

-- where so many segments end that start at a block; "A block is 4,096 bytes, a segment 512 blocks"
abbrev pub end_of : ℕ → ℕ → ℕ
end_of start segments = start + 512 * segments

-- "segment 0 = checkpoint address, at least 2 (both copies lie before it); each area starts where the one before ends"
unfoldable pub areas_pass : Superblock → Bool
areas_pass s =
    eqb s.segment0_blkaddr s.cp_blkaddr && leb 2 s.segment0_blkaddr
    && eqb s.sit_blkaddr (end_of s.cp_blkaddr s.segment_count_ckpt)
    && eqb s.nat_blkaddr (end_of s.sit_blkaddr s.segment_count_sit)
    && eqb s.ssa_blkaddr (end_of s.nat_blkaddr s.segment_count_nat)
    && eqb s.main_blkaddr (end_of s.ssa_blkaddr s.segment_count_ssa)

-- "main end ≤ segment 0 + 512 × segment count ≤ block count ≤ image blocks. Sums are exact, never wrapped."
unfoldable pub ends_pass : ℕ → Superblock → Bool
ends_pass blocks s =
    leb (end_of s.main_blkaddr s.segment_count_main) (end_of s.segment0_blkaddr s.segment_count)
    && leb (end_of s.segment0_blkaddr s.segment_count) s.block_count && leb s.block_count blocks

-- a copy's fields pass, on a card of so many blocks
unfoldable pub fields_pass : ℕ → Superblock → Bool
fields_pass blocks s = logs_pass s && units_pass s && counts_pass s && areas_pass s && ends_pass blocks s

-- "A copy passes", on a card of so many blocks
unfoldable pub passes : ℕ → List ℕ → Bool
passes blocks copy = same_at copy 0 mark && fields_pass blocks (superblock_of copy)

abbrev pub copy_passes : Card → ℕ → Bool
copy_passes card b = passes card.blocks (copy_in card b)
