use native.Mathlib.Omega.{arith}
use Rattle.superblock.specs.Superblock.{superblock_of}
use Rattle.superblock.proofs.read_fields.Goals as goal

pub get32-requires-19 : goal.get32-requires-19
get32-requires-19 c = omega (arith, c.requires)

pub get32-requires-20 : goal.get32-requires-20
get32-requires-20 c = omega (arith, c.requires)

pub get32-requires-21 : goal.get32-requires-21
get32-requires-21 c = omega (arith, c.requires)

pub get32-requires-22 : goal.get32-requires-22
get32-requires-22 c = omega (arith, c.requires)

pub get32-requires-23 : goal.get32-requires-23
get32-requires-23 c = omega (arith, c.requires)

pub returns : goal.returns
unfolding superblock_of
returns c =
    λ i. record {
      log_sectorsize = c.get32.ensures i;
      log_sectors_per_block = c.get32-2.ensures i;
      log_blocksize = c.get32-3.ensures i;
      log_blocks_per_seg = c.get32-4.ensures i;
      segs_per_sec = c.get32-5.ensures i;
      secs_per_zone = c.get32-6.ensures i;
      block_count = c.get64.ensures i;
      segment_count = c.get32-7.ensures i;
      segment_count_ckpt = c.get32-8.ensures i;
      segment_count_sit = c.get32-9.ensures i;
      segment_count_nat = c.get32-10.ensures i;
      segment_count_ssa = c.get32-11.ensures i;
      segment_count_main = c.get32-12.ensures i;
      segment0_blkaddr = c.get32-13.ensures i;
      cp_blkaddr = c.get32-14.ensures i;
      sit_blkaddr = c.get32-15.ensures i;
      nat_blkaddr = c.get32-16.ensures i;
      ssa_blkaddr = c.get32-17.ensures i;
      main_blkaddr = c.get32-18.ensures i;
      root_ino = c.get32-19.ensures i;
      node_ino = c.get32-20.ensures i;
      meta_ino = c.get32-21.ensures i;
      cp_payload = c.get32-22.ensures i;
      feature = c.get32-23.ensures i;
    }
