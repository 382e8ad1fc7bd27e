-- What opening finds on the card.
use Rattle.superblock.specs.declared.Areas.{Areas}
use Rattle.checkpoint.specs.declared.Volume.{Volume}

abbrev pub areas : Areas
areas =
    record {
      checkpoint = 512;
      sit = 1536;
      sit_segments = 2;
      nat = 2560;
      nat_segments = 2;
      ssa = 3584;
      ssa_segments = 8184;
      main = 4193792;
      main_segments = 1;
      main_end = 4194304;
    }

-- compact: the journal is at byte 0 of block 1 of the pack; the NAT map stands behind the SIT map's 64 bytes
abbrev pub volume : Volume
volume = record { areas = areas; pack = 512; total = 3; flags = 5; nat_map = 256; journal_block = 513; journal_at = 0 }
