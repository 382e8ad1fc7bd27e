-- The header of a checkpoint block: what is read of it, under the names in the Linux header.
use Rattle.std.specs.Prelude.{ℕ, List}
use Rattle.field.specs.Number.{le32, le64}
use Rattle.field.specs.Card.{Card}
use Rattle.checkpoint.specs.declared.Checkpoint.{Checkpoint}

-- "version (64 bits, offset 0)", "Flags (132)", "total (offset 136)", "the start-of-summaries number (140)", "the SIT map size (156)",
-- "the NAT map size (160)", "checksum offset (164)"
unfoldable pub checkpoint_of : List ℕ → Checkpoint
checkpoint_of block =
    record {
      checkpoint_ver = le64 block 0;
      ckpt_flags = le32 block 132;
      cp_pack_total_block_count = le32 block 136;
      cp_pack_start_sum = le32 block 140;
      sit_ver_bitmap_bytesize = le32 block 156;
      nat_ver_bitmap_bytesize = le32 block 160;
      checksum_offset = le32 block 164;
    }

-- the header of the pack that starts at a block of a card
abbrev pub header_of : Card → ℕ → Checkpoint
header_of card start = checkpoint_of (card.block start)
