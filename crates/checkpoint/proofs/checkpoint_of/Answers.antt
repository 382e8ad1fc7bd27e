use Rattle.checkpoint.specs.Checkpoint.{checkpoint_of}
use Rattle.checkpoint.proofs.checkpoint_of.Goals as goal

pub returns : goal.returns
unfolding checkpoint_of
returns c =
    λ i. record {
      checkpoint_ver = c.get64.ensures i;
      ckpt_flags = c.get32.ensures i;
      cp_pack_total_block_count = c.get32-2.ensures i;
      cp_pack_start_sum = c.get32-3.ensures i;
      sit_ver_bitmap_bytesize = c.get32-4.ensures i;
      nat_ver_bitmap_bytesize = c.get32-5.ensures i;
      checksum_offset = c.get32-6.ensures i;
    }
