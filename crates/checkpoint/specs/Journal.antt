-- What a pack's flags say, and where its NAT journal is, by the pack's header.
use Rattle.std.specs.Prelude.{ℕ, ◌-◌, ◌/◌, ◌%◌, Bool, ◌&&◌, ◌||◌, ◌==◌, nat_le}
use Rattle.field.specs.Choice.{choose}
use Rattle.checkpoint.specs.declared.Checkpoint.{Checkpoint}

-- the flag of the value `one` is set
abbrev pub flag_set : ℕ → ℕ → Bool
flag_set flags one = flags / one % 2 == 1

-- "Flags (132): unmount 1, compact 4, fastboot 20 hex, large NAT map 400 hex."
abbrev pub unmount : Checkpoint → Bool
unmount cp = flag_set cp.ckpt_flags 1

abbrev pub compact_in : ℕ → Bool
compact_in flags = flag_set flags 4

abbrev pub compact : Checkpoint → Bool
compact cp = compact_in cp.ckpt_flags

abbrev pub fastboot : Checkpoint → Bool
fastboot cp = flag_set cp.ckpt_flags 32

abbrev pub large_nat_map : Checkpoint → Bool
large_nat_map cp = flag_set cp.ckpt_flags 1024

-- K9: "the chosen pack's flags hold error (8) or needs-check (10 hex)"; in Linux, CP_ERROR_FLAG and CP_FSCK_FLAG
unfoldable pub damaged : Checkpoint → Bool
damaged cp = flag_set cp.ckpt_flags 8 || flag_set cp.ckpt_flags 16

-- the journal block, counted in the pack. "Compact: the journal block is the start-of-summaries number (140)"; "Else it is block
-- total − 7 with unmount or fastboot, total − 4 without": 0 where the pack is too short for that
unfoldable pub journal_in : Checkpoint → ℕ
journal_in cp =
    choose (compact cp) cp.cp_pack_start_sum
    (cp.cp_pack_total_block_count - choose (unmount cp || fastboot cp) 7 4)

-- "1 to total − 2", "and at least 1": of the two places counted from the end neither is past total − 2
unfoldable pub journal_placed : Checkpoint → Bool
journal_placed cp = nat_le 1 (journal_in cp) && nat_le (journal_in cp) (cp.cp_pack_total_block_count - 2)

-- "NAT journal at its byte 0", "journal at its byte 3,584"
unfoldable pub journal_offset : Checkpoint → ℕ
journal_offset cp = choose (compact cp) 0 3584
