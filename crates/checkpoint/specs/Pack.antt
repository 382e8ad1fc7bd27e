-- The two checkpoint packs: which of them pass, and which is chosen.
use Rattle.std.specs.Prelude.{ℕ, ◌+◌, ◌-◌, ◌%◌, ◌^◌, Bool, ◌&&◌, List, take, ◌==◌, nat_le, nat_lt, Option, Some, None}
use Rattle.field.specs.Number.{le32}
use Rattle.field.specs.Card.{Card}
use Rattle.field.specs.Choice.{choose}
use Rattle.crc32.specs.Checksum.{checksum_of}
use Rattle.checkpoint.specs.declared.Checkpoint.{Checkpoint}
use Rattle.checkpoint.specs.Checkpoint.{checkpoint_of, header_of}

-- "A block passes if its checksum offset (164) is 4,092 and the number there is the .. CRC-32 .. over the first 4,092 bytes."
unfoldable pub block_passes : List ℕ → Bool
block_passes block = (checkpoint_of block).checksum_offset == 4092 && le32 block 4092 == checksum_of (take 4092 block)

-- "its first block passes, its total (offset 136) is 2 to 512"
unfoldable pub first_passes : List ℕ → Bool
first_passes first =
    block_passes first && nat_le 2 (checkpoint_of first).cp_pack_total_block_count
    && nat_le (checkpoint_of first).cp_pack_total_block_count 512

-- a pack's last block "passes and has the same version (64 bits, offset 0)"
unfoldable pub last_passes : List ℕ → ℕ → Bool
last_passes last version = block_passes last && (checkpoint_of last).checkpoint_ver == version

-- "block total − 1" of a pack
abbrev pub last_block : Card → ℕ → ℕ
last_block card start = start + ((header_of card start).cp_pack_total_block_count - 1)

-- "A pack passes if its first block passes, its total (offset 136) is 2 to 512, and block total − 1 passes and has the same version"
unfoldable pub pack_passes : Card → ℕ → Bool
pack_passes card start =
    first_passes (card.block start) && last_passes (card.block (last_block card start)) (header_of card start).checkpoint_ver

-- K3: "the 64-bit difference, wrapped", second minus first; 2 ^ 64 comes first, since a difference of numbers stops at 0
abbrev pub wrapped_difference : ℕ → ℕ → ℕ
wrapped_difference first second = (second + 2 ^ 64 - first) % 2 ^ 64

-- K3: such a difference "as a signed number" is "above zero"; from 2 ^ 63 on it is below
abbrev pub above_zero : ℕ → Bool
above_zero d = nat_lt 0 d && nat_lt d (2 ^ 63)

-- K3: "the second pack wins exactly if second minus first is above zero"; in Linux, `ver_after(second, first)`
unfoldable pub newer : Checkpoint → Checkpoint → Bool
newer first second = above_zero (wrapped_difference first.checkpoint_ver second.checkpoint_ver)

-- "Packs start at the checkpoint address and 512 blocks on."
abbrev pub second_pack : ℕ → ℕ
second_pack address = address + 512

-- which pack is chosen, by its first block: "Of two that pass" the second if it wins, else the first; None is answer 7
unfoldable pub chosen : Card → ℕ → Option ℕ
chosen card address =
    choose (pack_passes card address)
    (choose (pack_passes card (second_pack address) && newer (header_of card address) (header_of card (second_pack address)))
    (Some (second_pack address)) (Some address))
    (choose (pack_passes card (second_pack address)) (Some (second_pack address)) None)
