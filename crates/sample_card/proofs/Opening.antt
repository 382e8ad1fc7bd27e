-- What the definitions compute of the card, from its superblock to its volume.
use mathlib.Core.Path.{◌≡◌, refl}
use mathlib.Core.Bool.{true, false}
use Rattle.field.specs.Number.{le16, le32, le64}
use Rattle.field.specs.Bytes.{same_at}
use Rattle.journal.specs.Journal.{search_from, twice_among, names_twice}
use Rattle.superblock.specs.Areas.{At, found}
use Rattle.superblock.specs.Superblock.{superblock_of, logs_pass, units_pass, counts_pass, areas_pass, ends_pass, fields_pass, passes}
use Rattle.std.specs.Prelude.{Some}
use Rattle.checkpoint.specs.Volume.{Opened, maps_readable, header_readable, journal_readable, open_pack, opened}
use Rattle.checkpoint.specs.Pack.{block_passes, pack_passes, chosen, first_passes, last_passes}
use Rattle.checkpoint.specs.Checkpoint.{checkpoint_of}
use Rattle.checkpoint.specs.Journal.{damaged, journal_in, journal_placed, journal_offset}
use Rattle.list.specs.Lists.{bytes_of}
use Rattle.sample_card.specs.Image.{filled, zeros, superblock, checksum, pack, journal, runs, block_in, card}
use Rattle.sample_card.specs.Volume.{areas, volume}
use Rattle.sample_card.proofs.Checksum.{pack_sum}

areas_found : found card ≡ At areas
unfolding runs block_in superblock filled bytes_of le16 le32 le64 same_at superblock_of logs_pass units_pass counts_pass areas_pass ends_pass fields_pass
    passes found
areas_found = refl

-- ---- the packs

-- version, total, the checksum's offset, and the checksum as it is stored
pack_numbers : (le64 pack 0 ≡ 1) × (le32 pack 136 ≡ 3) × (le32 pack 164 ≡ 4092) × (le32 pack 4092 ≡ checksum)
unfolding pack filled bytes_of le16 le32 le64
pack_numbers = (refl, refl, refl, refl)

block_passes_lem : block_passes pack ≡ true
unfolding block_passes checkpoint_of
block_passes_lem = rw (pack_numbers.2, pack_numbers.3, pack_sum)

-- the first pack's last block is as its first; of the second pack there is none
first_passes_lem : pack_passes card 512 ≡ true
unfolding pack_passes first_passes last_passes checkpoint_of runs block_in
first_passes_lem = simp (pack_numbers.0, pack_numbers.1, block_passes_lem)

second_fails : pack_passes card 1024 ≡ false
unfolding pack_passes first_passes block_passes checkpoint_of runs block_in zeros le16 le32
second_fails = refl

first_chosen : chosen card 512 ≡ Some 512
unfolding chosen
first_chosen = rw (first_passes_lem, second_fails)

-- ---- the volume
pack_opens : open_pack card areas 512 ≡ Opened volume
unfolding runs block_in pack journal filled bytes_of le16 le32 checkpoint_of search_from twice_among names_twice journal_in journal_placed journal_offset
    damaged
    maps_readable header_readable journal_readable open_pack
pack_opens = refl

pub card_opens : opened card ≡ Opened volume
unfolding opened
card_opens = rw (areas_found, first_chosen) pack_opens
