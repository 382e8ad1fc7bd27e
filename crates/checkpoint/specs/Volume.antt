-- Opening a card: the volume that its superblock and its chosen pack describe, or the answer 5 to 8.
use Rattle.std.specs.Prelude.{◌≡◌, ℕ, ◌+◌, ◌*◌, ◌<◌, ◌≤◌, Bool, false, true, not, ◌&&◌, ◌||◌, List, length, drop, ◌==◌, nat_le, Option, Some, None}
use Rattle.field.specs.Number.{le16}
use Rattle.field.specs.Card.{Card, card_of}
use Rattle.field.specs.Choice.{choose}
use Rattle.journal.specs.Journal.{count_within, names_twice}
use Rattle.superblock.specs.Shape.{in_shape}
use Rattle.superblock.specs.Areas.{found, AreasIn, Found}
use Rattle.superblock.specs.declared.Areas.{Areas}
use Rattle.superblock.specs.Areas as f
use Rattle.checkpoint.specs.declared.Checkpoint.{Checkpoint}
use Rattle.checkpoint.specs.declared.Volume.{Volume}
use Rattle.checkpoint.specs.Checkpoint.{header_of}
use Rattle.checkpoint.specs.Pack.{chosen}
use Rattle.checkpoint.specs.Journal.{compact_in, large_nat_map, damaged, journal_in, journal_placed, journal_offset}

-- what opening comes to: the volume, or the number of the answer that refuses the image
pub data Opening : Type 0 where
  Opened : Volume → Opening
  Refused : ℕ → Opening

-- "The SIT map starts at 192, the NAT map after it"
abbrev pub nat_map_at : Checkpoint → ℕ
nat_map_at cp = 192 + cp.sit_ver_bitmap_bytesize

-- "Answer 8 if the large map is set; the SIT map size (156) isn't 32 × SIT segments or the NAT map size (160) isn't 32 × NAT
-- segments; 192 + both sizes > 4,092; or the journal block is out of place"
unfoldable pub maps_readable : Areas → Checkpoint → Bool
maps_readable a cp =
    not (large_nat_map cp) && cp.sit_ver_bitmap_bytesize == 32 * a.sit_segments
    && cp.nat_ver_bitmap_bytesize == 32 * a.nat_segments
    && nat_le (192 + cp.sit_ver_bitmap_bytesize + cp.nat_ver_bitmap_bytesize) 4092 && journal_placed cp

-- K9: "Answer 8 also if" a flag says that the volume is damaged
unfoldable pub header_readable : Areas → Checkpoint → Bool
header_readable a cp = not (damaged cp) && maps_readable a cp

-- the volume of the areas and a pack: where the pack starts, and its header
abbrev pub volume_of : Areas → ℕ → Checkpoint → Volume
volume_of a start cp =
    record {
      areas = a;
      pack = start;
      total = cp.cp_pack_total_block_count;
      flags = cp.ckpt_flags;
      nat_map = nat_map_at cp;
      journal_block = start + journal_in cp;
      journal_at = journal_offset cp;
    }

-- the NAT journal's bytes: from its start in its block to the block's end
abbrev pub journal_of : Card → Volume → List ℕ
journal_of card v = drop v.journal_at (card.block v.journal_block)

-- "A journal is a 16-bit count, at most 38 (else 8), then 13-byte entries"; K9: 8 "also if .. the NAT journal names one number twice"
unfoldable pub journal_readable : List ℕ → Bool
journal_readable journal = count_within 38 journal && not (names_twice 13 journal)

-- what makes a chosen pack readable; if it isn't, the answer is 8
unfoldable pub open_pack : Card → Areas → ℕ → Opening
open_pack card a start =
    let v : Volume = volume_of a start (header_of card start) in
    choose (header_readable a (header_of card start) && journal_readable (journal_of card v)) (Opened v) (Refused 8)

abbrev pub open_chosen : Card → Areas → Option ℕ → Opening
open_chosen card a (Some start) = open_pack card a start
open_chosen card a None = Refused 7

abbrev pub open_areas : Card → Found → Opening
open_areas card (f.At a) = open_chosen card a (chosen card a.checkpoint)
open_areas card (f.Refused answer) = Refused answer

-- a card's volume, or the first of 5, 6, 7, 8 that applies to it
unfoldable pub opened : Card → Opening
opened card = open_areas card (found card)

-- the same of an image: "An image opens if its length is in shape and none of 5 to 8 applies to it"
unfoldable pub opened_image : List ℕ → Opening
opened_image image = choose (in_shape (length image)) (opened (card_of image)) (Refused 4)

-- the chosen pack is compact
abbrev pub is_compact : Volume → Bool
is_compact v = compact_in v.flags

-- what holds of an opened volume on a card of so many blocks: what node lookup, a walk and a reader of SIT entries read lies inside
-- the card. In a pack that isn't compact the second block behind the journal block lies before the SIT area
pub record PlacesIn (blocks : ℕ) (v : Volume) : Type 0 where
  pub areas_in : AreasIn blocks v.areas
  pub pack_inside : v.pack < blocks
  pub map_starts : v.nat_map ≡ 192 + 32 * v.areas.sit_segments
  pub map_inside : v.nat_map + 32 * v.areas.nat_segments ≤ 4092
  pub journal_inside : v.journal_block < blocks
  pub cold_inside : is_compact v ≡ false → v.journal_block + 2 < v.areas.sit
  pub journal_starts : (v.journal_at == 0 || v.journal_at == 3584) ≡ true

-- and what the card holds there is readable
pub record VolumeIn (card : Card) (v : Volume) : Type 0 where
  pub places : PlacesIn card.blocks v
  pub journal_count : le16 (journal_of card v) 0 ≤ 38
  pub journal_once : names_twice 13 (journal_of card v) ≡ false
