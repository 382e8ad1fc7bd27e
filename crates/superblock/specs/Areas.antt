-- Which copy of the superblock is used, and the areas that it names.
use Rattle.std.specs.Prelude.{◌≡◌, ◌&&◌, ℕ, ◌+◌, ◌*◌, ◌%◌, ◌≤◌, eqb}
use Rattle.field.specs.Card.{Card}
use Rattle.field.specs.Choice.{choose}
use Rattle.superblock.specs.declared.Superblock.{Superblock}
use Rattle.superblock.specs.declared.Areas.{Areas}
use Rattle.superblock.specs.Superblock.{copy_in, superblock_of, end_of, copy_passes}

-- what is found: the areas, or the number of the answer that refuses the card
pub data Found : Type 0 where
  At : Areas → Found
  Refused : ℕ → Found

-- the address of each area in blocks, and its size in segments; the main area's end is the first block behind it
abbrev pub areas_of : Superblock → Areas
areas_of s =
    record {
      checkpoint = s.cp_blkaddr;
      sit = s.sit_blkaddr;
      sit_segments = s.segment_count_sit;
      nat = s.nat_blkaddr;
      nat_segments = s.segment_count_nat;
      ssa = s.ssa_blkaddr;
      ssa_segments = s.segment_count_ssa;
      main = s.main_blkaddr;
      main_segments = s.segment_count_main;
      main_end = end_of s.main_blkaddr s.segment_count_main;
    }

-- answer 6: "feature word not 0, or payload not 0", of the copy used
abbrev pub accepted : Superblock → Found
accepted s = choose (eqb s.feature 0 && eqb s.cp_payload 0) (At (areas_of s)) (Refused 6)

abbrev pub accepted_copy : Card → ℕ → Found
accepted_copy card b = accepted (superblock_of (copy_in card b))

-- "At byte 1,024 of block 0; only if that copy doesn't pass, of block 1." Answer 5: "no superblock copy passes"
unfoldable pub found : Card → Found
found card =
    choose (copy_passes card 0) (accepted_copy card 0)
    (choose (copy_passes card 1) (accepted_copy card 1) (Refused 5))

-- what holds of the areas that were found: they follow each other inside a card of so many blocks
pub record AreasIn (blocks : ℕ) (a : Areas) : Type 0 where
  pub after_copies : 2 ≤ a.checkpoint
  pub sit_starts : a.sit ≡ a.checkpoint + 1024
  pub nat_starts : a.nat ≡ a.sit + 512 * a.sit_segments
  pub ssa_starts : a.ssa ≡ a.nat + 512 * a.nat_segments
  pub main_starts : a.main ≡ a.ssa + 512 * a.ssa_segments
  pub main_ends : a.main_end ≡ a.main + 512 * a.main_segments
  pub in_card : a.main_end ≤ blocks
  pub sit_even : a.sit_segments % 2 ≡ 0
  pub nat_even : a.nat_segments % 2 ≡ 0
  pub sit_some : 2 ≤ a.sit_segments
  pub nat_some : 2 ≤ a.nat_segments
