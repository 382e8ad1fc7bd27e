-- What is read for a segment's entry lies inside the card, and every main segment has a place in the table.
use mathlib.Core.Path.{◌≡◌, refl}
use mathlib.Core.Bool.{true, false}
use mathlib.Core.List.{List}
use mathlib.Core.Logic.{⊎_elim}
use Prim.Native.Nat.{ℕ, ◌+◌, ◌*◌, ◌%◌, ◌≤◌, ◌<◌}
use native.Mathlib.Omega.{arith}
use lib.ListN.{length, drop, length-drop}
use lib.Seq.{length-take-le}
use lib.Dec.{eqb}
use Rattle.field.specs.Number.{le16}
use Rattle.field.specs.Map.{top_bit}
use Rattle.field.specs.Card.{Card, card_of}
use Rattle.field.proofs.Choosing.{either}
use Rattle.field.proofs.Blocks.{length_block}
use Rattle.checkpoint.specs.declared.Volume.{Volume}
use Rattle.checkpoint.specs.Volume.{is_compact, PlacesIn}
use Rattle.std.specs.Prelude.{Option, Some, None}
use Rattle.journal.specs.Journal.{entry_start, journal_find}
use Rattle.journal.proofs.Searching.{found_inside}
use Rattle.sit.specs.Table.{sit_journal_of, table_block, sit_map_of, table_address, entry_at, in_table, or_table, sit_entry}
use Rattle.sit.specs.Opening.{SitIn}

-- ---- the table
module _ (card : Card) (v : Volume) (h : SitIn card v) (segment : ℕ) (main : segment < v.areas.main_segments) where
  -- "Every main segment has a place there": its block is one of those that have two copies
  pub block_in_table : table_block segment < 256 * v.areas.sit_segments
  block_in_table = omega (arith, h.every_place)

  -- the copy that the map names, first or second, lies in the SIT area
  pub address_inside : (v.areas.sit ≤ table_address card v (table_block segment)) × (table_address card v (table_block segment) < v.areas.nat)
  unfolding table_address
  address_inside =
      let b = block_in_table in
      let a = h.volume.places.areas_in in
      ⊎_elim (λ (t : eqb (top_bit (sit_map_of card v) (table_block segment)) 1 ≡ true). rw t (omega arith, omega arith))
      (λ (t : eqb (top_bit (sit_map_of card v) (table_block segment)) 1 ≡ false). rw t (omega arith, omega arith))
      (either (eqb (top_bit (sit_map_of card v) (table_block segment)) 1))

  pub address_on_card : table_address card v (table_block segment) < card.blocks
  address_on_card =
      let b = address_inside in
      let a = h.volume.places.areas_in in
      omega arith

-- 74 bytes that are there
entry_whole : (bytes : List ℕ) (at : ℕ) → at + 74 ≤ length bytes → length (entry_at bytes at) ≡ 74
entry_whole bytes at h = length-take-le 74 (drop at bytes) (rw (length-drop at bytes) (omega arith))

-- ---- the journal
module _ (image : List ℕ) (v : Volume) where
  abbrev journal : List ℕ
  journal = sit_journal_of (card_of image) v

  -- it has room for its count and 6 entries of 78 bytes
  pub journal_room : PlacesIn (card_of image).blocks v → 512 ≤ length journal
  unfolding sit_journal_of
  journal_room h =
      let a = h.areas_in in
      ⊎_elim (λ (t : is_compact v ≡ true). rw (t, length-drop) (omega (arith, length_block image v.journal_block h.journal_inside)))
      (λ (t : is_compact v ≡ false).
      let c = h.cold_inside t in
      rw (t, length-drop) (omega (arith, length_block image (v.journal_block + 2) (omega arith))))
      (either (is_compact v))

  module _ (h : SitIn (card_of image) v) where
    pub journal_holds : entry_start 78 (le16 journal 0) ≤ length journal
    journal_holds = let n = h.journal_count in omega (arith, journal_room h.volume.places)

    -- an entry that is found lies inside
    pub journaled_inside : (segment at : ℕ) → journal_find 78 journal segment ≡ Some at → at + 78 ≤ length journal
    journaled_inside segment at e = omega (arith, found_inside 78 journal segment at e, journal_holds)

    -- every entry has 74 bytes
    module _ (segment : ℕ) (main : segment < v.areas.main_segments) where
      table_whole : length (in_table (card_of image) v segment) ≡ 74
      unfolding in_table
      table_whole =
          let b = table_address (card_of image) v (table_block segment) in
          let l = length_block image b (address_on_card (card_of image) v h segment main) in
          entry_whole ((card_of image).block b) (74 * (segment % 55)) (omega arith)

      pub entry_size : length (sit_entry (card_of image) v segment) ≡ 74
      unfolding sit_entry
      entry_size = go (journal_find 78 journal segment) refl
        where
          go : (s : Option ℕ) → journal_find 78 journal segment ≡ s → length (or_table journal s (in_table (card_of image) v segment)) ≡ 74
          go (Some at) e = entry_whole journal (at + 4) (omega (arith, journaled_inside segment at e))
          go None e = table_whole
