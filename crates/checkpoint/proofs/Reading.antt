-- Where the maps and the journals of a readable pack are: inside its first block, and inside the pack.
use Rattle.std.proofs.Common.{◌≡◌, ℕ, ◌+◌, ◌-◌, ◌*◌, ◌≤◌, ◌==◌, Bool, true, false, ◌||◌, ⊎_elim, refl, subst, arith}
use mathlib.Core.Bool.{and-false}
use Rattle.field.specs.Choice.{choose}
use Rattle.field.proofs.Choosing.{either, needed, needed_eq, needed_le}
use Rattle.superblock.specs.declared.Areas.{Areas}
use Rattle.checkpoint.specs.declared.Checkpoint.{Checkpoint}
use Rattle.checkpoint.specs.Journal.{unmount, fastboot, compact, journal_in, journal_placed, journal_offset}
use Rattle.checkpoint.specs.Volume.{nat_map_at, maps_readable, header_readable}

-- where a journal can start in its block
pub starts_most : (m : ℕ) → (m == 0 || m == 3584) ≡ true → m ≤ 3584
starts_most m h = go (m == 0) refl
  where
    go : (t : Bool) → (m == 0) ≡ t → m ≤ 3584
    go true p = let e : m ≡ 0 = needed_eq (λ q. q) p in omega arith
    go false p = let e : m ≡ 3584 = needed_eq (λ q. q) (subst (λ (t : Bool). (t || m == 3584) ≡ true) p h) in omega arith

module _ (cp : Checkpoint) where
  pub journal_starts_lem : (journal_offset cp == 0 || journal_offset cp == 3584) ≡ true
  unfolding journal_offset
  journal_starts_lem = ⊎_elim (λ p. rw p) (λ p. rw p) (either (compact cp))

  pub journal_at_most : journal_offset cp ≤ 3584
  journal_at_most = starts_most _ journal_starts_lem

  journal_before : journal_placed cp ≡ true → journal_in cp ≤ cp.cp_pack_total_block_count - 2
  unfolding journal_placed
  journal_before h = needed_le (λ p. simp (p, and-false)) h

  journal_behind : journal_placed cp ≡ true → 1 ≤ journal_in cp
  unfolding journal_placed
  journal_behind h = needed_le (λ p. rw p) h

  -- a journal block that is counted from the pack's end has two more between it and the last one
  cold_before : 1 ≤ journal_in cp → compact cp ≡ false → journal_in cp + 2 ≤ cp.cp_pack_total_block_count - 2
  unfolding journal_in
  cold_before h p =
      let first : 1 ≤ cp.cp_pack_total_block_count - choose (unmount cp || fastboot cp) 7 4 = rw p at h in
      ⊎_elim (λ (t : (unmount cp || fastboot cp) ≡ true). let f = rw t at first in rw (p, t) (omega arith))
      (λ (t : (unmount cp || fastboot cp) ≡ false). let f = rw t at first in rw (p, t) (omega arith))
      (either (unmount cp || fastboot cp))

module _ (a : Areas) (cp : Checkpoint) (h : maps_readable a cp ≡ true) where
  pub map_inside_lem : nat_map_at cp + 32 * a.nat_segments ≤ 4092
  unfolding maps_readable
  map_inside_lem =
      let size : cp.nat_ver_bitmap_bytesize ≡ 32 * a.nat_segments = needed_eq (λ p. simp (p, and-false)) h in
      let fits : 192 + cp.sit_ver_bitmap_bytesize + cp.nat_ver_bitmap_bytesize ≤ 4092 = needed_le (λ p. simp (p, and-false)) h in
      omega arith

  pub map_starts_lem : nat_map_at cp ≡ 192 + 32 * a.sit_segments
  unfolding maps_readable
  map_starts_lem =
      let size : cp.sit_ver_bitmap_bytesize ≡ 32 * a.sit_segments = needed_eq (λ p. simp (p, and-false)) h in
      omega arith

  pub cold_inside_lem : compact cp ≡ false → journal_in cp + 2 ≤ cp.cp_pack_total_block_count - 2
  unfolding maps_readable
  cold_inside_lem = cold_before cp (journal_behind cp (needed (λ p. simp (p, and-false)) h))

  pub journal_inside_lem : journal_in cp ≤ cp.cp_pack_total_block_count - 2
  unfolding maps_readable
  journal_inside_lem = journal_before cp (needed (λ p. simp (p, and-false)) h)

-- a header that is readable has readable maps
pub readable_maps : (a : Areas) (cp : Checkpoint) → header_readable a cp ≡ true → maps_readable a cp ≡ true
unfolding header_readable
readable_maps a cp h = needed (λ p. simp (p, and-false)) h
