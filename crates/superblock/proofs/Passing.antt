-- What the fields of a copy that passes say of its areas: the tests that a caller relies on, read as facts.
use mathlib.Core.Path.{◌≡◌, refl}
use mathlib.Core.Bool.{true, and-false}
use Prim.Native.Nat.{ℕ, ◌≤◌}
use native.Mathlib.Omega.{arith}
use Rattle.field.proofs.Choosing.{needed_eq, needed_le}
use Rattle.superblock.specs.declared.Superblock.{Superblock}
use Rattle.superblock.specs.Superblock.{end_of, counts_pass, areas_pass, ends_pass, fields_pass}
use Rattle.superblock.specs.Areas.{areas_of, AreasIn}

pub passes_in : (blocks : ℕ) (s : Superblock) → fields_pass blocks s ≡ true → AreasIn blocks (areas_of s)
unfolding fields_pass counts_pass areas_pass ends_pass
passes_in blocks s h =
    let segment0 : s.segment0_blkaddr ≡ s.cp_blkaddr = needed_eq (λ p. simp (p, and-false)) h in
    let behind : 2 ≤ s.segment0_blkaddr = needed_le (λ p. simp (p, and-false)) h in
    let two : s.segment_count_ckpt ≡ 2 = needed_eq (λ p. simp (p, and-false)) h in
    let follows : s.sit_blkaddr ≡ end_of s.cp_blkaddr s.segment_count_ckpt =
    needed_eq (λ p. simp (p, and-false)) h in
    let inside : end_of s.main_blkaddr s.segment_count_main
    ≤ end_of s.segment0_blkaddr s.segment_count = needed_le (λ p. simp (p, and-false)) h in
    let counted : end_of s.segment0_blkaddr s.segment_count ≤ s.block_count =
    needed_le (λ p. simp (p, and-false)) h in
    let held : s.block_count ≤ blocks = needed_le (λ p. simp (p, and-false)) h in
    record {
      after_copies = omega arith;
      sit_starts = omega arith;
      nat_starts = needed_eq (λ p. simp (p, and-false)) h;
      ssa_starts = needed_eq (λ p. simp (p, and-false)) h;
      main_starts = needed_eq (λ p. simp (p, and-false)) h;
      main_ends = refl;
      in_card = omega arith;
      sit_even = needed_eq (λ p. simp (p, and-false)) h;
      nat_even = needed_eq (λ p. simp (p, and-false)) h;
      sit_some = needed_le (λ p. simp (p, and-false)) h;
      nat_some = needed_le (λ p. simp (p, and-false)) h;
    }
