-- Opening asks for seven blocks at most, each of them on the card, and what it keeps names table blocks on the card only.
use Prim.Native.Nat.{ℕ, suc, ◌+◌, ◌≤◌, ◌<◌}
use native.Mathlib.Omega.{arith}
use mathlib.Core.Path.{◌≡◌}
use mathlib.Core.Bool.{Bool, true, false, ◌&&◌}
use mathlib.Core.List.{List}
use lib.ListN.{drop}
use lib.Dec.{eqb}
use Rattle.std.proofs.Common.{Option, Some, None}
use Rattle.field.specs.Choice.{choose}
use Rattle.field.proofs.Maps.{top_bit_lem}
use Rattle.superblock.specs.declared.Areas.{Areas}
use Rattle.superblock.specs.declared.Superblock.{Superblock}
use Rattle.superblock.specs.Areas as f
use Rattle.superblock.specs.Superblock.{copy_of, superblock_of, passes}
use Rattle.superblock.specs.Areas.{areas_of, accepted, AreasIn}
use Rattle.superblock.proofs.Finding.{passing}
use Rattle.checkpoint.specs.Checkpoint.{checkpoint_of}
use Rattle.checkpoint.specs.Pack.{first_passes, last_passes, newer, second_pack}
use Rattle.checkpoint.specs.Volume.{header_readable, volume_of, journal_readable}
use Rattle.checkpoint.proofs.Passing.{first_total}
use Rattle.checkpoint.proofs.Reading.{journal_inside_lem, readable_maps}
use Rattle.nat.specs.Table.{in_range, table_block, nat_map_in}
use Rattle.nat.proofs.Range.{block_in_range}
use Rattle.asking.specs.Asking.{Asking, Few, asks}
use Rattle.asking.specs.Table.{Kept, address_for}
use Rattle.asking.specs.Open.{Opens, opens, refuses, tried_by, last_of, journal_came, journal_ask, choose_pack}
use Rattle.asking.specs.Open.{two_first, two_ask, one_first, areas_ask, second_copy_after, first_copy_after, open_ask}
use Rattle.asking.proofs.Sizes.{few_le, few_if}

-- what is known of an opening on a card of so many blocks
abbrev pub OpensIn : ℕ → Opens → Type 0
OpensIn blocks (opens t) = AreasIn blocks t.volume.areas
OpensIn blocks (refuses n) = (5 ≤ n) × (n ≤ 8)

-- a pack that was tried and passes has a total of 2 to 512
abbrev Whole : Option (List ℕ) → Type 0
Whole (Some first) = (2 ≤ (checkpoint_of first).cp_pack_total_block_count) × ((checkpoint_of first).cp_pack_total_block_count ≤ 512)
Whole None = Unit {0}

tried_whole : (t : Bool) (first : List ℕ) → Whole (Some first) → Whole (tried_by t first)
tried_whole true first w = w
tried_whole false first w = tt

module _ {A : Type 0} {Q : A → Type 0} {n : ℕ} (blocks : ℕ) (least : 2 ≤ blocks) (k : Opens → Asking A)
    (next : (x : Opens) → OpensIn blocks x → Few (λ b. b < blocks) Q n (k x)) where
  -- a tree that asks for so many blocks on the card
  abbrev On : ℕ → Asking A → Type 0
  On m x = Few (λ b. b < blocks) Q m x

  refusal : (m answer : ℕ) → n ≤ m → 5 ≤ answer → answer ≤ 8 → On m (k (refuses answer))
  refusal m answer l p q = few_le m l (next (refuses answer) (p, q))

  -- ---- the packs
  module _ (a : Areas) (i : AreasIn blocks a) where
    few_journal : (start : ℕ) (first : List ℕ) → start + 512 ≤ blocks → Whole (Some first) → On (suc n) (journal_ask k a start first)
    unfolding journal_ask journal_came
    few_journal start first inside whole =
        few_if (header_readable a (checkpoint_of first))
        (λ h.
        let before = journal_inside_lem a (checkpoint_of first) (readable_maps a (checkpoint_of first) h) in
        asks {b = (volume_of a start (checkpoint_of first)).journal_block} (omega arith) (λ l.
        few_if (journal_readable (drop (volume_of a start (checkpoint_of first)).journal_at l)) (λ _. next (opens _) i)
        (λ _. refusal n 8 (omega arith) (omega arith) (omega arith))))
        (λ _. refusal (suc n) 8 (omega arith) (omega arith) (omega arith))

    two_inside : second_pack a.checkpoint + 512 ≤ blocks
    two_inside = omega arith

    one_inside : a.checkpoint + 512 ≤ blocks
    one_inside = let h = two_inside in omega arith

    few_choose : (one two : Option (List ℕ)) → Whole one → Whole two → On (suc n) (choose_pack k a one two)
    unfolding choose_pack
    few_choose (Some one) (Some two) p q =
        few_if (newer (checkpoint_of one) (checkpoint_of two)) (λ _. few_journal _ two two_inside q) (λ _. few_journal _ one one_inside p)
    few_choose (Some one) None p q = few_journal _ one one_inside p
    few_choose None (Some two) p q = few_journal _ two two_inside q
    few_choose None None p q = refusal (suc n) 7 (omega arith) (omega arith) (omega arith)

    few_two : (one : Option (List ℕ)) → Whole one → On (n + 3) (two_ask k a one)
    unfolding two_first
    few_two one p =
        few_le (n + 3) (omega arith)
        (asks {b = second_pack a.checkpoint} (let h = two_inside in omega arith) (λ first.
        few_if (first_passes first)
        (λ h.
        let total = first_total first h in
        asks {b = last_of (second_pack a.checkpoint) first} (let g = two_inside in omega arith) (λ last.
        few_choose one _ p (tried_whole (last_passes last (checkpoint_of first).checkpoint_ver) first total)))
        (λ _. few_le (suc (suc n)) (omega arith) (few_choose one None p tt))))

    few_one : On (n + 5) (areas_ask k (f.At a))
    unfolding one_first
    few_one =
        few_le (n + 5) (omega arith)
        (asks {b = a.checkpoint} (let h = one_inside in omega arith) (λ first.
        few_if (first_passes first)
        (λ h.
        let total = first_total first h in
        asks {b = last_of a.checkpoint first} (let g = one_inside in omega arith) (λ last.
        few_two _ (tried_whole (last_passes last (checkpoint_of first).checkpoint_ver) first total)))
        (λ _. few_le (suc (n + 3)) (omega arith) (few_two None tt))))

  -- ---- the superblock
  few_accepted : (s : Superblock) → AreasIn blocks (areas_of s) → On (n + 5) (areas_ask k (accepted s))
  few_accepted s i = go (eqb s.feature 0 && eqb s.cp_payload 0)
    where
      go : (t : Bool) → On (n + 5) (areas_ask k (choose t (f.At (areas_of s)) (f.Refused 6)))
      go true = few_one (areas_of s) i
      go false = refusal _ 6 (omega arith) (omega arith) (omega arith)

  few_copy : (block : List ℕ) → passes blocks (copy_of block) ≡ true
      → On (n + 5) (areas_ask k (accepted (superblock_of (copy_of block))))
  few_copy block p = few_accepted (superblock_of (copy_of block)) (passing blocks (copy_of block) p)

  pub few_open : Few (λ b. b < blocks) Q (n + 7) (open_ask k blocks)
  unfolding open_ask first_copy_after second_copy_after
  few_open =
      few_le (n + 7) (omega arith)
      (asks {b = 0} (omega arith) (λ l.
      few_if (passes blocks (copy_of l)) (λ p. few_le (suc (n + 5)) (omega arith) (few_copy l p))
      (λ _.
      asks {b = 1} (omega arith) (λ m.
      few_if (passes blocks (copy_of m)) (λ p. few_copy m p) (λ _. refusal _ 5 (omega arith) (omega arith) (omega arith))))))

-- ---- a table block of what was kept
pub table_on_card : (blocks : ℕ) (t : Kept) → AreasIn blocks t.volume.areas → (n : ℕ) → in_range t.volume n ≡ true → address_for t n < blocks
unfolding address_for
table_on_card blocks t i n r =
    let b = block_in_range t.volume n r in
    let bit = top_bit_lem (nat_map_in t.volume t.first) (table_block n) in
    omega arith
