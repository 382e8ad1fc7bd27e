-- The trees of opening by cases: what the code tests, and the tree that is left then. No stage is named.
use Prim.Native.Nat.{ℕ}
use mathlib.Core.Path.{◌≡◌, refl}
use mathlib.Core.Bool.{Bool, true, false, ◌&&◌, not}
use mathlib.Core.List.{List}
use borrow.Author.Tests.{not-true, not-false}
use Rattle.std.specs.Prelude.{Option, None}
use Rattle.field.specs.Choice.{choose}
use Rattle.field.proofs.Choosing.{clash}
use Rattle.superblock.specs.declared.Areas.{Areas}
use Rattle.superblock.specs.declared.Superblock.{Superblock}
use Rattle.superblock.specs.Areas.{Refused, accepted}
use Rattle.superblock.specs.Superblock.{copy_of, superblock_of, passes}
use Rattle.checkpoint.specs.Checkpoint.{checkpoint_of}
use Rattle.checkpoint.specs.Pack.{first_passes, last_passes, newer, second_pack}
use Rattle.checkpoint.specs.Volume.{header_readable, volume_of}
use Rattle.asking.specs.Asking.{Asking, ask}
use Rattle.asking.specs.Open.{Opens, refuses, tried_by, last_of, journal_came, journal_ask, choose_pack, two_last, two_first, two_ask}
use Rattle.asking.specs.Open.{one_last, one_first, areas_ask, first_copy_after, second_copy_after}
use Rattle.asking.specs.Pull.{Ending}

module _ (k : Opens → Asking Ending) where
  -- ---- a copy of the superblock
  module _ (blocks : ℕ) (block : List ℕ) where
    abbrev copy_came : Bool → Asking Ending
    copy_came second = choose second (second_copy_after k blocks block) (first_copy_after k blocks block)

    pub copy_passes_lem : (second : Bool) → passes blocks (copy_of block) ≡ true → copy_came second ≡ areas_ask k (accepted (superblock_of (copy_of block)))
    unfolding first_copy_after second_copy_after
    copy_passes_lem true p = rw p
    copy_passes_lem false p = rw p

    pub second_fails : (second : Bool) → second ≡ true → passes blocks (copy_of block) ≡ false → copy_came second ≡ k (refuses 5)
    unfolding second_copy_after
    second_fails second e p = rw (e, p)

    pub first_fails : (second : Bool) → second ≡ false → passes blocks (copy_of block) ≡ false → copy_came second ≡ ask 1 (second_copy_after k blocks)
    unfolding first_copy_after
    first_fails second e p = rw (e, p)

  pub areas_refused : (s : Superblock) {n : ℕ} → accepted s ≡ Refused n → areas_ask k (accepted s) ≡ k (refuses n)
  areas_refused s e = rw e

  module _ (a : Areas) where
    -- ---- a pack's first block
    module _ (first : List ℕ) where
      pub one_passes : first_passes first ≡ true → one_first k a first ≡ ask (last_of a.checkpoint first) (one_last k a first)
      unfolding one_first
      one_passes p = rw p

      pub one_fails : first_passes first ≡ false → one_first k a first ≡ two_ask k a None
      unfolding one_first
      one_fails p = rw p

      pub two_passes : (one : Option (List ℕ)) → first_passes first ≡ true
          → two_first k a one first ≡ ask (last_of (second_pack a.checkpoint) first) (two_last k a one first)
      unfolding two_first
      two_passes one p = rw p

      pub two_fails : (one : Option (List ℕ)) → first_passes first ≡ false → two_first k a one first ≡ choose_pack k a one None
      unfolding two_first
      two_fails one p = rw p

    -- ---- which pack is chosen, by whether the first one passes
    module _ (one two : List ℕ) where
      pub none_passes : (p : Bool) → p ≡ false → choose_pack k a (tried_by p one) None ≡ k (refuses 7)
      unfolding choose_pack
      none_passes p e = rw e

      pub first_alone : (p : Bool) → p ≡ true → choose_pack k a (tried_by p one) None ≡ journal_ask k a a.checkpoint one
      unfolding choose_pack
      first_alone p e = rw e

      -- the second one's last block fails
      pub last_fails : (tried : Option (List ℕ)) (last : List ℕ) → last_passes last (checkpoint_of two).checkpoint_ver ≡ false
          → two_last k a tried two last ≡ choose_pack k a tried None
      last_fails tried last e = rw e

      -- it passes: the first one stays if it passes and the second isn't newer
      module _ (last : List ℕ) (e : last_passes last (checkpoint_of two).checkpoint_ver ≡ true) where
        pub first_stays : (p : Bool) → (p && not (newer (checkpoint_of one) (checkpoint_of two))) ≡ true
            → two_last k a (tried_by p one) two last ≡ choose_pack k a (tried_by p one) None
        unfolding choose_pack
        first_stays true h = rw (e, not-true (newer (checkpoint_of one) (checkpoint_of two)) h)
        first_stays false h = absurd (clash h refl)

        pub second_wins : (p : Bool) → (p && not (newer (checkpoint_of one) (checkpoint_of two))) ≡ false
            → two_last k a (tried_by p one) two last ≡ journal_ask k a (second_pack a.checkpoint) two
        unfolding choose_pack
        second_wins true h = rw (e, not-false (newer (checkpoint_of one) (checkpoint_of two)) h)
        second_wins false h = rw e

    -- ---- the chosen pack
    module _ (start : ℕ) (first : List ℕ) where
      pub header_refuses : header_readable a (checkpoint_of first) ≡ false → journal_ask k a start first ≡ k (refuses 8)
      unfolding journal_ask
      header_refuses p = rw p

      pub header_reads : header_readable a (checkpoint_of first) ≡ true → let v = volume_of a start (checkpoint_of first) in
          journal_ask k a start first ≡ ask v.journal_block (journal_came k v first)
      unfolding journal_ask
      header_reads p = rw p
