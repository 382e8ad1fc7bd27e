-- K9's reasons for 8, by the request's own numbers, and that there are no others beside document 01's. They are of the chosen pack, and a
-- pack that is marked is chosen as if it weren't (`passes_marked`, and `chosen_first`, `chosen_second` in Choosing): the other is not
-- read in its place.
use Rattle.std.proofs.Common.{◌≡◌, ℕ, ◌/◌, ◌%◌, ◌<◌, ◌≤◌, Bool, true, false, ◌||◌, List, refl, ap, ◌∙◌, ⊎_elim, arith, eq-eqb, ne_eqb, le-leb}
use mathlib.Core.Bool.{or-true, and-false}
use Rattle.field.specs.Number.{le16}
use Rattle.field.specs.Card.{Card}
use Rattle.field.proofs.Choosing.{either}
use Rattle.journal.specs.Journal.{number_of, names_twice}
use Rattle.journal.proofs.Once.{twice, two_entries}
use Rattle.superblock.specs.Areas.{found, At}
use Rattle.superblock.specs.declared.Areas.{Areas}
use Rattle.checkpoint.specs.declared.Checkpoint.{Checkpoint}
use Rattle.std.specs.Prelude.{Some}
use Rattle.checkpoint.specs.declared.Volume.{Volume}
use Rattle.checkpoint.specs.Volume.{Opened, Refused}
use Rattle.checkpoint.specs.Checkpoint.{header_of}
use Rattle.checkpoint.specs.Pack.{block_passes, first_passes, last_passes, last_block, pack_passes, chosen}
use Rattle.checkpoint.specs.Journal.{flag_set, damaged}
use Rattle.checkpoint.specs.Volume.{maps_readable, header_readable, volume_of, journal_of, journal_readable, open_pack, open_chosen, opened}
use Rattle.checkpoint.proofs.Ways.{header_refuses, journal_refuses, pack_opens, opened_at}

one_holds : (s t : Bool) → s ≡ true → (s || t) ≡ true
one_holds s t h = rw h

other_holds : (s t : Bool) → t ≡ true → (s || t) ≡ true
other_holds s t h = rw (h, or-true)

-- the choice looks at no flag: a pack passes by document 01's tests alone
pub passes_marked : (card : Card) (start : ℕ) → let total = (header_of card start).cp_pack_total_block_count in
    block_passes (card.block start) ≡ true → 2 ≤ total → total ≤ 512
    → last_passes (card.block (last_block card start)) (header_of card start).checkpoint_ver ≡ true → pack_passes card start ≡ true
unfolding pack_passes first_passes
passes_marked card start first least most last =
    let total = (header_of card start).cp_pack_total_block_count in
    rw (first, le-leb 2 total least, le-leb total 512 most, last)

-- a card with a superblock and a chosen pack
module _ (card : Card) (a : Areas) (start : ℕ) (areas : found card ≡ At a) (pack : chosen card a.checkpoint ≡ Some start) where
  abbrev header : Checkpoint
  header = header_of card start

  abbrev flags : ℕ
  flags = header.ckpt_flags

  abbrev volume : Volume
  volume = volume_of a start header

  abbrev journal : List ℕ
  journal = journal_of card volume

  opened_pack : opened card ≡ open_pack card a start
  opened_pack = opened_at card (At a) areas ∙ ap (open_chosen card a) pack

  damaged_refuses : damaged header ≡ true → opened card ≡ Refused 8
  unfolding header_readable
  damaged_refuses d = opened_pack ∙ header_refuses card a start header refl (rw d)

  -- "the chosen pack's flags hold error (8) or needs-check (10 hex)"
  pub error_refuses : flags / 8 % 2 ≡ 1 → opened card ≡ Refused 8
  unfolding damaged
  error_refuses e = damaged_refuses (one_holds (flag_set flags 8) (flag_set flags 16) (eq-eqb (flags / 8 % 2) 1 e))

  pub needs_check_refuses : flags / 16 % 2 ≡ 1 → opened card ≡ Refused 8
  unfolding damaged
  needs_check_refuses e = damaged_refuses (other_holds (flag_set flags 8) (flag_set flags 16) (eq-eqb (flags / 16 % 2) 1 e))

  -- "or the NAT journal names one number twice"
  pub twice_refuses : (i j : ℕ) → i < j → j < le16 journal 0 → number_of 13 journal i ≡ number_of 13 journal j → opened card ≡ Refused 8
  unfolding journal_readable
  twice_refuses i j l m e =
      ⊎_elim (λ h. opened_pack ∙ journal_refuses card a start header refl volume refl h (rw (twice 13 journal i j l m e, and-false)))
      (λ h. opened_pack ∙ header_refuses card a start header refl h)
      (either (header_readable a header))

  -- otherwise it opens, if its maps and its journal's place and count are as document 01 says
  module _ (noError : flags / 8 % 2 ≡ 0) (noCheck : flags / 16 % 2 ≡ 0) (maps : maps_readable a header ≡ true) (few : le16 journal 0 ≤ 38)
      (once : (i j : ℕ) → i < j → j < le16 journal 0 → number_of 13 journal i ≡ number_of 13 journal j → ⊥) where
    header_readable_lem : header_readable a header ≡ true
    unfolding header_readable damaged
    header_readable_lem = rw (ne_eqb (flags / 8 % 2) 1 (λ e. omega arith), ne_eqb (flags / 16 % 2) 1 (λ e. omega arith), maps)

    none_twice : names_twice 13 journal ≡ false
    none_twice =
        ⊎_elim (λ t. let w = two_entries 13 journal t in absurd (once w.one w.other w.before w.counted w.same))
        (λ t. t)
        (either (names_twice 13 journal))

    pub otherwise_opens : opened card ≡ Opened volume
    unfolding journal_readable
    otherwise_opens =
        opened_pack ∙ pack_opens card a start header refl volume refl header_readable_lem (rw (le-leb (le16 journal 0) 38 few, none_twice))
