-- Opening for SIT entries: the ways that it goes, what is known of a volume that was opened so, and the answers that refuse an image.
use mathlib.Core.Path.{◌≡◌, refl}
use mathlib.Core.Bool.{true, false}
use mathlib.Core.List.{List}
use mathlib.Core.Logic.{⊎_elim}
use Prim.Native.Nat.{ℕ, ◌≤◌}
use native.Mathlib.Omega.{arith}
use borrow.Author.Tests.{leb-true}
use Rattle.field.specs.Card.{card_of}
use Rattle.field.proofs.Choosing.{either}
use Rattle.superblock.proofs.Shaped.{shape_card}
use Rattle.checkpoint.specs.declared.Volume.{Volume}
use Rattle.checkpoint.specs.Volume.{Opening, Opened, Refused, opened_image}
use Rattle.checkpoint.proofs.Inside.{image_shaped, image_volume, refusals}
use Rattle.sit.specs.Table.{sit_journal_of}
use Rattle.sit.specs.Opening.{sit_journal_readable, opened_with_sit, SitIn}
use Rattle.sit.proofs.Inside.{journal_room}

module _ (image : List ℕ) where
  abbrev journal : Volume → List ℕ
  journal v = sit_journal_of (card_of image) v

  -- the three ways
  pub still_refused : (n : ℕ) → opened_image image ≡ Refused n → opened_with_sit image ≡ Refused n
  unfolding opened_with_sit
  still_refused n e = rw e

  module _ (v : Volume) (e : opened_image image ≡ Opened v) where
    pub journal_refuses : sit_journal_readable (journal v) ≡ false → opened_with_sit image ≡ Refused 8
    unfolding opened_with_sit
    journal_refuses p = rw (e, p)

    pub journal_opens : sit_journal_readable (journal v) ≡ true → opened_with_sit image ≡ Opened v
    unfolding opened_with_sit
    journal_opens p = rw (e, p)

    pub sit_in : sit_journal_readable (journal v) ≡ true → SitIn (card_of image) v
    unfolding sit_journal_readable
    sit_in p =
        let whole = image_volume image v e in
        let areas = whole.places.areas_in in
        let shape = shape_card image (image_shaped image v e) in
        record { volume = whole; journal_count = leb-true _ _ p; every_place = omega arith }

  -- which of them an opening went
  data Ways (o : Opening) : Type 0 where
    refused : (n : ℕ) → 4 ≤ n → n ≤ 8 → o ≡ Refused n → Ways o
    opens : (v : Volume) → opened_image image ≡ Opened v → SitIn (card_of image) v → o ≡ Opened v → Ways o

  ways : (o : Opening) → opened_image image ≡ o → Ways (opened_with_sit image)
  ways (Refused n) e = let r = refusals image n e in refused n r.0 r.1 (still_refused n e)
  ways (Opened v) e =
      ⊎_elim (λ p. opens v e (sit_in v e p) (journal_opens v e p))
      (λ p. refused 8 (omega arith) (omega arith) (journal_refuses v e p))
      (either (sit_journal_readable (journal v)))

  -- a volume that was opened so is the one that opening finds
  module _ (v : Volume) (h : opened_with_sit image ≡ Opened v) where
    both : (opened_image image ≡ Opened v) × SitIn (card_of image) v
    both = go (ways (opened_image image) refl)
      where
        go : Ways (opened_with_sit image) → (opened_image image ≡ Opened v) × SitIn (card_of image) v
        go (refused n l m e) = let z : ◌≡◌ {A = ℕ} 0 1 = cc in absurd (omega arith)
        go (opens u f s e) = let same : v ≡ u = cc in rw same (f, s)

    pub opened_image_lem : opened_image image ≡ Opened v
    opened_image_lem = both.0

    pub opened_sit : SitIn (card_of image) v
    opened_sit = both.1

  -- opening for SIT entries refuses no other answers than opening does
  pub refusals_sit : (n : ℕ) → opened_with_sit image ≡ Refused n → (4 ≤ n) × (n ≤ 8)
  refusals_sit n h = go (ways (opened_image image) refl)
    where
      go : Ways (opened_with_sit image) → (4 ≤ n) × (n ≤ 8)
      go (refused k l m e) = let same : n ≡ k = cc in (omega arith, omega arith)
      go (opens u f s e) = let z : ◌≡◌ {A = ℕ} 0 1 = cc in absurd (omega arith)

-- the ways, and what is known of the one that opens
pub ruleset ways_of_opening = (still_refused, journal_refuses, journal_opens, sit_in, journal_room)
