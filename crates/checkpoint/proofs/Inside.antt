-- What is known of an opened volume, so that a reader of it opens no definition: all that it names lies inside the card. And
-- which answers refuse a card.
use Rattle.std.proofs.Common.{◌≡◌, ℕ, ◌<◌, ◌≤◌, true, false, ◌⊎◌, List, length, sym, refl, ◌∙◌, inl, inr, ⊎_elim, arith, length-drop}
use mathlib.Core.Bool.{and-false}
use borrow.Author.Tests.{not-true}
use Rattle.field.specs.Number.{le16}
use Rattle.field.specs.Card.{Card, card_of}
use Rattle.field.proofs.Choosing.{either, needed, needed_le}
use Rattle.field.proofs.Blocks.{length_block}
use Rattle.journal.specs.Journal.{names_twice}
use Rattle.superblock.specs.Shape.{in_shape}
use Rattle.superblock.specs.Areas.{found, AreasIn, Found}
use Rattle.superblock.specs.declared.Areas.{Areas}
use Rattle.superblock.specs.Areas as f
use Rattle.superblock.proofs.Finding.{areas_in_lem, found_kinds, not_both}
use Rattle.checkpoint.specs.declared.Checkpoint.{Checkpoint}
use Rattle.std.specs.Prelude.{Option, Some, None}
use Rattle.checkpoint.specs.declared.Volume.{Volume}
use Rattle.checkpoint.specs.Volume.{Opening, Opened, Refused, opened, opened_image, PlacesIn, VolumeIn}
use Rattle.checkpoint.specs.Pack.{second_pack, pack_passes, chosen}
use Rattle.checkpoint.specs.Checkpoint.{header_of}
use Rattle.checkpoint.specs.Volume.{maps_readable, header_readable, volume_of, journal_of, journal_readable, open_pack, open_chosen, open_areas}
use Rattle.checkpoint.proofs.Choosing.{chosen_passes}
use Rattle.checkpoint.proofs.Passing.{passing_total}
use Rattle.checkpoint.proofs.Reading.{starts_most, journal_starts_lem, map_starts_lem, map_inside_lem, cold_inside_lem, journal_inside_lem, readable_maps}
use Rattle.checkpoint.proofs.Ways.{header_refuses, journal_refuses, pack_opens, shape_refuses, shape_opens}

-- an opening is an answer from 5 to 8, or a volume inside the card
abbrev OpeningEnds : Card → Opening → Type 0
OpeningEnds card o = ((n : ℕ) × (5 ≤ n) × (n ≤ 8) × (o ≡ Refused n)) ⊎ ((v : Volume) × VolumeIn card v × (o ≡ Opened v))

ends_refused : {card : Card} {o : Opening} (n : ℕ) → 5 ≤ n → n ≤ 8 → o ≡ Refused n → OpeningEnds card o
ends_refused n l m e = inl (n, l, m, e)

module _ (journal : List ℕ) (h : journal_readable journal ≡ true) where
  journal_count_lem : le16 journal 0 ≤ 38
  unfolding journal_readable
  journal_count_lem = needed_le (λ p. rw p) h

  journal_once_lem : names_twice 13 journal ≡ false
  unfolding journal_readable
  journal_once_lem = not-true _ (needed (λ p. simp (p, and-false)) h)

module _ (card : Card) (a : Areas) (areas : AreasIn card.blocks a) where
  module _ (start : ℕ) (near : start ≤ second_pack a.checkpoint) (p : pack_passes card start ≡ true) where
    abbrev header : Checkpoint
    header = header_of card start

    abbrev volume : Volume
    volume = volume_of a start header

    places_in : maps_readable a header ≡ true → PlacesIn card.blocks volume
    places_in m =
        record {
          areas_in = areas;
          pack_inside = omega arith;
          map_starts = map_starts_lem a header m;
          map_inside = map_inside_lem a header m;
          journal_inside = omega (arith, passing_total card start p, journal_inside_lem a header m);
          cold_inside = λ e. omega (arith, passing_total card start p, cold_inside_lem a header m e);
          journal_starts = journal_starts_lem header;
        }

    volume_readable : header_readable a header ≡ true → journal_readable (journal_of card volume) ≡ true → VolumeIn card volume
    volume_readable h j =
        record {
          places = places_in (readable_maps a header h);
          journal_count = journal_count_lem (journal_of card volume) j;
          journal_once = journal_once_lem (journal_of card volume) j;
        }

    pack_ends : OpeningEnds card (open_pack card a start)
    pack_ends =
        ⊎_elim (λ h.
        ⊎_elim (λ j.
        inr (volume, volume_readable h j, pack_opens card a start header refl volume refl h j))
        (λ j. ends_refused 8 (omega arith) (omega arith) (journal_refuses card a start header refl volume refl h j))
        (either (journal_readable (journal_of card volume))))
        (λ h. ends_refused 8 (omega arith) (omega arith) (header_refuses card a start header refl h))
        (either (header_readable a header))

  chosen_ends : (k : Option ℕ) → chosen card a.checkpoint ≡ k → OpeningEnds card (open_chosen card a k)
  chosen_ends (Some start) e =
      let w = chosen_passes card a.checkpoint start e in pack_ends start w.1 w.0
  chosen_ends None e = ends_refused 7 (omega arith) (omega arith) refl

-- an opening isn't both
opens_or_refuses : {o : Opening} {v : Volume} {n : ℕ} → o ≡ Opened v → o ≡ Refused n → ⊥
opens_or_refuses p q = let z : ◌≡◌ {A = ℕ} 0 1 = cc in omega arith

found_answers : (card : Card) (n : ℕ) → found card ≡ f.Refused n → (5 ≤ n) × (n ≤ 8)
found_answers card n e =
    ⊎_elim (λ w. absurd (not_both w.2 e))
    (⊎_elim (λ w. let same : n ≡ 5 = cc in (omega arith, omega arith)) (λ w. let same : n ≡ 6 = cc in (omega arith, omega arith)))
    (found_kinds card)

found_ends : (card : Card) (k : Found) → found card ≡ k → OpeningEnds card (open_areas card k)
found_ends card (f.At a) e = chosen_ends card a (areas_in_lem card a e) (chosen card a.checkpoint) refl
found_ends card (f.Refused n) e = let w = found_answers card n e in ends_refused n w.0 w.1 refl

opened_ends : (card : Card) → OpeningEnds card (opened card)
unfolding opened
opened_ends card = found_ends card (found card) refl

pub volume_in : (card : Card) (v : Volume) → opened card ≡ Opened v → VolumeIn card v
volume_in card v h =
    ⊎_elim (λ w. absurd (opens_or_refuses h w.3))
    (λ w. let e = w.2 in let same : v ≡ w.0 = cc in rw same w.1)
    (opened_ends card)

-- the same of an image
module _ (image : List ℕ) (v : Volume) (h : opened_image image ≡ Opened v) where
  pub image_shaped : in_shape (length image) ≡ true
  image_shaped =
      ⊎_elim (λ p. p)
      (λ p. absurd (opens_or_refuses h (shape_refuses image p)))
      (either (in_shape (length image)))

  pub image_volume : VolumeIn (card_of image) v
  image_volume = volume_in (card_of image) v (sym (shape_opens image image_shaped) ∙ h)

-- the answers that refuse an image
pub refusals : (image : List ℕ) (n : ℕ) → opened_image image ≡ Refused n → (4 ≤ n) × (n ≤ 8)
refusals image n h =
    ⊎_elim (λ p.
    let e = shape_opens image p in
    ⊎_elim (λ w. let k = w.3 in let same : n ≡ w.0 = cc in (omega arith, omega arith))
    (λ w. absurd (opens_or_refuses (e ∙ w.2) h))
    (opened_ends (card_of image)))
    (λ p. let e = shape_refuses image p in let same : n ≡ 4 = cc in (omega arith, omega arith))
    (either (in_shape (length image)))

-- a journal has room for its count and 38 entries of 13 bytes
pub journal_room : (image : List ℕ) (v : Volume) → v.journal_block < (card_of image).blocks → v.journal_at ≤ 3584
    → 496 ≤ length (journal_of (card_of image) v)
journal_room image v inside starts = rw length-drop (omega (arith, length_block image v.journal_block inside))

-- where it starts, as a bound
pub journal_start : {blocks : ℕ} {v : Volume} → PlacesIn blocks v → v.journal_at ≤ 3584
journal_start h = starts_most _ h.journal_starts
