-- The ways that opening goes: what the code follows, and what the laws on opened volumes stand on.
use Rattle.std.proofs.Common.{◌≡◌, ℕ, Bool, true, false, ◌&&◌, List, length, sym, ap, subst, ◌∙◌}
use Rattle.std.specs.Prelude.{Result, Ok, Err}
use Rattle.answer.specs.declared.Refusal.{Refusal}
use Rattle.answer.specs.Number.{refusal_number}
use Rattle.field.specs.Card.{Card, card_of}
use Rattle.field.specs.Choice.{choose}
use Rattle.superblock.specs.Shape.{in_shape}
use Rattle.superblock.specs.declared.shaped_image.ShapedImage.{ShapedImage}
use Rattle.superblock.specs.Shaped.{shaped_card, Shaped}
use Rattle.superblock.specs.Areas.{found, Found}
use Rattle.superblock.specs.declared.Areas.{Areas}
use Rattle.checkpoint.specs.declared.Checkpoint.{Checkpoint}
use Rattle.checkpoint.specs.declared.Volume.{Volume}
use Rattle.checkpoint.specs.Volume.{Opened, Refused}
use Rattle.checkpoint.specs.Checkpoint.{header_of}
use Rattle.checkpoint.specs.Volume.{header_readable, volume_of, journal_of, journal_readable, open_pack, open_areas, opened, opened_image}

-- a choice whose first test fails
other_way : {A : Type 0} (s t : Bool) (one other : A) → s ≡ false → choose (s && t) one other ≡ other
other_way s t one other h = rw h

-- the three ways of a chosen pack, by its header
module _ (card : Card) (a : Areas) (start : ℕ) (cp : Checkpoint) (read : cp ≡ header_of card start) where
  pub header_refuses : header_readable a cp ≡ false → open_pack card a start ≡ Refused 8
  unfolding open_pack
  header_refuses p =
      let v = volume_of a start (header_of card start) in
      other_way (header_readable a (header_of card start)) (journal_readable (journal_of card v)) (Opened v) (Refused 8) (rw (← read) p)

  module _ (v : Volume) (e : v ≡ volume_of a start cp) (p : header_readable a cp ≡ true) where
    pub journal_refuses : journal_readable (journal_of card v) ≡ false → open_pack card a start ≡ Refused 8
    unfolding open_pack
    journal_refuses q = rw (← read, p, rw e at q)

    pub pack_opens : journal_readable (journal_of card v) ≡ true → open_pack card a start ≡ Opened v
    unfolding open_pack
    pack_opens q = rw (← read, p, rw e at q, ← e)

-- an image out of shape, and in shape
module _ (image : List ℕ) where
  pub shape_refuses : in_shape (length image) ≡ false → opened_image image ≡ Refused 4
  unfolding opened_image
  shape_refuses p = rw p

  pub shape_opens : in_shape (length image) ≡ true → opened_image image ≡ opened (card_of image)
  unfolding opened_image
  shape_opens p = rw p

-- what the test of its shape came to
module _ (image : List ℕ) {r : Result ShapedImage Refusal} where
  pub tested_opens : {s : ShapedImage} → r ≡ Ok s → Shaped image r → opened_image image ≡ opened (shaped_card s)
  tested_opens e h =
      let whole = subst (Shaped image) e h in
      shape_opens image whole.0 ∙ ap (λ (l : List ℕ). opened (card_of l)) (sym whole.1)

  pub tested_refuses : {refusal : Refusal} → r ≡ Err refusal → Shaped image r → opened_image image ≡ Refused (refusal_number refusal)
  tested_refuses e h =
      let out = subst (Shaped image) e h in
      shape_refuses image out.0 ∙ ap (λ x. Refused (refusal_number x)) (sym out.1)

pub opened_at : (card : Card) (found' : Found) → found card ≡ found' → opened card ≡ open_areas card found'
unfolding opened
opened_at card found' e = rw e
