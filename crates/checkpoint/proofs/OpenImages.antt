-- What a caller of `open` has, by what it got.
use Rattle.std.proofs.Common.{◌≡◌, List, ℕ, sym, ap, subst, ◌∙◌}
use Rattle.std.specs.Prelude.{Result, Ok, Err}
use Rattle.answer.specs.declared.Refusal.{Refusal}
use Rattle.answer.specs.Number.{refusal_number}
use Rattle.field.specs.Card.{card_of}
use Rattle.checkpoint.specs.declared.open_image.OpenImage.{OpenImage}
use Rattle.checkpoint.specs.Volume.{Opened, Refused, opened_image}
use Rattle.checkpoint.specs.OpenImage.{card_in, opening_of, IsOf}

module _ (image : List ℕ) (r : Result OpenImage Refusal) where
  -- an image that opens: its volume, and its card
  module _ (o : OpenImage) (e : r ≡ Ok o) where
    pub opens_to : opening_of r ≡ opened_image image → opened_image image ≡ Opened o.volume
    opens_to h = sym h ∙ ap opening_of e

    pub card_is : IsOf image r → card_in o ≡ card_of image
    card_is h = ap card_of (subst (IsOf image) e h)

  pub refuses_by : (refusal : Refusal) → r ≡ Err refusal → opening_of r ≡ opened_image image → opened_image image ≡ Refused (refusal_number refusal)
  refuses_by refusal e h = sym h ∙ ap opening_of e
