-- The code's answers as the definitions': an image that opens stands for its card and volume, an error for its number.
use Rattle.std.specs.Prelude.{◌≡◌, List, ℕ, Result, Ok, Err}
use Rattle.answer.specs.declared.Refusal.{Refusal}
use Rattle.answer.specs.Number.{refusal_number}
use Rattle.field.specs.Card.{Card, card_of}
use Rattle.checkpoint.specs.declared.Volume.{Volume}
use Rattle.checkpoint.specs.declared.open_image.OpenImage.{OpenImage}
use Rattle.checkpoint.specs.Volume.{Opening, Opened, Refused}

-- the card of an image that opens
abbrev pub card_in : OpenImage → Card
card_in o = card_of o.image.now

abbrev pub volume_read : Result Volume Refusal → Opening
volume_read (Ok v) = Opened v
volume_read (Err refusal) = Refused (refusal_number refusal)

abbrev pub opening_of : Result OpenImage Refusal → Opening
opening_of (Ok o) = Opened o.volume
opening_of (Err refusal) = Refused (refusal_number refusal)

-- an image that opened is the one that was given
abbrev pub IsOf : List ℕ → Result OpenImage Refusal → Type 0
IsOf image (Ok o) = o.image.now ≡ image
IsOf image (Err refusal) = Unit {0}
