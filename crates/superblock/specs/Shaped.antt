-- An image that was tested, as the definitions see it.
use Rattle.std.specs.Prelude.{◌≡◌, true, false, List, ℕ, length, Result, Ok, Err}
use Rattle.answer.specs.declared.Refusal.{Refusal}
use Rattle.answer.specs.declared.Refusal.TheVariants.{OutOfShape}
use Rattle.field.specs.Card.{Card, card_of}
use Rattle.superblock.specs.declared.shaped_image.ShapedImage.{ShapedImage}
use Rattle.superblock.specs.Shape.{in_shape}

-- its card
abbrev pub shaped_card : ShapedImage → Card
shaped_card image = card_of image.bytes.now

-- the image itself, if it is in shape; else it is out of shape, answer 4
abbrev pub Shaped : List ℕ → Result ShapedImage Refusal → Type 0
Shaped image (Ok shaped) = (in_shape (length image) ≡ true) × (shaped.bytes.now ≡ image)
Shaped image (Err refusal) = (in_shape (length image) ≡ false) × (refusal ≡ OutOfShape)
