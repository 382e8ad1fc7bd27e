-- "An image has whole blocks, 2 to .. of them", the most by K8: "Raise the image limit to 4,194,304 blocks (16 GiB). 4,194,304 is in shape,
-- one more is 4 .."
use Rattle.std.specs.Prelude.{Bool, ◌&&◌, ℕ, ◌/◌, ◌%◌, ◌≤◌, eqb, leb}
use Rattle.field.specs.Card.{Card}

-- the most blocks that an image may have
abbrev pub most_blocks : ℕ
most_blocks = 4194304

-- an image of so many bytes is in shape
unfoldable pub in_shape : ℕ → Bool
in_shape bytes = eqb (bytes % 4096) 0 && leb 2 (bytes / 4096) && leb (bytes / 4096) most_blocks

-- what that says of its card
pub record InShape (card : Card) : Type 0 where
  pub least : 2 ≤ card.blocks
  pub most : card.blocks ≤ most_blocks
