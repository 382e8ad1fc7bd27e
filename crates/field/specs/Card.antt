-- A card: how many blocks it has, and the bytes of each. What a card holds is always said of a card and not of an image, so
-- that a reader which holds the whole image and one which is fed its blocks can share it.
use Rattle.std.specs.Prelude.{List, ℕ, ◌*◌, ◌/◌, length, take, drop}

pub record Card : Type 0 where
  pub blocks : ℕ
  pub block : ℕ → List ℕ

-- "A block is 4,096 bytes": block b of an image
unfoldable pub block_of : List ℕ → ℕ → List ℕ
block_of image b = take 4096 (drop (b * 4096) image)

-- the card that an image's bytes are: its whole blocks
abbrev pub card_of : List ℕ → Card
card_of image = record { blocks = length image / 4096; block = block_of image }
