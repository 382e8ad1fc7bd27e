-- What a caller needs to know of a card's blocks before it reads in them.
use mathlib.Core.Path.{◌≡◌, ◌∙◌, ap}
use mathlib.Core.List.{List}
use Prim.Native.Nat.{ℕ, ◌*◌, ◌<◌}
use native.Mathlib.Omega.{arith}
use lib.ListN.{length, drop, length-drop}
use lib.Seq.{length-take-le}
use Rattle.field.specs.Card.{card_of, block_of}

-- every block is whole
pub length_block : (image : List ℕ) (b : ℕ) → b < (card_of image).blocks → length (block_of image b) ≡ 4096
unfolding block_of
length_block image b h =
    length-take-le 4096 (drop (b * 4096) image) (rw (length-drop (b * 4096) image) (omega arith))

-- the same of a slice that is a block
pub length_of_block : {block : List ℕ} (image : List ℕ) (b : ℕ) → b < (card_of image).blocks → block ≡ block_of image b → length block ≡ 4096
length_of_block image b h e = ap length e ∙ length_block image b h
