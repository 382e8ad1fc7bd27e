-- What Compare answers.
use Rattle.std.specs.Prelude.{ℕ, ◌&&◌, List, length, Ok, Err}
use Rattle.field.specs.Card.{Card, card_of}
use Rattle.field.specs.Choice.{choose}
use Rattle.superblock.specs.Shape.{in_shape}
use Rattle.checkpoint.specs.declared.Volume.{Volume}
use Rattle.checkpoint.specs.Volume.{Opening, Opened, Refused, opened}
use Rattle.walk.specs.Walk.{view_of}
use Rattle.node.specs.Node.{bounds_of}
use Rattle.compare.specs.declared.Compared.{Compared}
use Rattle.compare.specs.declared.Difference.TheVariants.{BoundsDiffer, NodeDiffers, BlockDiffers}
use Rattle.list.specs.Lists.{Listed, entries}
use Rattle.compare.specs.Lists.{lists_in_shape}
use Rattle.compare.specs.Difference.{Told, difference}

-- "a result number that the answer doesn't name .. is 0"
abbrev pub answered : ℕ → ℕ → ℕ → ℕ → Compared
answered answer side kind number = record { answer = answer; side = side; kind = kind; number = number }

-- an answer 4 to 8, with the side, 1 or 2, where it has one
abbrev pub refused : ℕ → ℕ → Compared
refused answer side = answered answer side 0 0

-- "16, changed, with kind and number of the first difference: 1 main area bounds (number 0), 2 lowest node number (table answer),
-- 3 lowest block (bytes); else 15, same"
abbrev pub verdict : Told → Compared
verdict (Ok same) = answered 15 0 0 0
verdict (Err BoundsDiffer) = answered 16 0 1 0
verdict (Err (NodeDiffers n)) = answered 16 0 2 n
verdict (Err (BlockDiffers b)) = answered 16 0 3 b

-- both images opened: "then 4 if [the lists are out of shape]; then 16 ..; else 15"
unfoldable pub compared_open : Card → Volume → Card → Volume → Listed → Listed → Compared
compared_open kept v fresh u nodes blocks =
    choose (lists_in_shape (bounds_of v) nodes blocks)
    (verdict (difference (bounds_of v) (bounds_of u) (view_of kept v) (view_of fresh u) (entries nodes) (entries blocks)))
    (refused 4 0)

-- "then 5 to 8 for the kept image, then for the new one, with the side, 1 or 2"
abbrev pub after_fresh : Card → Volume → Card → Opening → Listed → Listed → Compared
after_fresh kept v fresh (Opened u) nodes blocks = compared_open kept v fresh u nodes blocks
after_fresh kept v fresh (Refused answer) nodes blocks = refused answer 2

abbrev pub after_kept : Card → Opening → Card → Listed → Listed → Compared
after_kept kept (Opened v) fresh nodes blocks = after_fresh kept v fresh (opened fresh) nodes blocks
after_kept kept (Refused answer) fresh nodes blocks = refused answer 1

-- "4 if either image's length is out of shape"
unfoldable pub compared : List ℕ → List ℕ → Listed → Listed → Compared
compared kept fresh nodes blocks =
    choose (in_shape (length kept) && in_shape (length fresh))
    (after_kept (card_of kept) (opened (card_of kept)) (card_of fresh) nodes blocks)
    (refused 4 0)
