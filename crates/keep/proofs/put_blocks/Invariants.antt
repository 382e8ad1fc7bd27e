-- The invariant: what is left, laid from here on, is all laid at the start; what is left lies inside the card.
use mathlib.Core.Path.{◌≡◌}
use Prim.Native.Nat.{◌+◌, ◌-◌, ◌*◌, ◌<◌}
use lib.ListN.{length}
use Prim.Native.Nat.{ℕ}
use Rattle.field.specs.Card.{card_of}
use mathlib.Core.List.{List}
use Rattle.list.specs.Lists.{AllOf, numbers, listing}
use Rattle.buffer.specs.Laid.{laid_at}
use Rattle.keep.specs.Parts.{blocks_of}
use Rattle.keep.proofs.Turns.{left}
use Rattle.keep.proofs.put_blocks.Given as goal

abbrev pub invariant-loop-i : goal.invariant-loop-i
invariant-loop-i l =
    (length l.room ≡ length l.initial.room) × AllOf (λ b. b < (card_of l.image).blocks) (numbers l.blocks l.i (l.count - l.i))
    × (laid_at (l.at + 4100 * l.i) (left (λ (bytes : List ℕ). bytes) (card_of l.image).block l.blocks l.i l.count) l.room
    ≡ laid_at l.at (blocks_of (card_of l.image) (listing l.blocks l.count)) l.initial.room)
