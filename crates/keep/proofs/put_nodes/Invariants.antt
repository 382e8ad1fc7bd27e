-- The invariant: what is left, laid from here on, is all laid at the start.
use mathlib.Core.Path.{◌≡◌}
use Prim.Native.Nat.{◌+◌, ◌*◌}
use lib.ListN.{length}
use Rattle.checkpoint.specs.OpenImage.{card_in}
use Rattle.nat.specs.Table.{table_answer}
use Rattle.list.specs.Lists.{listing}
use Rattle.buffer.specs.Laid.{laid_at}
use Rattle.keep_file.specs.Layout.{answer_bytes}
use Rattle.keep.specs.Parts.{nodes_of}
use Rattle.keep.proofs.Turns.{left}
use Rattle.keep.proofs.put_nodes.Given as goal

abbrev pub invariant-loop-i : goal.invariant-loop-i
invariant-loop-i l =
    (length l.room ≡ length l.initial.room)
    × (laid_at (l.at + 16 * l.i) (left answer_bytes (table_answer (card_in l.card) l.card.volume) l.nodes l.i l.count) l.room
    ≡ laid_at l.at (nodes_of (card_in l.card) l.card.volume (listing l.nodes l.count)) l.initial.room)
