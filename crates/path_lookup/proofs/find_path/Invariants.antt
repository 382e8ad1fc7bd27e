-- What is left of the lookup is the names from `start` on. The laws of a turn are in `Turns`.
use Prim.Native.Nat.{◌-◌}
use lib.ListN.{length}
use Rattle.walk.specs.Lent.{view_in, lent, SameLent}
use Rattle.node.specs.Node.{bounds_of}
use Rattle.path_lookup.proofs.Turns.{Names}
use Rattle.path_lookup.proofs.find_path.Given as goal

abbrev pub invariant-loop-ino : goal.invariant-loop-ino
invariant-loop-ino l =
    record {
      at : Names (view_in l.card) (bounds_of l.card.volume) l.path (lent l.initial.seen) l.start l.ino (lent l.seen);
      same : SameLent l.initial.seen l.seen;
    }

abbrev pub decreases-loop-ino : goal.decreases-loop-ino
decreases-loop-ino l = length l.path - l.start
