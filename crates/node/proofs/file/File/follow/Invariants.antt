-- `follow` meets its contract. The loop's invariant: what is left of the walk is the way from a step on, from the block `node` and the
-- offset `at` in it.
use Rattle.checkpoint.specs.OpenImage.{card_in}
use Rattle.walk.specs.Lent.{view_in, lent, SameLent}
use Rattle.node.specs.Node.{bounds_of}
use Rattle.node.proofs.Following.{Course, Following}
use Rattle.node.proofs.file.File.follow.Given as goal

abbrev pub invariant-loop-step : goal.invariant-loop-step
invariant-loop-step l =
    let course : Course = record {
      card = card_in l.self.card;
      bounds = bounds_of l.self.card.volume;
      ino = l.self.ino;
      way = l.step-items;
      inode = l.self.inode;
      from = l.initial.at;
    } in
    record {
      turn : Following (view_in l.self.card) course (lent l.initial.seen) l.step-index l.node l.at (lent l.seen);
      same : SameLent l.initial.seen l.seen;
    }
