-- `decide` meets its contract: the state passed the test, and its arrays have their lengths.
use Rattle.reader_state.specs.Resume.{Memory, memory}
use Rattle.reader_state.specs.Fits.{Sized}
use borrow.Author.Rules.{rules}
use Rattle.reader_state.proofs.decide.Goals as goal

pub invariant_of-state : goal.invariant_of-state
invariant_of-state c =
    let m : Memory = memory c.args.path.now c.args.first.now c.args.held.now c.args.journal.now in
    let whole : Sized m = record { path = search rules; first = search rules; held = search rules; journal = search rules } in
    record { sized = whole; tested = c.requires.0 }
