-- `journal_next` meets its contract: the journal can't be searched, or the walk begins.
use Prim.Native.Nat.{◌+◌, ◌-◌}
use native.Mathlib.Omega.{arith}
use mathlib.Core.Path.{◌≡◌, sym, ◌∙◌}
use mathlib.Core.Bool.{true}
use lib.ListN.{drop}
use Rattle.checkpoint.specs.Volume.{journal_readable}
use Rattle.reader_state.specs.Resume.{path_in}
use Rattle.reader_state.specs.State.{bytes_in}
use Rattle.reader_state.proofs.States.{fit_of}
use Rattle.reader_state.proofs.Opened.{refuse_decided, journal_inside_lem, journal_kept}
use Rattle.reader_state.proofs.Stages.{journal_decided}
use Rattle.reader_state.proofs.state.State.journal_next.Goals as goal
use Rattle.reader_state.proofs.state.State.journal_next.Goals.{Else-not-journal_readable}

readable : (k : Else-not-journal_readable) → let a = k.args in journal_readable (drop a.self.at.volume.journal_at a.bytes.now) ≡ true
readable k = sym k.journal_readable.ensures ∙ k.if-not-journal_readable.false

-- its 512 bytes
part : (k : Else-not-journal_readable) → let at = k.args.self.at.volume.journal_at in at + 512 - at ≡ 512
part k = omega arith

-- ---- the needs
pub journal_readable-requires : goal.journal_readable-requires
journal_readable-requires c =
    let mem = bytes_in c.args.self in
    (c.requires.1, journal_inside_lem c.args.self.at mem c.args.bytes.now (fit_of c.args.self) c.requires.0)

pub returns-then-not-journal_readable : goal.returns-then-not-journal_readable
returns-then-not-journal_readable c =
    let mem = bytes_in c.args.self in
    let closed = sym c.journal_readable.ensures ∙ c.if-not-journal_readable.true in
    rw c.refuses_at.ensures (refuse_decided c.args.self.at mem c.args.bytes.now (fit_of c.args.self) c.requires.0 closed)

pub slice_bounds-kept-end : goal.slice_bounds-kept-end
slice_bounds-kept-end c =
    let mem = bytes_in c.args.self in
    let inside = journal_inside_lem c.args.self.at mem c.args.bytes.now (fit_of c.args.self) c.requires.0 in
    omega (arith, inside, c.requires.1)

pub invariant_of-kept : goal.invariant_of-kept
invariant_of-kept c =
    let here = goal.at.invariant_of-kept c in
    let mem = bytes_in c.args.self in
    record {
      fits = rw (part here.Else-not-journal_readable)
          (journal_kept c.args.self.at mem c.args.bytes.now (fit_of c.args.self) c.requires.0 c.requires.1 (readable here.Else-not-journal_readable));
    }

pub returns : goal.returns
returns c =
    let here = goal.at.returns c in
    let mem = bytes_in c.args.self in
    let at = c.args.self.at in
    let same = c.enter-m.ensures.by_index (path_in at mem) at.index c.args.self.held.now in
    rw c.walk_on.ensures
    (journal_decided at mem c.args.bytes.now (fit_of c.args.self) c.requires.0 c.requires.1 (readable here.Else-not-journal_readable) c.enter-m.result
    (λ t. rw (part here.Else-not-journal_readable) at (same t)) (c.enter-m.ensures.by_index_2 (path_in at mem) at.index c.args.self.held.now))
