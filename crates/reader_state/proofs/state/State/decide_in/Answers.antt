-- `decide_in` meets its contract: in the walk, at the journal, or before it.
use Prim.Native.Nat.{◌<◌}
use native.Mathlib.Omega.{arith}
use Rattle.reader_state.specs.State.{bytes_in}
use Rattle.reader_state.proofs.States.{fit_of}
use Rattle.reader_state.proofs.Opened.{open_decided}
use Rattle.reader_state.proofs.state.State.decide_in.Goals as goal
use Rattle.reader_state.proofs.state.State.decide_in.Goals.{Else-at-eq8}

early : (k : Else-at-eq8) → k.args.self.at.stage < 8
early k = omega (arith, k.if-at-ge9.false, k.if-at-eq8.false)

in_opening : (k : Else-at-eq8) → k.args.self.at.stage < 9
in_opening k = omega (arith, early k)

pub open_next-requires : goal.open_next-requires
open_next-requires c =
    (early c, c.requires)

pub returns : goal.returns
returns c =
    let here = goal.at.returns c in
    let mem = bytes_in c.args.self in
    rw c.open_on.ensures
    (open_decided c.args.self.at mem c.args.bytes.now (fit_of c.args.self) (in_opening here.Else-at-eq8) c.requires c.open_next.result
    c.open_next.ensures.result_value c.open_next.ensures.opening_in)
