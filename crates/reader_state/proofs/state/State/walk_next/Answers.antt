-- `walk_next` meets its contract: a table block, a node or a data block came.
use Prim.Native.Nat.{◌≤◌, ◌<◌}
use native.Mathlib.Omega.{arith}
use mathlib.Core.Path.{◌≡◌, sym}
use lib.ListN.{length}
use Rattle.reader_state.specs.Resume.{path_in}
use Rattle.reader_state.specs.State.{bytes_in}
use Rattle.reader_state.proofs.States.{fit_of}
use Rattle.reader_state.proofs.Fitting.{path_length_lem}
use Rattle.reader_state.proofs.Stages.{walk_kept, node_known, data_known, table_decided, node_decided, data_decided}
use Rattle.reader_state.proofs.state.State.walk_next.Goals as goal
use Rattle.reader_state.proofs.state.State.walk_next.Goals.{Else-stage-eq10, Start}

later : (k : Else-stage-eq10) → 10 < k.args.self.at.stage
later k = omega (arith, k.requires.0, k.if-stage-eq9.false, k.if-stage-eq10.false)

-- the path's bytes
path_here : (s : Start) → length (path_in s.args.self.at (bytes_in s.args.self)) ≡ s.args.self.at.path_length
path_here s = path_length_lem s.args.self.at s.args.self.sized (fit_of s.args.self).path

path_few : (s : Start) → length (path_in s.args.self.at (bytes_in s.args.self)) ≤ 2048
path_few s = omega (arith, path_here s, (fit_of s.args.self).path)

pub returns-then-stage-eq9 : goal.returns-then-stage-eq9
returns-then-stage-eq9 c =
    let at = c.args.self.at in
    let m = (bytes_in c.args.self) in
    rw c.walk_on.ensures
    (table_decided at m (fit_of c.args.self) c.requires.0 c.args.bytes.now c.requires.1 c.if-stage-eq9.true c.table_came-m.result
    (c.table_came-m.ensures.by_index m.first m.journal (path_in at m) at.index m.held) c.table_came-m.ensures.target_value)

pub invariant_of-kept : goal.invariant_of-kept
invariant_of-kept c =
    let mem = bytes_in c.args.self in
    record { fits = walk_kept c.args.self.at mem (fit_of c.args.self) c.requires.0 }

pub invariant_of-kept-2 : goal.invariant_of-kept-2
invariant_of-kept-2 c =
    let mem = bytes_in c.args.self in
    record { fits = walk_kept c.args.self.at mem (fit_of c.args.self) c.requires.0 }

pub slice_bounds-names-end : goal.slice_bounds-names-end
slice_bounds-names-end c = sym (path_here (goal.at.slice_bounds-names-end c).Start)

pub node_came-m-requires : goal.node_came-m-requires
node_came-m-requires c =
    let here = goal.at.node_came-m-requires c in
    let mem = bytes_in c.args.self in
    let fit = (fit_of c.args.self) in
    let known = node_known c.args.self.at mem fit c.requires.0 (omega (arith, c.if-stage-eq10.true)) in
    record {
      inode_len = (fit.sized.held, c.requires.1, path_few here.Start, known.0);
      spot_in = known.1;
    }

pub returns-then-stage-eq10 : goal.returns-then-stage-eq10
returns-then-stage-eq10 c =
    let mem = bytes_in c.args.self in
    rw (c.walk_on-then-stage-eq10.ensures, c.keep_if.ensures)
    (node_decided c.args.self.at mem (fit_of c.args.self) c.requires.0 c.args.bytes.now c.requires.1 c.if-stage-eq10.true c.node_came-m.result
    c.node_came-m.ensures.result_value c.node_came-m.ensures.move_in)

pub data_came-m-requires : goal.data_came-m-requires
data_came-m-requires c =
    let fit = (fit_of c.args.self) in
    let m = bytes_in c.args.self in
    record {
      inode_len = (fit.sized.held, c.requires.1, path_few (goal.at.data_came-m-requires c).Start);
      spot_in = data_known c.args.self.at m fit c.requires.0 (later (goal.at.data_came-m-requires c).Else-stage-eq10);
    }

pub returns : goal.returns
returns c =
    let here = goal.at.returns c in
    let mem = bytes_in c.args.self in
    rw (c.walk_on-2.ensures, c.keep_if-2.ensures)
    (data_decided c.args.self.at mem (fit_of c.args.self) c.requires.0 c.args.bytes.now c.requires.1 (later here.Else-stage-eq10) c.data_came-m.result
    c.data_came-m.ensures.result_value c.data_came-m.ensures.move_in)
