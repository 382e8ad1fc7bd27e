-- `step` meets its contract: after the answer the state is handed back, else what was decided is kept and listed.
use native.Mathlib.Omega.{arith}
use mathlib.Core.Path.{◌≡◌}
use lib.ListN.{length}
use borrow.Author.Rules.{rules}
use Rattle.reader.proofs.Stepping.{repeats_stepped}
use Rattle.reader.proofs.Advancing.{kept_whole, journal_whole, nodes_ready, blocks_ready, step_stepped}
use Rattle.reader.proofs.Reader.step.Goals as goal

pub returns-then-t-eq0 : goal.returns-then-t-eq0
returns-then-t-eq0 c = repeats_stepped c.args.self _ c.if-t-eq0.true

pub keep_block-requires : goal.keep_block-requires
keep_block-requires c = λ keeps. kept_whole c.args.self c.args.bytes.now c.decide-d.result c.decide-d.ensures keeps

pub keep_journal-requires : goal.keep_journal-requires
keep_journal-requires c =
    λ keeps. journal_whole c.args.self c.args.bytes.now c.decide-d.result c.decide-d.ensures keeps

pub list_number-requires : goal.list_number-requires
list_number-requires c =
    let ready = nodes_ready c.args.self c.args.bytes.now c.decide-d.result c.decide-d.ensures in
    let room : length c.args.self.nodes ≡ 5620 = search rules in
    (omega (arith, ready.0), omega (arith, ready.0), ready.1)

pub list_number-requires-2 : goal.list_number-requires-2
list_number-requires-2 c =
    let ready = blocks_ready c.args.self c.args.bytes.now c.decide-d.result c.decide-d.ensures in
    let room : length c.args.self.blocks ≡ 7480 = search rules in
    (omega (arith, ready.0), omega (arith, ready.0), ready.1)

pub returns : goal.returns
returns c =
    let r = c.args.self in
    let bytes = c.args.bytes.now in
    let d = c.decide-d.result in
    step_stepped r bytes d c.decide-d.ensures _ _ _ _ _ _ _ c.keep_block.ensures.0 c.keep_block.ensures.1 c.keep_journal.ensures
    c.list_number.ensures c.list_number-2.ensures c.if-t-eq0.false
