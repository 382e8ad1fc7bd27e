use Rattle.std.proofs.Common.{sym, ◌∙◌}
use Rattle.name_hash.proofs.Turns.{absorb_next, absorb_last, rest_part, hash_dots, hash_other}
use Rattle.name_hash.proofs.hash.Goals as goal

pub returns-then-is_dots : goal.returns-then-is_dots
returns-then-is_dots c = sym (hash_dots c.args.name.now (sym c.is_dots.ensures ∙ c.if-is_dots.true))

pub loop-rest-preserved : goal.loop-rest-preserved
loop-rest-preserved c =
    let rest = c.loop-rest.rest.now in
    c.loop-rest.invariant ∙ absorb_next rest c.loop-rest.state c.loop-rest-test.true
    ∙ rw (rest_part rest 16, c.tea-state.ensures, c.of.ensures)

pub returns : goal.returns
returns c =
    let e = sym c.is_dots.ensures ∙ c.if-is_dots.false in
    let f = c.loop-rest.invariant ∙ absorb_last _ c.loop-rest.rest.now c.loop-rest.state c.loop-rest-test.false in
    sym (hash_other c.args.name.now e ∙ rw (f, c.tea.ensures, c.of-2.ensures))
