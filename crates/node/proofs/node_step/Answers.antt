-- `node_step` meets its contract: each return is a step of `node_walk`.
use Rattle.std.proofs.Common.{◌<◌, ◌≡◌, true, sym, ap, ◌∙◌}
use Rattle.std.proofs.lemmas.Result.{err_from_is_err_and}
use Rattle.answer.specs.declared.Stop.TheVariants.{NoNode}
use Rattle.field.proofs.Blocks.{length_of_block}
use Rattle.checkpoint.specs.OpenImage.{card_in}
use Rattle.nat.specs.Table.{Entry, answer_in}
use Rattle.node.specs.Node.{bounds_of, in_main}
use Rattle.node.proofs.NodeSteps.{number_fits, no_entry, zero_address, outside_main, block_fits, foreign_block, own_block}
use Rattle.node.proofs.Sizes.{in_card_lem}
use Rattle.node.proofs.node_step.Goals as goal
use Rattle.node.proofs.node_step.Goals.{In_ok-entry, Else-not-in_main}

entry : (k : In_ok-entry) → answer_in k.table_answer.result ≡ Entry k.in_ok-entry.entry.inode k.in_ok-entry.entry.address
entry k = ap answer_in k.in_ok-entry.ensures.ok_part

inside : (k : Else-not-in_main) → in_main (bounds_of k.args.card.volume) k.in_ok-entry.entry.address ≡ true
inside k = sym k.in_main.ensures ∙ k.if-not-in_main.false

in_card : (k : Else-not-in_main) → k.in_ok-entry.entry.address < (card_in k.args.card).blocks
in_card k = in_card_lem _ (inside k) k.args.card.volume_in

pub insert-requires : goal.insert-requires
insert-requires c = number_fits _ _ _ _ c.requires.fits

pub returns-in_err-entry-clause-walked : goal.returns-in_err-entry-clause-walked
returns-in_err-entry-clause-walked c =
    let p = err_from_is_err_and c.from_residual.result c.from_residual.ensures.1 in
    let none = c.in_err-entry.ensures.ok_part in
    let told = rw none at c.in_err-entry.ensures.value in
    let is : c.in_err-entry.field-0.0 ≡ NoNode = cc in
    rw (p.1, p.2, is) (no_entry _ _ _ _ c.insert.ensures.inserted c.table_answer.ensures (ap answer_in none))

pub returns-then-entry-eq0-clause-walked : goal.returns-then-entry-eq0-clause-walked
returns-then-entry-eq0-clause-walked c =
    zero_address _ _ _ _ c.insert.ensures.inserted c.table_answer.ensures (entry (goal.at.returns-then-entry-eq0-clause-walked c).In_ok-entry)
    c.if-entry-eq0.true

pub returns-then-not-in_main-clause-walked : goal.returns-then-not-in_main-clause-walked
returns-then-not-in_main-clause-walked c =
    outside_main _ _ _ _ c.insert.ensures.inserted c.table_answer.ensures (entry (goal.at.returns-then-not-in_main-clause-walked c).In_ok-entry)
    c.if-entry-eq0.false (sym c.in_main.ensures ∙ c.if-not-in_main.true)

pub insert-requires-2 : goal.insert-requires-2
insert-requires-2 c =
    block_fits _ _ _ _ c.insert.ensures.inserted c.table_answer.ensures (entry (goal.at.insert-requires-2 c).In_ok-entry)
    c.if-entry-eq0.false (inside (goal.at.insert-requires-2 c).Else-not-in_main) c.requires.fits

pub block_at-block-requires : goal.block_at-block-requires
block_at-block-requires c = in_card (goal.at.block_at-block-requires c).Else-not-in_main

pub belongs-requires : goal.belongs-requires
belongs-requires c = length_of_block _ _ (in_card (goal.at.belongs-requires c).Else-not-in_main) c.block_at-block.ensures

pub returns-then-not-belongs-clause-walked : goal.returns-then-not-belongs-clause-walked
returns-then-not-belongs-clause-walked c =
    foreign_block _ _ _ _ c.insert.ensures.inserted c.table_answer.ensures (entry (goal.at.returns-then-not-belongs-clause-walked c).In_ok-entry)
    c.if-entry-eq0.false (inside (goal.at.returns-then-not-belongs-clause-walked c).Else-not-in_main) c.insert-2.ensures.inserted c.block_at-block.ensures
    (sym c.belongs.ensures ∙ c.if-not-belongs.true)

pub returns-clause-walked : goal.returns-clause-walked
returns-clause-walked c =
    own_block _ _ _ _ c.insert.ensures.inserted c.table_answer.ensures (entry (goal.at.returns-clause-walked c).In_ok-entry)
    c.if-entry-eq0.false (inside (goal.at.returns-clause-walked c).Else-not-in_main) c.insert-2.ensures.inserted c.block_at-block.ensures
    (sym c.belongs.ensures ∙ c.if-not-belongs.false)

pub returns-clause-found_in : goal.returns-clause-found_in
returns-clause-found_in c = in_card (goal.at.returns-clause-found_in c).Else-not-in_main
