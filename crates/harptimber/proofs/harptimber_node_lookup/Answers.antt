use Rattle.std.proofs.Common.{◌≡◌, sym, ap, ◌∙◌}
use Rattle.field.specs.Card.{card_of}
use Rattle.checkpoint.proofs.OpenImages.{opens_to, card_is, refuses_by}
use Rattle.nat.specs.Table.{table_answer}
use Rattle.nat.specs.Lookup.{table_numbers, lookup_in, lookup_of}
use Rattle.harptimber.proofs.harptimber_node_lookup.Goals as goal

pub returns-in-Ok : goal.returns-in-Ok
unfolding lookup_of
returns-in-Ok c =
    let image = c.args.image.now in
    let opens = opens_to image _ _ c.in-Ok.is c.open.ensures.opening in
    let same = card_is image _ _ c.in-Ok.is c.open.ensures.same_image in
    let said = c.table_answer.ensures ∙ ap (λ card. table_answer card c.in-Ok.card.volume c.args.number) same in
    c.table_numbers.ensures ∙ ap table_numbers said ∙ sym (ap (lookup_in (card_of image) c.args.number) opens)

pub returns-in-Err : goal.returns-in-Err
unfolding lookup_of
returns-in-Err c =
    let image = c.args.image.now in
    let refuses = refuses_by image _ _ c.in-Err.is c.open.ensures.opening in
    rw c.number.ensures (sym (ap (lookup_in (card_of image) c.args.number) refuses))
