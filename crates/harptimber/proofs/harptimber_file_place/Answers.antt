use mathlib.Core.Path.{ap, ◌∙◌}
use Rattle.harptimber.specs.FilePlace.{crossing, placed, file_place}
use Rattle.harptimber.proofs.harptimber_file_place.Goals as goal

pub returns-then-addresses : goal.returns-then-addresses
unfolding file_place
returns-then-addresses c =
    rw c.if-addresses.true
    (c.placed_by.ensures ∙ ap placed c.find_way.ensures)

pub returns-else-addresses : goal.returns-else-addresses
unfolding file_place
returns-else-addresses c =
    rw c.if-addresses.false
    (c.answer_with.ensures ∙ ap (λ n. crossing n c.no_way.result) c.number.ensures ∙ ap (crossing 4) c.no_way.ensures)
