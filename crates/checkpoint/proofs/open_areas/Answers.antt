use Rattle.std.proofs.Common.{sym, ◌∙◌, arith}
use Rattle.checkpoint.proofs.Choosing.{chosen_passes}
use Rattle.checkpoint.proofs.open_areas.Goals as goal

pub open_pack-requires : goal.open_pack-requires
open_pack-requires c =
    let w = chosen_passes _ _ _ (sym c.choose_pack.ensures ∙ c.in-Some.is) in
    record { start_bound = omega arith; start_value = w.0 }

pub returns-in-Some : goal.returns-in-Some
returns-in-Some c =
    rw (← c.choose_pack.ensures, c.in-Some.is, c.open_pack.ensures)

pub returns-in-None : goal.returns-in-None
returns-in-None c =
    rw (← c.choose_pack.ensures, c.in-None.is)
