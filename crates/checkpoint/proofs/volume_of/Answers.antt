use Rattle.std.proofs.Common.{arith}
use Rattle.checkpoint.proofs.Reading.{map_inside_lem, journal_inside_lem}
use Rattle.checkpoint.proofs.volume_of.Goals as goal

pub overflow_add-result : goal.overflow_add-result
overflow_add-result c =
    omega (arith, map_inside_lem _ _ c.requires.cp_value)

pub overflow_add-result-2 : goal.overflow_add-result-2
overflow_add-result-2 c =
    omega (arith, journal_inside_lem _ _ c.requires.cp_value)

pub returns : goal.returns
returns c =
    rw (c.journal_in.ensures, c.journal_at.ensures)
