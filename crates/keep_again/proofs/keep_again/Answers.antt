-- `keep_again` meets its contract: the writer's, the comparison's and the pull's, and what "same" says of them.
use Prim.Native.Nat.{◌≤◌}
use mathlib.Core.Path.{sym, subst}
use lib.ListN.{length}
use Rattle.keep.specs.Writing.{Writing}
use Rattle.keep.proofs.Ends.{ends}
use Rattle.keep_again.proofs.Steps.{file_inside}
use Rattle.keep_again.proofs.Theorems.{again_holds}
use Rattle.keep_again.proofs.keep_again.Goals as goal

pub compare_file-compared-requires : goal.compare_file-compared-requires
compare_file-compared-requires c =
    subst (λ (w : Writing). w.numbers.length ≤ length w.room) (sym c.keep-kept.ensures) (file_inside (ends _ _ _ _))

pub returns : goal.returns
returns c =
    again_holds _ _ _ _ _ _ c.keep-kept.ensures c.compare_file-compared.ensures c.pull-second.ensures
