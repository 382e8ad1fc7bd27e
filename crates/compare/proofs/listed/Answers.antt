use mathlib.Core.Path.{sym, refl}
use native.Mathlib.Omega.{arith}
use Rattle.list.proofs.Columns.{numbers_column}
use Rattle.compare.proofs.Shapes.{count_fits_lem}
use Rattle.compare.proofs.listed.Goals as goal

pub returns-then-count-bytes : goal.returns-then-count-bytes
returns-then-count-bytes c =
    (count_fits_lem _ (omega arith), sym (numbers_column c.args.bytes.now 0 c.args.count), refl)
