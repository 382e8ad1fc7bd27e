-- `rises` meets its contract: a list's numbers are a column of width 4.
use mathlib.Core.Path.{sym, ap, ◌∙◌}
use Rattle.list.proofs.Columns.{numbers_column}
use Rattle.compare.specs.Lists.{is_rising}
use Rattle.reader.proofs.rises.Goals as goal

pub returns : goal.returns
returns g c = c.is_rising.ensures ∙ ap is_rising (sym (numbers_column c.args.list.now 0 c.args.count))
