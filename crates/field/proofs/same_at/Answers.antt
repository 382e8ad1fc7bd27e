use mathlib.Core.Path.{◌∙◌}
use Rattle.field.proofs.Comparing.{same_is}
use Rattle.field.proofs.same_at.Goals as goal

pub returns : goal.returns
returns c = c.eq.ensures ∙ same_is c.args.bytes.now c.args.at c.args.string.now c.requires
