use mathlib.Core.Path.{◌∙◌, ap}
use Rattle.std.specs.Int.{w16, from_le_bytes}
use Rattle.field.proofs.Endian.{le16_read}
use Rattle.field.proofs.get16.Goals as goal

pub returns : goal.returns
returns c = c.from_le_bytes.ensures ∙ ap (from_le_bytes w16) c.bytes_at.ensures ∙ le16_read c.args.bytes.now c.args.at
