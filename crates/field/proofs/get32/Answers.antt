use mathlib.Core.Path.{◌∙◌, ap}
use Rattle.std.specs.Int.{w32, from_le_bytes}
use Rattle.field.proofs.Endian.{le32_read}
use Rattle.field.proofs.get32.Goals as goal

pub returns : goal.returns
returns c = c.from_le_bytes.ensures ∙ ap (from_le_bytes w32) c.bytes_at.ensures ∙ le32_read c.args.bytes.now c.args.at
