use mathlib.Core.Path.{◌∙◌, ap}
use Rattle.std.specs.Int.{w64, from_le_bytes}
use Rattle.field.proofs.Endian.{le64_read}
use Rattle.field.proofs.get64.Goals as goal

pub returns : goal.returns
returns c = c.from_le_bytes.ensures ∙ ap (from_le_bytes w64) c.bytes_at.ensures ∙ le64_read c.args.bytes.now c.args.at
