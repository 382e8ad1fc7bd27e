use mathlib.Core.Path.{◌∙◌}
use Rattle.field.proofs.Endian.{put32_written}
use Rattle.field.proofs.put32.Goals as goal

pub returns : goal.returns
returns c = put32_written c.args.bytes.now c.args.at c.args.x c.requires c.ranges.x.fits (c.copy_from_slice.ensures.after ∙ c.to_le_bytes.ensures)
