use mathlib.Core.Path.{refl, sym}
use native.Mathlib.Omega.{arith}
use Rattle.crc32.proofs.EightBytes.{entries, entry_more, all_entries}
use Rattle.crc32.proofs.Steps.word.Goals as goal

pub loop-row-init : goal.loop-row-init
unfolding entries
loop-row-init c = refl

pub loop-row-preserved : goal.loop-row-preserved
loop-row-preserved c = rw (c.loop-row.invariant, c.entry-sum.ensures) (sym (entry_more c.args.word c.loop-row.row (omega arith)))

pub returns : goal.returns
returns c = all_entries c.args.word c.loop-row.row _ c.ranges.word.fits (omega arith) c.loop-row.invariant
