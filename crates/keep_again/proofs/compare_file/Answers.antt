-- `compare_file` meets its contract: what is lent of the room has `end` bytes.
use mathlib.Core.Path.{sym}
use lib.Seq.{length-take-le}
use Rattle.keep_again.proofs.compare_file.Goals as goal

pub slice_bounds-keep_compare-end : goal.slice_bounds-keep_compare-end
slice_bounds-keep_compare-end c = sym (length-take-le _ _ c.requires)
