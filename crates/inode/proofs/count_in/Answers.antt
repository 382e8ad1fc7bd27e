use native.Mathlib.Omega.{arith}
use mathlib.Core.Path.{◌∙◌}
use Rattle.inode.proofs.Counting.{begins_inside, count_in_block, least_in}
use Rattle.inode.proofs.count_in.Goals as goal

pub overflow_sub-left : goal.overflow_sub-left
overflow_sub-left c =
    let inside = begins_inside c.args.i c.args.index c.requires in
    omega arith

pub returns : goal.returns
returns c =
    let is = c.min.ensures ∙ least_in c.args.i c.args.index in
    let bounds = count_in_block c.args.i c.args.index c.requires in
    (is, omega arith, omega arith)
