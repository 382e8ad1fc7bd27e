use Rattle.std.proofs.Common.{◌≡◌, arith}
use Rattle.checkpoint.specs.Pack.{wrapped_difference, newer}
use Rattle.checkpoint.proofs.is_newer.Goals as goal

pub returns : goal.returns
unfolding newer
returns c =
    let a = c.args in
    let wraps = c.wrapping_sub_u64-difference.ensures in
    let e : wrapped_difference a.first.checkpoint_ver a.second.checkpoint_ver ≡ c.wrapping_sub_u64-difference.result = omega arith in
    rw e
