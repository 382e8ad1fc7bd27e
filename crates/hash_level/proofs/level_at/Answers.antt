-- `level_at` meets its contract: the sum fits.
use native.Mathlib.Omega.{arith}
use Rattle.hash_level.specs.Level.{bucket_of}
use Rattle.hash_level.proofs.Levels.{level_fits}
use Rattle.hash_level.proofs.level_at.Goals as goal

pub overflow_add-bucket : goal.overflow_add-bucket
overflow_add-bucket c =
    let a = c.args in
    omega (arith, level_fits a.dir_level a.level a.hash c.requires.1 c.first_block.ensures c.buckets_in-buckets.ensures c.blocks_in-count.ensures)

pub returns : goal.returns
unfolding bucket_of
returns c = cc
