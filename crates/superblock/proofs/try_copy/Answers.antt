use mathlib.Core.Path.{◌≡◌}
use mathlib.Core.Bool.{◌&&◌}
use Rattle.superblock.specs.Superblock.{copy_of, superblock_of, passes}
use Rattle.superblock.proofs.try_copy.Goals as goal
use Rattle.superblock.proofs.try_copy.Goals.{After-fields_pass}

-- the fields are those of the block's copy, and the test is of that copy
fields_by : (k : After-fields_pass) → k.read_fields-s.result ≡ superblock_of (copy_of k.args.block.now)
fields_by k = rw k.copy_of-copy.ensures.0 at k.read_fields-s.ensures

passes_by : (k : After-fields_pass) → let blocks = k.args.blocks in
    (k.has_mark.result && k.fields_pass.result) ≡ passes blocks (copy_of k.args.block.now)
unfolding passes
passes_by k =
    rw (k.has_mark.ensures, k.fields_pass.ensures, k.copy_of-copy.ensures.0, fields_by k)

pub returns-then-has_mark-fields_pass : goal.returns-then-has_mark-fields_pass
returns-then-has_mark-fields_pass c = rw (
  ← passes_by (goal.at.returns-then-has_mark-fields_pass c).After-fields_pass,
  c.if-has_mark-fields_pass.true,
  ← fields_by (goal.at.returns-then-has_mark-fields_pass c).After-fields_pass,
)

pub returns-else-has_mark-fields_pass : goal.returns-else-has_mark-fields_pass
returns-else-has_mark-fields_pass c = rw (← passes_by (goal.at.returns-else-has_mark-fields_pass c).After-fields_pass, c.if-has_mark-fields_pass.false)
