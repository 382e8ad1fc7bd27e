use Rattle.std.proofs.Common.{◌≡◌, ◌≤◌, length, arith}
use Rattle.field.proofs.Blocks.{length_of_block}
use Rattle.checkpoint.specs.Pack.{pack_passes}
use Rattle.checkpoint.proofs.Passing.{first_total}
use Rattle.checkpoint.proofs.Negated.{fails, holds}
use Rattle.checkpoint.proofs.pack_passes.Goals as goal
use Rattle.checkpoint.proofs.pack_passes.Goals.{After-block_at-first, Else-not-first_passes}

whole : (k : After-block_at-first) → length k.block_at-first.result.now ≡ 4096
whole k = length_of_block _ _ (omega arith) k.block_at-first.ensures

-- the total of a pack whose first block passes
total : (k : Else-not-first_passes) → let cp = k.checkpoint_of-cp.result in
    (2 ≤ cp.cp_pack_total_block_count) × (cp.cp_pack_total_block_count ≤ 512)
total k = rw k.checkpoint_of-cp.ensures (first_total _ (holds k.first_passes.ensures k.if-not-first_passes.false))

pub checkpoint_of-cp-requires : goal.checkpoint_of-cp-requires
checkpoint_of-cp-requires c =
    whole c

pub first_passes-requires : goal.first_passes-requires
first_passes-requires c =
    (whole (goal.at.first_passes-requires c).After-block_at-first, c.checkpoint_of-cp.ensures)

pub returns-then-not-first_passes : goal.returns-then-not-first_passes
unfolding pack_passes
returns-then-not-first_passes c =
    rw (← c.block_at-first.ensures, fails c.first_passes.ensures c.if-not-first_passes.true)

pub overflow_sub-cp : goal.overflow_sub-cp
overflow_sub-cp c =
    let w = total (goal.at.overflow_sub-cp c).Else-not-first_passes in
    omega arith

pub overflow_add-start : goal.overflow_add-start
overflow_add-start c =
    let w = total (goal.at.overflow_add-start c).Else-not-first_passes in
    omega arith

pub block_at-last-requires : goal.block_at-last-requires
block_at-last-requires c =
    let w = total (goal.at.block_at-last-requires c).Else-not-first_passes in
    omega arith

pub last_passes-requires : goal.last_passes-requires
last_passes-requires c =
    let w = total (goal.at.last_passes-requires c).Else-not-first_passes in
    length_of_block _ _ (omega arith) c.block_at-last.ensures

pub returns : goal.returns
unfolding pack_passes
returns c =
    rw (
      ← c.block_at-first.ensures,
      ← c.checkpoint_of-cp.ensures,
      holds c.first_passes.ensures c.if-not-first_passes.false,
      ← c.block_at-last.ensures,
      c.last_passes.ensures,
    )
