-- `find_by` meets its contract: three nested loops.
use Prim.Native.Nat.{ℕ, ◌+◌, ◌<◌}
use native.Mathlib.Omega.{arith}
use mathlib.Core.Path.{◌≡◌, refl, ap}
use Rattle.std.specs.Prelude.{Option}
use Rattle.std.proofs.lemmas.Result.{err_from_is_err_and}
use Rattle.field.proofs.Blocks.{length_of_block}
use Rattle.walk.specs.Walk.{ok}
use Rattle.walk.proofs.Same.{same_trans}
use Rattle.node.specs.Block.{held}
use Rattle.node.specs.Found.{fetched}
use Rattle.checkpoint.specs.OpenImage.{card_in}
use Rattle.hash_level.specs.declared.Level.{Level}
use Rattle.hash_level.specs.Level.{blocks_of, bucket_of}
use Rattle.hash_level.proofs.Levels.{blocks_few, bucket_small}
use Rattle.dentry.specs.Slot.{layout_of, wanted_in, Sought, in_part, in_slots}
use Rattle.dentry.proofs.Scans.{by_part, scanning_start, scanning_end}
use Rattle.directory.proofs.Turns.{levels_next, levels_out, levels_end, block_fits}
use Rattle.directory.proofs.Turns.{bucket_stop, bucket_hole, bucket_absent, bucket_found, bucket_malformed}
use Rattle.directory.proofs.dir.Directory.find_by.Goals as goal
use Rattle.directory.proofs.dir.Directory.find_by.Goals.{At-slots, In-bucket}

more : (b : In-bucket) → b.bucket.k < blocks_of b.levels.level
more b = rw (← ap (λ (l : Level). l.count) b.level_at-here.ensures) b.bucket-test.true

-- the index of the turn's block
index : (b : In-bucket) → b.level_at-here.result.bucket + b.bucket.k ≡ bucket_of b.args.self.dir_level b.levels.level b.args.name.hash + b.bucket.k
index b = ap (λ (l : Level). l.bucket + b.bucket.k) b.level_at-here.ensures

-- the block that was fetched is the one whose slots are searched
held_of : (s : At-slots) → ok (fetched (card_in s.args.self.file.card) s.in_ok-at.field-0) ≡ ok (held s.block_at-block.result.now)
held_of s = rw (s.in-Some.is, s.block_at-block.ensures)

came : (s : At-slots) → {o : Sought} → let w = wanted_in s.args.name in
    in_part s.slots_of-slots.result.layout s.slots_of-slots.result.part.now w ≡ o → in_slots (layout_of s.args.self.inline) s.block_at-block.result.now w ≡ o
came s f = by_part _ _ s.slots_of-slots.ensures f

pub overflow_add-here : goal.overflow_add-here
overflow_add-here c =
    let b = (goal.at.overflow_add-here c).In-bucket in
    let small = bucket_small b.args.self.dir_level b.levels.level b.args.name.hash (omega arith) in
    omega (arith, index b, more b, blocks_few b.levels.level)

pub fetch-requires : goal.fetch-requires
fetch-requires c =
    let b = (goal.at.fetch-requires c).In-bucket in
    block_fits c.levels.invariant.at c.levels-test.true c.bucket.invariant.at (more b) (index b) c.requires

pub returns-in_err-at-clause-walked : goal.returns-in_err-at-clause-walked
returns-in_err-at-clause-walked c =
    let b = (goal.at.returns-in_err-at-clause-walked c).In-bucket in
    let p = err_from_is_err_and c.from_residual.result c.from_residual.ensures.1 in
    rw (p.1, p.2)
    (levels_out c.levels.invariant.at c.levels-test.true (bucket_stop c.bucket.invariant.at (more b) (index b) c.in_err-at.ensures.walked refl))

pub bucket-preserved-in_default : goal.bucket-preserved-in_default
bucket-preserved-in_default c =
    let b = (goal.at.bucket-preserved-in_default c).In-bucket in
    record {
      at =
          bucket_hole c.bucket.invariant.at (more b) (index b) c.in_ok-at.ensures.walked
          (ap (λ (o : Option ℕ). ok (fetched (card_in b.args.self.file.card) o)) c.in_default.is);
      same = same_trans c.levels.seen c.bucket.seen c.fetch.new.seen c.bucket.invariant.same c.in_ok-at.ensures.same;
    }

pub slots_of-slots-requires : goal.slots_of-slots-requires
slots_of-slots-requires c = length_of_block _ _ (rw c.in-Some.is at c.in_ok-at.ensures.data_in) c.block_at-block.ensures

pub slots-init : goal.slots-init
slots-init c = scanning_start _ _ _ c.default-scan.ensures

pub returns-in_err-ino-clause-walked : goal.returns-in_err-ino-clause-walked
returns-in_err-ino-clause-walked c =
    let p = err_from_is_err_and c.from_residual-in_err-ino.result c.from_residual-in_err-ino.ensures.1 in
    let b = (goal.at.returns-in_err-ino-clause-walked c).In-bucket in
    let s = (goal.at.returns-in_err-ino-clause-walked c).At-slots in
    rw (p.1, p.2, c.in_err-ino.ensures.took.0)
    (levels_out c.levels.invariant.at c.levels-test.true
    (bucket_malformed c.bucket.invariant.at (more b) (index b) c.in_ok-at.ensures.walked (held_of s) (came s c.in_err-ino.ensures.took.1)))

pub bucket-preserved : goal.bucket-preserved
bucket-preserved c =
    let b = (goal.at.bucket-preserved c).In-bucket in
    let s = (goal.at.bucket-preserved c).At-slots in
    let none = came s (scanning_end c.slots.invariant c.slots-test.false).0 in
    record {
      at = bucket_absent c.bucket.invariant.at (more b) (index b) c.in_ok-at.ensures.walked (held_of s) none;
      same = same_trans c.levels.seen c.bucket.seen c.fetch.new.seen c.bucket.invariant.same c.in_ok-at.ensures.same;
    }

pub levels-preserved : goal.levels-preserved
levels-preserved c =
    let over = rw (ap (λ (l : Level). l.count) c.level_at-here.ensures) at c.bucket-test.false in
    record {
      at = levels_next c.levels.invariant.at c.levels-test.true c.bucket.invariant.at over;
      same = same_trans c.args.seen.now c.levels.seen c.bucket.seen c.levels.invariant.same c.bucket.invariant.same;
    }

pub returns-in-Some-2-clause-walked : goal.returns-in-Some-2-clause-walked
returns-in-Some-2-clause-walked c =
    let b = (goal.at.returns-in-Some-2-clause-walked c).In-bucket in
    let s = (goal.at.returns-in-Some-2-clause-walked c).At-slots in
    let took = rw c.in-Some-2.is at c.in_ok-ino.ensures.took in
    levels_out c.levels.invariant.at c.levels-test.true
    (bucket_found c.bucket.invariant.at (more b) (index b) c.in_ok-at.ensures.walked (held_of s) (came s took.0))

pub returns-after-levels-clause-walked : goal.returns-after-levels-clause-walked
returns-after-levels-clause-walked c = levels_end c.levels.invariant.at (omega (arith, c.levels-test.false))
