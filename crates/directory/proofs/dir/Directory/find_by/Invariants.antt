-- The loop over levels: what is left of the search is the levels from this one on. The loop over blocks: what is left of the level is its
-- bucket from block k on. The loop over slots: what is left of the block is its slots from this one on. The laws of the first two are in
-- `Turns`, those of the third in `Scans` of `dentry`.
use Prim.Native.Nat.{◌-◌}
use Rattle.walk.specs.Lent.{view_in, lent, SameLent}
use Rattle.dentry.specs.Slot.{wanted_in}
use Rattle.dentry.specs.Scan.{Scanning}
use Rattle.directory.specs.Find.{directory_of}
use Rattle.directory.proofs.Turns.{Levels, Bucket}
use Rattle.directory.proofs.dir.Directory.find_by.Given as goal

abbrev pub invariant-levels : goal.invariant-levels
invariant-levels l =
    record {
      at : Levels (view_in l.self.file.card) (directory_of l.self) (wanted_in l.name) l.self.depth (lent l.fn.seen) l.level (lent l.seen);
      same : SameLent l.fn.seen l.seen;
    }

abbrev pub invariant-bucket : goal.invariant-bucket
invariant-bucket l =
    record {
      at : Bucket (view_in l.self.file.card) (directory_of l.self) (wanted_in l.name) l.self.depth l.level (lent l.initial.seen) l.k (lent l.seen);
      same : SameLent l.initial.seen l.seen;
    }

abbrev pub invariant-slots : goal.invariant-slots
invariant-slots l = Scanning l.slots.layout l.slots.part.now (wanted_in l.name) l.scan

abbrev pub decreases-slots : goal.decreases-slots
decreases-slots l = l.slots.layout.slots - l.scan.slot
