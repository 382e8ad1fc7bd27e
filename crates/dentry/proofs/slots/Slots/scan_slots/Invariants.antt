-- The loop's invariant is `Scanning`; the laws of a turn are in `Scans`.
use Prim.Native.Nat.{◌-◌}
use Rattle.dentry.specs.Slot.{wanted_in}
use Rattle.dentry.specs.Scan.{Scanning}
use Rattle.dentry.proofs.slots.Slots.scan_slots.Given as goal

abbrev pub invariant-slots : goal.invariant-slots
invariant-slots l = Scanning l.self.layout l.self.part.now (wanted_in l.name) l.scan

abbrev pub decreases-slots : goal.decreases-slots
decreases-slots l = l.self.layout.slots - l.scan.slot
