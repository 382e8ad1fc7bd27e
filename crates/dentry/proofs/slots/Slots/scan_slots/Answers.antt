-- A scan begins at the first slot; one that came to the end found nothing.
use Rattle.dentry.proofs.Scans.{scanning_start, scanning_end, scanning_most}
use Rattle.dentry.proofs.slots.Slots.scan_slots.Goals as goal

pub slots-init : goal.slots-init
slots-init c = scanning_start _ _ _ c.default.ensures

pub returns-clause-name_value : goal.returns-clause-name_value
returns-clause-name_value c = scanning_end c.slots.invariant c.slots-test.false

pub returns-clause-turns_bound : goal.returns-clause-turns_bound
returns-clause-turns_bound c = (scanning_most c.slots.invariant).0
