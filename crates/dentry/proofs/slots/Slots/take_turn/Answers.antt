-- `take_turn` meets its contract: each return is a turn of the scan, by what its slot holds.
use Prim.Native.Nat.{◌-◌}
use native.Mathlib.Omega.{arith}
use mathlib.Core.Path.{refl, sym, ◌∙◌}
use Rattle.field.specs.Map.{low_bit}
use Rattle.field.proofs.Zeros.{zeros_le}
use Rattle.dentry.specs.Slot.{wanted_in}
use Rattle.dentry.proofs.Cases.{other_bounds_lem}
use Rattle.dentry.proofs.Runs.{turns_most_lem}
use Rattle.dentry.proofs.Scans.{scanning_most, scanning_free, scanning_other, scanning_found, scanning_malformed}
use Rattle.dentry.proofs.slots.Slots.take_turn.Goals as goal

pub overflow_add-scan : goal.overflow_add-scan
overflow_add-scan c =
    let few = (scanning_most c.requires.1).1 in
    let slots = c.args.self.inside.map in
    omega arith

pub overflow_add-scan-in-Free : goal.overflow_add-scan-in-Free
overflow_add-scan-in-Free c =
    let l = c.args.self.layout in
    let slot = c.args.scan.now.slot in
    let below = c.requires.0 in
    let slots = c.args.self.inside.map in
    let run = c.free_run.ensures in
    let within = zeros_le (low_bit c.args.self.part.now) (l.slots - slot) slot in
    omega arith

pub overflow_add-scan-in-Other : goal.overflow_add-scan-in-Other
overflow_add-scan-in-Other c =
    let slots = c.args.self.inside.map in
    let passed = other_bounds_lem _ _ _ _ _ (sym c.in-Other.is ∙ c.slot_at.ensures) in
    omega arith

pub returns-in-Free : goal.returns-in-Free
returns-in-Free c =
    let turn = scanning_free c.requires.1 c.requires.0 (sym c.in-Free.is ∙ c.slot_at.ensures) c.free_run.ensures in
    record { took = turn; turns_value = (refl, (scanning_most turn.1).0) }

pub returns-in-Match : goal.returns-in-Match
returns-in-Match c =
    let turn = scanning_found c.requires.1 c.requires.0 (sym c.in-Match.is ∙ c.slot_at.ensures) in
    let most = turns_most_lem c.args.self.layout c.args.self.part.now (wanted_in c.args.name) in
    record { took = turn; turns_value = (refl, omega (arith, turn.1)) }

pub returns-in-Other : goal.returns-in-Other
returns-in-Other c =
    let turn = scanning_other c.requires.1 c.requires.0 (sym c.in-Other.is ∙ c.slot_at.ensures) in
    record { took = turn; turns_value = (refl, (scanning_most turn.1).0) }

pub returns-in-Malformed : goal.returns-in-Malformed
returns-in-Malformed c =
    let turn = scanning_malformed c.requires.1 c.requires.0 (sym c.in-Malformed.is ∙ c.slot_at.ensures) in
    let most = turns_most_lem c.args.self.layout c.args.self.part.now (wanted_in c.args.name) in
    record { took = (refl, turn.0, turn.1); turns_value = (refl, omega (arith, turn.1)) }
