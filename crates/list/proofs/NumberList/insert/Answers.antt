-- `insert` meets its contract: the number is there already, or is shifted in at its place.
use Rattle.std.proofs.Common.{rules, ◌+◌, ◌*◌, ◌≤◌, length}
use Rattle.list.proofs.Entries.{inserted_there, spot_within, before_room, inserted_before}
use Rattle.list.proofs.NumberList.insert.Goals as goal
use Rattle.list.proofs.NumberList.insert.Goals.{In-Some}

room : (k : In-Some) → 4 * (k.args.self.now.count + 1) ≤ length k.args.self.now.bytes.now
room k = before_room _ _ _ k.find_spot.ensures _ k.in-Some.is k.requires

pub shift_in-requires : goal.shift_in-requires
shift_in-requires c =
    (spot_within _ _ _ c.find_spot.ensures _ c.in-Some.is, room (goal.at.shift_in-requires c).In-Some)

pub overflow_add-self : goal.overflow_add-self
overflow_add-self c =
    let more = room (goal.at.overflow_add-self c).In-Some in
    search rules

pub returns-in-Some-clause-inserted : goal.returns-in-Some-clause-inserted
returns-in-Some-clause-inserted c =
    let shift = c.shift_in in
    inserted_before _ _ _ c.find_spot.ensures _ c.in-Some.is shift.ensures shift.auto.list

pub returns-in_default-clause-inserted : goal.returns-in_default-clause-inserted
returns-in_default-clause-inserted c =
    inserted_there _ _ _ c.find_spot.ensures c.in_default.is
