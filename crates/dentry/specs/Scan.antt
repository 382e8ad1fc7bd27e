-- The scan of a layout's slots, counted, by the bytes from its start on. K5: "A block's scan counts its turns, one an entry looked at
-- and one a run skipped: at most 2e + 1 for e entries."
use Rattle.std.specs.Prelude.{ℕ, zero, suc, ◌+◌, ◌-◌, ◌*◌, ◌≤◌, ◌<◌, ◌≡◌, List, ltb, eqb, Option, Some, None, Result, Ok, Err}
use Rattle.answer.specs.declared.Stop.{Stop}
use Rattle.answer.specs.declared.Stop.TheVariants.{MalformedSlot}
use Rattle.field.specs.Choice.{choose}
use Rattle.field.specs.Map.{low_bit, low_zeros}
use Rattle.dentry.specs.declared.Layout.{Layout}
use Rattle.dentry.specs.declared.Slot.{Slot}
use Rattle.dentry.specs.declared.Slot.TheVariants.{Free, Match, Other, Malformed}
use Rattle.dentry.specs.declared.Scan.{Scan}
use Rattle.dentry.specs.Slot.{Wanted, slot_at, Sought, absent, found, malformed, slots_from, in_part}

-- "a run of free slots": those from a slot on, up to the first that is in use or the last of all
abbrev pub free_run : Layout → List ℕ → ℕ → ℕ
free_run l part slot = low_zeros part (l.slots - slot) slot

-- ---- what a scan meets

-- a number of each slot that the scan of `slots_from` comes to, added up: it comes to free slots one by one, and to the first slot of
-- an entry
abbrev pub tally_after : (ℕ → ℕ) → ℕ → Slot → ℕ
tally_after next slot Free = next (slot + 1)
tally_after next slot (Match ino) = 0
tally_after next slot (Other slots) = next (slot + slots)
tally_after next slot Malformed = 0

unfoldable pub tally_from : (ℕ → ℕ) → Layout → List ℕ → Wanted → ℕ → ℕ → ℕ
tally_from of l part w zero slot = 0
tally_from of l part w (suc n) slot =
    choose (ltb slot l.slots) (of slot + tally_after (tally_from of l part w n) slot (slot_at l part w slot)) 0

-- "an entry looked at", the match or the malformed one too: a slot whose bit is set
abbrev pub entries_from : Layout → List ℕ → Wanted → ℕ → ℕ → ℕ
entries_from l part w n slot = tally_from (low_bit part) l part w n slot

-- "a run skipped", counted at the last of its slots
abbrev pub ends_run : Layout → List ℕ → ℕ → ℕ
ends_run l part slot = choose (eqb (free_run l part slot) 1) 1 0

abbrev pub runs_from : Layout → List ℕ → Wanted → ℕ → ℕ → ℕ
runs_from l part w n slot = tally_from (ends_run l part) l part w n slot

-- "its turns, one an entry looked at and one a run skipped"
abbrev pub turns_from : Layout → List ℕ → Wanted → ℕ → ℕ → ℕ
turns_from l part w n slot = entries_from l part w n slot + runs_from l part w n slot

-- of all slots
abbrev pub entries_in : Layout → List ℕ → Wanted → ℕ
entries_in l part w = entries_from l part w l.slots 0

abbrev pub turns_in : Layout → List ℕ → Wanted → ℕ
turns_in l part w = turns_from l part w l.slots 0

-- "at most 2e + 1 for e entries"
abbrev pub turns_most : Layout → List ℕ → Wanted → ℕ
turns_most l part w = 2 * entries_in l part w + 1

-- ---- the code's scan

-- Where a scan stands: what the slots from there on come to is what all come to, and the turns that it took and those that are left
-- are those of all. `left` is enough to reach the end.
pub record Scanning (l : Layout) (part : List ℕ) (w : Wanted) (scan : Scan) : Type 0 where
  pub left : ℕ
  pub enough : l.slots ≤ scan.slot + left
  pub same : in_part l part w ≡ slots_from l part w left scan.slot
  pub counted : scan.turns + turns_from l part w left scan.slot ≡ turns_in l part w

-- what a scan came to by its last turn: one that went on to the end found nothing
abbrev pub sought_of : Result (Option ℕ) Stop → Sought
sought_of (Ok None) = absent
sought_of (Ok (Some ino)) = found ino
sought_of (Err stop) = malformed

-- What a turn comes to: the scan goes on, further than it was, or it has ended and took all turns.
abbrev pub Took : Layout → List ℕ → Wanted → Scan → Result (Option ℕ) Stop → Scan → Type 0
Took l part w scan (Ok None) next = (scan.slot < next.slot) × Scanning l part w next
Took l part w scan (Ok (Some ino)) next = (in_part l part w ≡ found ino) × (next.turns ≡ turns_in l part w)
Took l part w scan (Err stop) next = (stop ≡ MalformedSlot) × (in_part l part w ≡ malformed) × (next.turns ≡ turns_in l part w)
