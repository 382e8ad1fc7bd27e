-- The loop over slots, turn by turn: where the scan stands, with a start, a turn, the ways out and an end.
use Prim.Native.Nat.{ℕ, zero, suc, ◌+◌, ◌-◌, ◌*◌, ◌≤◌, ◌<◌}
use native.Mathlib.Omega.{arith}
use mathlib.Core.Path.{◌≡◌, refl, sym, ap, subst, ◌∙◌}
use mathlib.Core.List.{List}
use lib.ListN.{drop}
use borrow.Author.Tests.{lt-ltb, le-ltb}
use Rattle.field.specs.Map.{low_bit}
use Rattle.dentry.specs.declared.Layout.{Layout}
use Rattle.dentry.specs.declared.Slot.{Slot}
use Rattle.dentry.specs.declared.Slot.TheVariants.{Free, Match, Other, Malformed}
use Rattle.dentry.specs.declared.Scan.{Scan}
use Rattle.dentry.specs.Slot.{Wanted, slot_at, Sought, absent, found, malformed, after_slot, slots_from, in_part, in_slots}
use Rattle.dentry.specs.Scan.{free_run, entries_from, runs_from, turns_from, tally_after, ends_run, turns_in, turns_most, Scanning}
use Rattle.field.proofs.Zeros.{zeros_le}
use Rattle.dentry.proofs.Cases.{bit_of, slot_bit, other_bounds_lem}
use Rattle.dentry.proofs.Runs.{tally_over, run_free, slots_run, turns_run, step_used, turns_most_lem, entries_most}

-- what the slots of a block come to, by what was said of the layout and of the part of it (`slots_of`)
pub by_part : {l m : Layout} {part : List ℕ} {o : Sought} (block : List ℕ) (w : Wanted) → (l ≡ m) × (part ≡ drop m.start block) → in_part l part w ≡ o
    → in_slots m block w ≡ o
by_part block w slots came = rw (slots.0, slots.1) at came

-- it starts at the first slot
pub scanning_start : (l : Layout) (part : List ℕ) (w : Wanted) {scan : Scan} → (scan.slot ≡ 0) × (scan.turns ≡ 0) → Scanning l part w scan
scanning_start l part w {scan} start =
    record { left = l.slots; enough = omega arith; same = ap (slots_from l part w l.slots) (sym start.0); counted = all }
  where
    all : scan.turns + turns_from l part w l.slots scan.slot ≡ turns_in l part w
    all = rw (start.0, start.1) (omega arith)

module _ {l : Layout} {part : List ℕ} {w : Wanted} {scan : Scan} (go : Scanning l part w scan) where
  abbrev slot : ℕ
  slot = scan.slot

  -- a scan that goes on is within the bound, so that its count fits every number
  pub scanning_most : (scan.turns ≤ turns_most l part w) × (scan.turns ≤ 2 * l.slots + 1)
  scanning_most =
      let all = go.counted in
      let most = turns_most_lem l part w in
      let few = entries_most l part w in
      (omega arith, omega arith)

  pub scanning_end : l.slots ≤ slot → (in_part l part w ≡ absent) × (scan.turns ≡ turns_in l part w)
  unfolding slots_from
  scanning_end h =
      let all = go.counted in
      let entries = tally_over (low_bit part) l part w go.left slot h in
      let runs = tally_over (ends_run l part) l part w go.left slot h in
      (go.same ∙ over go.left, omega arith)
    where
      over : (n : ℕ) → slots_from l part w n slot ≡ absent
      over zero = refl
      over (suc n) = rw (le-ltb slot l.slots h)

  module _ (h : slot < l.slots) where
    abbrev rest : ℕ
    rest = go.left - 1

    one_left : go.left ≡ suc rest
    one_left = let enough = go.enough in omega arith

    -- a run of free slots is skipped
    skipped : {m : ℕ} → free_run l part slot ≡ suc m → Scanning l part w (record { slot = slot + suc m; turns = scan.turns + 1 })
    skipped {m = m} run =
        let enough = go.enough in
        let within = zeros_le (low_bit part) (l.slots - slot) slot in
        let n : ℕ = go.left - suc m in
        let left : go.left ≡ suc m + n = omega arith in
        let all = go.counted in
        let turns = ap (λ (k : ℕ). turns_from l part w k slot) left ∙ turns_run l part w m n slot run in
        record {
          left = n;
          enough = omega arith;
          same = go.same ∙ ap (λ (k : ℕ). slots_from l part w k slot) left ∙ slots_run l part w (suc m) n slot run;
          counted = omega arith;
        }

    pub scanning_free : {r : ℕ} → Free ≡ slot_at l part w slot → r ≡ free_run l part slot
        → (slot < slot + r) × Scanning l part w (record { slot = slot + r; turns = scan.turns + 1 })
    scanning_free {r = r} p e =
        let run = run_free l part slot h (slot_bit l part w slot p) in
        let all = e ∙ run in
        (omega arith, subst (λ (k : ℕ). Scanning l part w (record { slot = slot + k; turns = scan.turns + 1 })) (sym all) (skipped run))

    -- an entry is looked at
    module _ {o : Slot} (p : o ≡ slot_at l part w slot) (u : bit_of o ≡ 1) where
      came : in_part l part w ≡ after_slot (slots_from l part w rest) slot o
      unfolding slots_from
      came = go.same ∙ ap (λ (n : ℕ). slots_from l part w n slot) one_left ∙ rw (lt-ltb slot l.slots h, p)

      looked : scan.turns + 1 + (tally_after (entries_from l part w rest) slot o + tally_after (runs_from l part w rest) slot o) ≡ turns_in l part w
      looked =
          let all = go.counted in
          let step = step_used l part w rest slot h p u in
          let turns = ap (λ (n : ℕ). turns_from l part w n slot) one_left in
          omega arith

    pub scanning_other : {n : ℕ} → Other n ≡ slot_at l part w slot
        → (slot < slot + n) × Scanning l part w (record { slot = slot + n; turns = scan.turns + 1 })
    scanning_other p =
        let enough = go.enough in
        let bounds = other_bounds_lem l part w slot _ p in
        (omega arith, record { left = rest; enough = omega arith; same = came p refl; counted = looked p refl })

    pub scanning_found : {ino : ℕ} → Match ino ≡ slot_at l part w slot → (in_part l part w ≡ found ino) × (scan.turns + 1 ≡ turns_in l part w)
    scanning_found p = let all = looked p refl in (came p refl, omega arith)

    pub scanning_malformed : Malformed ≡ slot_at l part w slot → (in_part l part w ≡ malformed) × (scan.turns + 1 ≡ turns_in l part w)
    scanning_malformed p = let all = looked p refl in (came p refl, omega arith)
