use native.Mathlib.Omega.{arith}
use Prim.Native.Nat.{◌-◌, ◌*◌, ◌≤◌, ◌<◌}
use mathlib.Core.Path.{sym, ◌∙◌}
use lib.ListN.{length}
use Rattle.list.proofs.Entries.{holds_inside}
use Rattle.list.proofs.Between.{between_start, between_low, between_high, between_there, between_end}
use borrow.Author.Rules.{rules}
use Rattle.list.proofs.find_spot.Goals as goal
use Rattle.list.proofs.find_spot.Goals.{After-least-gap}

-- ---- what is known there
inside : (k : After-least-gap) → (k.loop-low.low ≤ (k.loop-low.high - 1 - k.least-gap.result))
    × ((k.loop-low.high - 1 - k.least-gap.result) < k.loop-low.high)
inside k =
    let more = k.loop-low-test.true in
    let half = k.least-gap.ensures in
    (omega arith, omega arith)

in_list : (k : After-least-gap) → 4 * k.loop-low.high ≤ length k.args.list.now
in_list k =
    let whole = holds_inside k.requires in
    let few = k.loop-low.invariant.few in
    omega arith

-- ---- the needs
pub loop-low-init : goal.loop-low-init
loop-low-init c =
    between_start _ _ _

pub overflow_sub-middle-in-loop-low : goal.overflow_sub-middle-in-loop-low
overflow_sub-middle-in-loop-low c =
    let more = c.loop-low-test.true in
    let half = c.least-gap.ensures in
    omega arith

pub overflow_mul-middle : goal.overflow_mul-middle
overflow_mul-middle c =
    let below = inside c in
    let whole = in_list c in
    search rules

pub get32-y-requires : goal.get32-y-requires
get32-y-requires c =
    let below = inside c in
    let whole = in_list c in
    omega arith

pub returns-then-y-x : goal.returns-then-y-x
returns-then-y-x c =
    between_there c.loop-low.invariant c.requires.rising (c.loop-low.high - 1 - c.least-gap.result) (inside (goal.at.returns-then-y-x c).After-least-gap).1
    (sym c.get32-y.ensures ∙ c.if-y-x.true)

pub overflow_mul-reach : goal.overflow_mul-reach
overflow_mul-reach c =
    let half = c.least-gap.ensures in
    let whole = in_list (goal.at.overflow_mul-reach c).After-least-gap in
    search rules

pub overflow_add-reach : goal.overflow_add-reach
overflow_add-reach c =
    let half = c.least-gap.ensures in
    let whole = in_list (goal.at.overflow_add-reach c).After-least-gap in
    search rules

pub overflow_add-low : goal.overflow_add-low
overflow_add-low c =
    let below = inside (goal.at.overflow_add-low c).After-least-gap in
    let whole = in_list (goal.at.overflow_add-low c).After-least-gap in
    search rules

pub loop-low-smaller-then-y-x-2 : goal.loop-low-smaller-then-y-x-2
loop-low-smaller-then-y-x-2 c =
    let below = inside (goal.at.loop-low-smaller-then-y-x-2 c).After-least-gap in
    omega arith

pub loop-low-preserved-then-y-x-2 : goal.loop-low-preserved-then-y-x-2
loop-low-preserved-then-y-x-2 c =
    let less = c.if-y-x-2.true in
    between_low c.loop-low.invariant (c.loop-low.high - 1 - c.least-gap.result) (inside (goal.at.loop-low-preserved-then-y-x-2 c).After-least-gap).0
    (inside (goal.at.loop-low-preserved-then-y-x-2 c).After-least-gap).1 (omega (arith, c.get32-y.ensures))

pub loop-low-smaller : goal.loop-low-smaller
loop-low-smaller c =
    let below = inside (goal.at.loop-low-smaller c).After-least-gap in
    omega arith

pub loop-low-preserved : goal.loop-low-preserved
loop-low-preserved c =
    let other = c.if-y-x.false in
    let least = c.if-y-x-2.false in
    between_high c.loop-low.invariant (c.loop-low.high - 1 - c.least-gap.result) (inside (goal.at.loop-low-preserved c).After-least-gap).0
    (inside (goal.at.loop-low-preserved c).After-least-gap).1 (omega (arith, c.get32-y.ensures))

pub returns : goal.returns
returns c =
    between_end c.loop-low.invariant c.requires.rising c.loop-low-test.false
