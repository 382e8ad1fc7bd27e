-- `opens_at` meets its contract: one arm for each stage.
use Prim.Native.Nat.{◌+◌, ◌≤◌}
use native.Mathlib.Omega.{arith}
use mathlib.Core.Path.{◌≡◌, refl}
use mathlib.Core.Bool.{Bool, true, false}
use mir.Val.{bool_byte}
use Rattle.field.specs.Choice.{choose}
use Rattle.reader_state.proofs.opens_at.Goals as goal

-- a test as a number
few : (b : Bool) → bool_byte b ≤ 1
few true = omega arith
few false = omega arith

four : (b : Bool) → 4 + bool_byte b ≡ choose b 5 4
four true = refl
four false = refl

six : (b : Bool) → 6 + bool_byte b ≡ choose b 7 6
six true = refl
six false = refl

pub overflow_add-passed : goal.overflow_add-passed
overflow_add-passed c = omega (arith, few c.in-TwoFirst.passed)

pub overflow_add-passed-in-TwoLast : goal.overflow_add-passed-in-TwoLast
overflow_add-passed-in-TwoLast c = omega (arith, few c.in-TwoLast.passed)

pub returns-in-FirstCopy : goal.returns-in-FirstCopy
returns-in-FirstCopy c = rw c.in-FirstCopy.is c.opens_in.ensures

pub returns-in-SecondCopy : goal.returns-in-SecondCopy
returns-in-SecondCopy c = rw c.in-SecondCopy.is c.opens_in-in-SecondCopy.ensures

pub returns-in-OneFirst : goal.returns-in-OneFirst
returns-in-OneFirst c = rw c.in-OneFirst.is c.opens_in-in-OneFirst.ensures

pub returns-in-OneLast : goal.returns-in-OneLast
returns-in-OneLast c = rw c.in-OneLast.is c.opens_in-in-OneLast.ensures

pub returns-in-TwoFirst : goal.returns-in-TwoFirst
returns-in-TwoFirst c = rw c.in-TwoFirst.is (rw (← four c.in-TwoFirst.passed) c.opens_in-in-TwoFirst.ensures)

pub returns-in-TwoLast : goal.returns-in-TwoLast
returns-in-TwoLast c = rw c.in-TwoLast.is (rw (← six c.in-TwoLast.passed) c.opens_in-in-TwoLast.ensures)

pub returns-in-Journal : goal.returns-in-Journal
returns-in-Journal c = rw c.in-Journal.is c.opens_in-in-Journal.ensures

pub returns-in-Refused : goal.returns-in-Refused
returns-in-Refused c = rw c.in-Refused.is c.refuses_at.ensures
