-- The invariant: by every test that the calls decide, what is left decides.
use mathlib.Core.Path.{◌≡◌}
use mathlib.Core.Bool.{Bool}
use Prim.Native.Nat.{ℕ, ◌+◌, ◌-◌, ◌*◌, ◌<◌}
use Rattle.list.specs.Lists.{column}
use Rattle.compare.specs.Column.{numbers_in, place_of, number_at, all_pass}
use Rattle.compare.proofs.column.Column.all_pass.Given as goal

abbrev pub invariant-loop-i : goal.invariant-loop-i
invariant-loop-i g l =
    (passes : ℕ → Bool)
    → ((i : ℕ) → i < l.self.count → (r : Bool) → goal.F-post g l.test (place_of l.self i) (number_at l.self i) r → r ≡ passes (number_at l.self i))
    → all_pass passes (numbers_in l.self)
    ≡ all_pass passes (column l.self.width l.self.bytes.now (l.self.start + l.self.width * l.i) (l.self.count - l.i))
