-- The loop's invariant: the sixteen rounds of the start are those that are left of the state and the sum reached.
use Rattle.std.proofs.Common.{◌≡◌, ◌-◌}
use Rattle.name_hash.specs.Hash.{rounds}
use Rattle.name_hash.proofs.State.tea.Given as goal

abbrev pub invariant-loop : goal.invariant-loop
invariant-loop l = rounds 16 0 l.fn.k l.fn.self ≡ rounds (16 - l.counter) l.sum l.fn.k l.t
