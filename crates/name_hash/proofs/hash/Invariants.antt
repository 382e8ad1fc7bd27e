-- The loop's invariant: the hash's state at the end is what the rest of the name makes of the state reached.
use Rattle.std.proofs.Common.{◌≡◌, length}
use Rattle.name_hash.specs.Hash.{absorb, start_state}
use Rattle.name_hash.proofs.hash.Given as goal

abbrev pub invariant-loop-rest : goal.invariant-loop-rest
invariant-loop-rest l = absorb (length l.fn.name) l.fn.name start_state ≡ absorb (length l.rest) l.rest l.state

abbrev pub decreases-loop-rest : goal.decreases-loop-rest
decreases-loop-rest l = length l.rest
