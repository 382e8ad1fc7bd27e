-- The rounds that are left of sixteen: what one turn of the loop over them goes by.
use Rattle.std.proofs.Common.{◌≡◌, ℕ, suc, ◌+◌, ◌-◌, ◌<◌, ◌≤◌, arith}
use Rattle.name_hash.specs.declared.State.{State}
use Rattle.name_hash.specs.declared.Key.{Key}
use Rattle.name_hash.specs.Hash.{add32, delta, round, rounds}

pub rounds_next : (i sum : ℕ) (k : Key) (s : State) → i < 16
    → rounds (16 - i) sum k s ≡ rounds (16 - (i + 1)) (add32 sum delta) k (round k (add32 sum delta) s)
unfolding rounds
rounds_next i sum k s l =
    let e : 16 - i ≡ suc (16 - (i + 1)) = omega arith in
    rw e

pub rounds_end : (i sum : ℕ) (k : Key) (s : State) → 16 ≤ i → rounds (16 - i) sum k s ≡ s
unfolding rounds
rounds_end i sum k s l =
    let e : 16 - i ≡ 0 = omega arith in
    rw e
