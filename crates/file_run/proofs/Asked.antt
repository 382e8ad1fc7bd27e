-- What walks one behind the other ask: what is so of all that each of them asks is so of all that they ask together.
use Prim.Native.Nat.{ℕ, zero, suc, ◌+◌, ◌≤◌, ◌<◌}
use native.Mathlib.Omega.{arith}
use mathlib.Core.List.{[]}
use Rattle.walk.specs.Walk.{View, empty, Walk, run, Outcome, ok, stop}
use Rattle.walk.proofs.Asked.{AllAsked}
use Rattle.walk.proofs.Again.{asked_bind, asked_done}
use Rattle.pull.specs.Walk.{Block}
use Rattle.file_run.specs.Standing.{standing, after_one, many_walk}

module _ (P Q : ℕ → Type 0) (v : View) (one : ℕ → Walk (Outcome Block)) where
  pub many_asked : (n index : ℕ) → ((j : ℕ) → index ≤ j → j < index + n → AllAsked P Q v (one j)) → AllAsked P Q v (many_walk one n index)
  unfolding many_walk
  many_asked zero index f = asked_done P Q v (standing 0 [])
  many_asked (suc n) index f =
      asked_bind P Q v empty (one index) _ (f index (omega arith) (omega arith))
      (rest (run v empty (one index)).value (many_asked n (index + 1) (λ j l m. f j (omega arith) (omega arith))))
    where
      rest : (x : Outcome Block) → AllAsked P Q v (many_walk one n (index + 1)) → AllAsked P Q v (after_one (many_walk one n (index + 1)) x)
      rest (stop answer) h = asked_done P Q v (standing answer [])
      rest (ok b) h = asked_bind P Q v empty (many_walk one n (index + 1)) _ h (asked_done P Q v _)
