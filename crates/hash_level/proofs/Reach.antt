-- "The bounds 179 and 238 hold as they are": at any directory level at most 58 of the blocks that a search looks for lie in reach.
use Prim.Native.Nat.{ℕ, zero, suc, ◌+◌, ◌-◌, ◌*◌, ◌≤◌, ◌<◌}
use native.Mathlib.Omega.{arith}
use mathlib.Core.Path.{◌≡◌}
use mathlib.Core.Bool.{Bool, true, false}
use mathlib.Core.Logic.{⊎_elim}
use lib.Dec.{leb}
use borrow.Author.Tests.{lt-leb}
use Rattle.field.specs.Choice.{choose}
use Rattle.place.specs.Place.{last_index}
use Rattle.hash_level.specs.Level.{blocks_of, bucket_of}
use Rattle.hash_level.specs.Reach.{up_to, in_reach}
use Rattle.hash_level.proofs.Levels.{blocks_low, early_or_late, bucket_past}

up_to_most : (last n block : ℕ) → up_to last n block ≤ n
unfolding up_to
up_to_most last zero block = omega arith
up_to_most last (suc n) block =
    let h = up_to_most last n (block + 1) in
    let g = one (leb block last) in
    omega arith
  where
    one : (t : Bool) → choose t 1 0 ≤ 1
    one true = omega arith
    one false = omega arith

up_to_none : (last n block : ℕ) → last < block → up_to last n block ≡ 0
unfolding up_to
up_to_none last zero block h = omega arith
up_to_none last (suc n) block h =
    let g = up_to_none last n (block + 1) (omega arith) in
    rw (lt-leb block last h, g)

-- two blocks for each level before the 29th, and none from there on
in_reach_from : {A : ℕ} (dir hash : ℕ) → A ≤ 923 → (n level : ℕ) → in_reach (last_index A) dir hash n level ≤ 2 * (29 - level)
unfolding in_reach
in_reach_from dir hash few zero level = omega arith
in_reach_from {A = A} dir hash few (suc n) level =
    let rest = in_reach_from dir hash few n (level + 1) in
    ⊎_elim
    (λ early.
    let here = up_to_most (last_index A) (blocks_of level) (bucket_of dir level hash) in
    let two = blocks_low level (omega arith) in
    omega arith)
    (λ late.
    let here = up_to_none (last_index A) (blocks_of level) (bucket_of dir level hash) (bucket_past dir level hash few late) in
    omega arith)
    (early_or_late level)

pub at_most_58 : {A : ℕ} (dir hash depth : ℕ) → A ≤ 923 → in_reach (last_index A) dir hash depth 0 ≤ 58
at_most_58 dir hash depth few = in_reach_from dir hash few depth 0
