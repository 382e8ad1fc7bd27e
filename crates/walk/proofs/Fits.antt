-- That a walk's lists fit, carried along its way: from a walk to its parts, and from a place to the next. No count is named here but
-- in the last two: a walk that lists at most so much fits into empty lists of that room.
use Prim.Native.Nat.{ℕ, ◌*◌, ◌≤◌}
use native.Mathlib.Omega.{arith}
use mathlib.Core.Path.{ap}
use mathlib.Core.List.{List}
use lib.ListN.{length}
use Rattle.list.specs.Lists.{numbers, Holds}
use Rattle.walk.specs.Walk.{View, empty, saw_node, saw_block, Walk, look, read, Ran, run, bind, Within, Outcome, onward, and_then}
use Rattle.walk.specs.Walk.{Lists, lists, listed, none, Fits}
use Rattle.walk.proofs.Runs.{run_bind, run_more}
use Rattle.walk.proofs.Sizes.{few_listed}
use Rattle.walk.proofs.Reached.{Reached}

-- ---- what is asked next fits
module _ {A : Type 0} {v : View} {s : Lists} where
  pub fits_look : {n : ℕ} {k : _} → Fits {A = A} v (look n k) s → Holds n s.nodes s.counts.nodes
  unfolding run
  fits_look {n = n} {k = k} h =
      let most = (run_more v (saw_node n (listed s)) (k (v.table n))).0 in
      let room = h.for_nodes in
      record { room = omega arith; rising = h.rising.0 }

  pub fits_read : {b : ℕ} {k : _} → Fits {A = A} v (read b k) s → Holds b s.blocks s.counts.blocks
  unfolding run
  fits_read {b = b} {k = k} h =
      let most = (run_more v (saw_block b (listed s)) (k (v.block b))).1 in
      let room = h.for_blocks in
      record { room = omega arith; rising = h.rising.1 }

-- ---- the first part of a walk
pub fits_part : {A B : Type 0} {v : View} {s : Lists} (p : Walk A) (f : A → Walk B) → Fits v (bind p f) s → Fits v p s
fits_part {v = v} {s = s} p f h =
    let e = run_bind v (listed s) p f in
    let a = ap (λ (o : Ran _). length o.seen.nodes) e in
    let b = ap (λ (o : Ran _). length o.seen.blocks) e in
    let most = run_more v (run v (listed s) p).seen (f (run v (listed s) p).value) in
    let r = h.for_nodes in
    let q = h.for_blocks in
    record { rising = h.rising; for_nodes = omega arith; for_blocks = omega arith }

pub fits_first : {A B : Type 0} {v : View} {s : Lists} {p : Walk (Outcome A)} (f : A → Walk (Outcome B)) → Fits v (and_then p f) s → Fits v p s
unfolding and_then
fits_first {p = p} f h = fits_part p (onward f) h

-- ---- from place to place: what is left fits
pub fits_at : {A : Type 0} {v : View} {w r : Walk A} {s t : Lists} → Fits v w s → Reached v w s r t → Fits v r t
fits_at h at =
    let a = ap (λ (o : Ran _). length o.seen.nodes) at.goes in
    let b = ap (λ (o : Ran _). length o.seen.blocks) at.goes in
    let c = at.nodes_grown.size in
    let d = at.blocks_grown.size in
    let e = h.for_nodes in
    let f = h.for_blocks in
    record { rising = at.rises h.rising; for_nodes = omega arith; for_blocks = omega arith }

-- ---- by what is listed in the end, at the start
pub fits_few : {A : Type 0} (v : View) {w : Walk A} {nodes blocks : List ℕ} {ns bs : ℕ}
    → (length (run v empty w).seen.nodes ≤ ns) × (length (run v empty w).seen.blocks ≤ bs) → 4 * ns ≤ length nodes → 4 * bs ≤ length blocks
    → Fits v w (lists nodes blocks none)
unfolding numbers
fits_few v most p q = record { rising = (tt, tt); for_nodes = omega arith; for_blocks = omega arith }

-- and by size
pub fits_start : {A : Type 0} {P : ℕ → Type 0} {Q : A → Type 0} (v : View) {w : Walk A} {nodes blocks : List ℕ} {ns bs : ℕ}
    → Within P Q ns bs w → 4 * ns ≤ length nodes → 4 * bs ≤ length blocks → Fits v w (lists nodes blocks none)
fits_start v {w = w} size p q = fits_few v (few_listed v w size) p q
