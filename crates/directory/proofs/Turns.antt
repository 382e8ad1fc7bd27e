-- The loops of the search over levels and over the blocks of a bucket: their invariants, each with a start, a turn, the ways out and
-- an end. The loop over blocks starts anew in each level, so its invariant goes from where that loop began, and `levels_out` joins
-- the two.
use Prim.Native.Nat.{ℕ, suc, ◌+◌, ◌-◌, ◌≤◌, ◌<◌}
use native.Mathlib.Omega.{arith}
use mathlib.Core.Path.{◌≡◌, refl, sym, ap, subst}
use mathlib.Core.Bool.{Bool}
use mathlib.Core.List.{List}
use Rattle.walk.specs.Walk.{View, Walk, done, Outcome, ok, stop, and_then, Lists, Walked, Fits}
use Rattle.walk.proofs.Reached.{Reached, reached_start, reached_to, reached_on, reached_then, reached_stop, reached_done, reached_all}
use Rattle.walk.proofs.Fits.{fits_at, fits_first}
use Rattle.node.specs.Block.{Fetched, hole, held}
use Rattle.hash_level.specs.Level.{blocks_of, bucket_of}
use Rattle.dentry.specs.Slot.{layout_of, Wanted, Sought, absent, found, malformed, in_slots}
use Rattle.directory.specs.Find.{Directory, fetch_walk, after_slots, after_block, bucket_walk, levels_walk}

-- the search from a level on, and from a block of a level's bucket on
abbrev pub levels_left : Directory → Wanted → ℕ → ℕ → Walk (Outcome ℕ)
levels_left d w depth level = levels_walk d w (depth - level) level

abbrev pub bucket_left : Directory → Wanted → ℕ → ℕ → ℕ → Walk (Outcome ℕ)
bucket_left d w depth level k = bucket_walk d w level (levels_left d w depth (level + 1)) (blocks_of level - k) k

pub record Levels (v : View) (d : Directory) (w : Wanted) (depth : ℕ) (s : Lists) (level : ℕ) (t : Lists) : Type 0 where
  pub at : Reached v (levels_walk d w depth 0) s (levels_left d w depth level) t

pub record Bucket (v : View) (d : Directory) (w : Wanted) (depth level : ℕ) (s : Lists) (k : ℕ) (t : Lists) : Type 0 where
  pub at : Reached v (bucket_left d w depth level 0) s (bucket_left d w depth level k) t

-- ---- the trees, one step on
module _ (d : Directory) (w : Wanted) (depth level : ℕ) where
  pub levels_step : level < depth → levels_left d w depth level ≡ bucket_left d w depth level 0
  unfolding levels_walk
  levels_step h =
      let p : depth - level ≡ suc (depth - (level + 1)) = omega arith in
      let q : blocks_of level - 0 ≡ blocks_of level = omega arith in
      rw (p, q)

  pub levels_over : depth ≤ level → levels_left d w depth level ≡ done (stop 2)
  unfolding levels_walk
  levels_over h =
      let p : depth - level ≡ 0 = omega arith in
      rw p

  pub bucket_step : (k : ℕ) → k < blocks_of level
      → bucket_left d w depth level k
      ≡ and_then (fetch_walk d (bucket_of d.dir_level level w.hash + k)) (after_block d.inline w (bucket_left d w depth level (k + 1)))
  unfolding bucket_walk
  bucket_step k h =
      let p : blocks_of level - k ≡ suc (blocks_of level - (k + 1)) = omega arith in
      rw p

  pub bucket_over : (k : ℕ) → blocks_of level ≤ k → bucket_left d w depth level k ≡ levels_left d w depth (level + 1)
  unfolding bucket_walk
  bucket_over k h =
      let p : blocks_of level - k ≡ 0 = omega arith in
      rw p

module _ (inline : Bool) (w : Wanted) (rest : Walk (Outcome ℕ)) where
  pub after_hole : after_block inline w rest hole ≡ rest
  unfolding after_block
  after_hole = refl

  after_held : (block : List ℕ) (o : Sought) → in_slots (layout_of inline) block w ≡ o → after_block inline w rest (held block) ≡ after_slots rest o
  unfolding after_block
  after_held block o e = ap (after_slots rest) e

-- ---- the loop over levels
pub levels_start : {v : View} {s : Lists} (d : Directory) (w : Wanted) (depth : ℕ) → Levels v d w depth s 0 s
levels_start {v = v} {s = s} d w depth =
    let p : depth - 0 ≡ depth = omega arith in
    record { at = rw p (reached_start v _ s) }

pub bucket_start : {v : View} (d : Directory) (w : Wanted) (depth level : ℕ) {s : Lists} → Bucket v d w depth level s 0 s
bucket_start d w depth level = record { at = reached_start _ _ _ }

module _ {v : View} {d : Directory} {w : Wanted} {depth level : ℕ} {s t : Lists} (go : Levels v d w depth s level t) where
  pub levels_end : depth ≤ level → Walked v (levels_walk d w depth 0) s (stop 2) t
  levels_end h = reached_done (reached_to go.at (levels_over d w depth level h))

  module _ (h : level < depth) where
    at_bucket : Reached v (levels_walk d w depth 0) s (bucket_left d w depth level 0) t
    at_bucket = reached_to go.at (levels_step d w depth level h)

    -- out of both loops
    pub levels_out : {x : Outcome ℕ} {u : Lists} → Walked v (bucket_left d w depth level 0) t x u → Walked v (levels_walk d w depth 0) s x u
    levels_out out = reached_all at_bucket out

    module _ {k : ℕ} {u : Lists} (turn : Bucket v d w depth level t k u) where
      -- the bucket's next block fits, as the search does
      pub block_fits : k < blocks_of level → {i : ℕ} → i ≡ bucket_of d.dir_level level w.hash + k → Fits v (levels_walk d w depth 0) s
          → Fits v (fetch_walk d i) u
      block_fits more e fits =
          let here = reached_to (reached_on at_bucket turn.at) (bucket_step d w depth level k more) in
          subst (λ (j : ℕ). Fits v (fetch_walk d j) u) (sym e) (fits_first _ (fits_at fits here))

      -- the bucket is done: on to the next level
      pub levels_next : blocks_of level ≤ k → Levels v d w depth s (level + 1) u
      levels_next over = record { at = reached_to (reached_on at_bucket turn.at) (bucket_over d w depth level k over) }

-- ---- the loop over the blocks of a bucket: block k was fetched
module _ {v : View} {d : Directory} {w : Wanted} {depth level k : ℕ} {s t : Lists} (turn : Bucket v d w depth level s k t) (more : k < blocks_of level)
    {i : ℕ} (e : i ≡ bucket_of d.dir_level level w.hash + k) {x : Outcome Fetched} {u : Lists} (step : Walked v (fetch_walk d i) t x u) where
  abbrev rest : Walk (Outcome ℕ)
  rest = bucket_left d w depth level (k + 1)

  fetched : Walked v (fetch_walk d (bucket_of d.dir_level level w.hash + k)) t x u
  fetched = subst (λ (j : ℕ). Walked v (fetch_walk d j) t x u) e step

  at_fetch : Reached v (bucket_left d w depth level 0) s (and_then (fetch_walk d (bucket_of d.dir_level level w.hash + k)) (after_block d.inline w rest)) t
  at_fetch = reached_to turn.at (bucket_step d w depth level k more)

  pub bucket_stop : {answer : ℕ} → x ≡ stop answer → Walked v (bucket_left d w depth level 0) s (stop answer) u
  bucket_stop q = reached_stop _ at_fetch fetched q

  pub bucket_hole : x ≡ ok hole → Bucket v d w depth level s (k + 1) u
  bucket_hole q = record { at = reached_to (reached_then _ at_fetch fetched q) (after_hole d.inline w _) }

  module _ {block : List ℕ} (q : x ≡ ok (held block)) where
    at_slots : (o : Sought) → in_slots (layout_of d.inline) block w ≡ o → Reached v (bucket_left d w depth level 0) s (after_slots rest o) u
    at_slots o f = reached_to (reached_then _ at_fetch fetched q) (after_held d.inline w _ block o f)

    pub bucket_absent : in_slots (layout_of d.inline) block w ≡ absent → Bucket v d w depth level s (k + 1) u
    bucket_absent f = record { at = at_slots absent f }

    pub bucket_found : {ino : ℕ} → in_slots (layout_of d.inline) block w ≡ found ino → Walked v (bucket_left d w depth level 0) s (ok ino) u
    bucket_found f = reached_done (at_slots _ f)

    pub bucket_malformed : in_slots (layout_of d.inline) block w ≡ malformed → Walked v (bucket_left d w depth level 0) s (stop 14) u
    bucket_malformed f = reached_done (at_slots _ f)
