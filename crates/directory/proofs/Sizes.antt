-- How much the search asks at most: three nodes and four blocks for each block of a bucket that lies in reach, of which there are at
-- most 58, and nothing for the others. Each block that it reads lies in the main area.
use Prim.Native.Nat.{ℕ, zero, suc, ◌+◌, ◌*◌, ◌≤◌}
use native.Mathlib.Omega.{arith}
use native.Mathlib.Nat.{add-zero}
use mathlib.Core.Path.{◌≡◌, refl, sym, ap, subst}
use mathlib.Core.Bool.{Bool, true, false}
use lib.Dec.{leb}
use borrow.Author.Tests.{leb-false}
use Rattle.field.specs.Choice.{choose}
use Rattle.place.specs.Place.{last_index}
use Rattle.walk.specs.Walk.{Walk, Outcome, ends}
use Rattle.walk.proofs.Sizes.{within_choose, within_then, within_le}
use Rattle.node.specs.Block.{Fetched, hole, held, block_walk}
use Rattle.node.proofs.Sizes.{Small, block_within, block_past}
use Rattle.hash_level.specs.Level.{blocks_of, bucket_of}
use Rattle.hash_level.specs.Reach.{up_to, in_reach}
use Rattle.hash_level.proofs.Reach.{at_most_58}
use Rattle.dentry.specs.Slot.{layout_of, Wanted, Sought, absent, found, malformed, in_slots, in_inode}
use Rattle.directory.specs.Find.{Directory, fetch_from, fetch_walk, after_slots, after_block, bucket_walk, levels_walk, find_walk}

module _ (d : Directory) where
  abbrev last : ℕ
  last = last_index d.addresses

  fetch_within : (index : ℕ) → let n : ℕ = choose (leb index last) 1 0 in Small d.bounds (3 * n) (4 * n) (fetch_walk d index)
  unfolding fetch_from
  fetch_within index = within_choose d.inline (ends tt) (go (leb index last) refl)
    where
      block : Walk (Outcome Fetched)
      block = block_walk d.bounds d.ino d.inode d.addresses index

      go : (near : Bool) → leb index last ≡ near → let n : ℕ = choose near 1 0 in Small d.bounds (3 * n) (4 * n) block
      go true e = block_within d.bounds d.ino d.inode d.addresses index
      go false e =
          let past = block_past d.bounds d.ino d.inode d.addresses index (leb-false index last e) in
          subst (Small d.bounds 0 0) (sym past) (ends tt)

  module _ (w : Wanted) where
    slots_within : {ns bs : ℕ} {rest : Walk (Outcome ℕ)} → Small d.bounds ns bs rest → (o : Sought) → Small d.bounds ns bs (after_slots rest o)
    slots_within h absent = h
    slots_within h (found ino) = ends tt
    slots_within h malformed = ends refl

    after_within : {ns bs : ℕ} {rest : Walk (Outcome ℕ)} → Small d.bounds ns bs rest → (x : Fetched)
        → Small d.bounds ns bs (after_block d.inline w rest x)
    unfolding after_block
    after_within h hole = h
    after_within h (held block) = slots_within h (in_slots (layout_of d.inline) block w)

    module _ (level : ℕ) where
      abbrev bucket : ℕ
      bucket = bucket_of d.dir_level level w.hash

      bucket_within : {ns bs : ℕ} {rest : Walk (Outcome ℕ)} (n k : ℕ) → Small d.bounds ns bs rest → let reached = up_to last n (bucket + k) in
          Small d.bounds (ns + 3 * reached) (bs + 4 * reached) (bucket_walk d w level rest n k)
      unfolding bucket_walk up_to
      bucket_within zero k h = within_le _ _ (omega arith) (omega arith) h
      bucket_within (suc n) k h =
          let e : bucket + k + 1 ≡ bucket + (k + 1) = omega arith in
          let behind = ap (up_to last n) e in
          within_le _ _ (omega arith) (omega arith)
          (within_then _ (fetch_within (bucket + k)) (λ x _. after_within (bucket_within n (k + 1) h) x))

    levels_within : (n level : ℕ) → let reached = in_reach last d.dir_level w.hash n level in
        Small d.bounds (3 * reached) (4 * reached) (levels_walk d w n level)
    unfolding levels_walk in_reach
    levels_within zero level = ends refl
    levels_within (suc n) level =
        let here = ap (up_to last (blocks_of level)) (add-zero (bucket level)) in
        within_le _ _ (omega arith) (omega arith) (bucket_within level (blocks_of level) 0 (levels_within n (level + 1)))

    pub find_within : d.addresses ≤ 923 → (depth : ℕ) → Small d.bounds 174 232 (find_walk d w depth)
    unfolding find_walk
    find_within few depth =
        let most = at_most_58 d.dir_level w.hash depth few in
        within_choose d.inline (slots_within (ends refl) (in_inode d.inode w))
        (within_le _ _ (omega arith) (omega arith) (levels_within depth 0))
