-- The invariant of the loop over the nodes of a way, and its laws: what is left is the way from step i on, from the block of a node
-- and the offset of a number in it.
use Prim.Native.Nat.{ℕ, ◌+◌, ◌-◌, ◌*◌, ◌≤◌, ◌<◌}
use native.Mathlib.Omega.{arith}
use native.Mathlib.Numerals.{add-one}
use mathlib.Core.Path.{◌≡◌, ap, ◌∙◌}
use mathlib.Core.List.{List, ◌∷◌}
use lib.ListN.{length, take, drop, get_or, length-take, drop_of_length-le}
use lib.Seq.{drop-cons, get_or-take}
use Rattle.std.proofs.lemmas.Grind.{get_or_after_one}
use Rattle.field.specs.Number.{le32}
use Rattle.field.specs.Card.{Card}
use Rattle.place.specs.declared.Step.{Step}
use Rattle.place.specs.Way.{step}
use Rattle.walk.specs.Walk.{View, Walk, Outcome, ok, stop, and_then, Lists, Walked, Fits}
use Rattle.walk.proofs.Reached.{Reached, reached_start, reached_to, reached_then, reached_stop, reached_done}
use Rattle.walk.proofs.Fits.{fits_at, fits_first}
use Rattle.node.specs.Node.{Bounds, node_walk}
use Rattle.node.specs.Block.{Fetched, hole, held}
use Rattle.node.specs.Leaf.{leaf_from}
use Rattle.node.specs.Found.{WayIn}
use Rattle.node.proofs.Cases.{leaf_end, leaf_hole, leaf_node}

-- a way behind an inode, followed from the inode's block and the offset of a number in it
pub record Course : Type 0 where
  pub card : Card
  pub bounds : Bounds
  pub ino : ℕ
  pub way : List Step
  pub inode : ℕ
  pub from : ℕ

-- what is left of it from step i on
abbrev left : Course → ℕ → List ℕ → ℕ → Walk (Outcome Fetched)
left w i block at = leaf_from w.bounds w.ino (drop i w.way) block at

abbrev pub course_walk : Course → Walk (Outcome Fetched)
course_walk w = left w 0 (w.card.block w.inode) w.from

abbrev step_at : Course → ℕ → Step
step_at w i = get_or w.way i (step 0 0)

-- each slot is one of a node's 1,018 numbers
abbrev pub NodeSlots : List Step → Type 0
NodeSlots way = (k : ℕ) → k < length way → (get_or way k (step 0 0)).slot < 1018

-- a way's steps behind the inode are such
pub behind_slots : {steps : List Step} {most : ℕ} → WayIn steps most → NodeSlots (take (most - 1) (drop 1 steps))
behind_slots {steps = steps} {most = most} way k h =
    let size = length-take (most - 1) (drop 1 steps) in
    let below : k < most - 1 = omega arith in
    rw (get_or-take (most - 1) (drop 1 steps) k (step 0 0) below, get_or_after_one steps k (step 0 0)) (way.slots (1 + k) (omega arith) (omega arith))

-- and there is one only where the way has two or more
pub behind_some : (steps : List Step) (most : ℕ) → 0 < length (take (most - 1) (drop 1 steps)) → 2 ≤ most
behind_some steps most h =
    let size = length-take (most - 1) (drop 1 steps) in
    omega arith

-- the walk has come to block `node`, to the offset `at` in it and to step i
pub record Following (v : View) (w : Course) (s : Lists) (i node at : ℕ) (t : Lists) : Type 0 where
  pub slots : NodeSlots w.way
  pub come : Reached v (course_walk w) s (left w i (w.card.block node) at) t
  pub inside : node < w.card.blocks
  pub offset : i < length w.way → at + 4 ≤ 4096

pub following_start : {v : View} (w : Course) {s : Lists} → NodeSlots w.way → w.inode < w.card.blocks
    → (0 < length w.way → w.from + 4 ≤ 4096) → Following v w s 0 w.inode w.from s
following_start w slots inside offset = record { slots = slots; come = reached_start _ _ _; inside = inside; offset = offset }

module _ {v : View} {w : Course} {s : Lists} {i node at : ℕ} {t : Lists} (go : Following v w s i node at t) where
  abbrev block : List ℕ
  block = w.card.block node

  abbrev along : List Step → Walk (Outcome Fetched)
  along way = leaf_from w.bounds w.ino way block at

  -- the way is over, and the block is the leaf
  pub following_end : length w.way ≤ i → Walked v (course_walk w) s (ok (held block)) t
  following_end h =
      reached_done (reached_to go.come (ap along (drop_of_length-le w.way h) ∙ leaf_end w.bounds w.ino block at))

  -- the way goes on
  module _ (h : i < length w.way) where
    pub following_slot : (step_at w i).slot < 1018
    following_slot = go.slots i h

    here : Reached v (course_walk w) s (along (step_at w i ∷ drop (i + 1) w.way)) t
    here = reached_to go.come (ap along (drop-cons w.way i (step 0 0) h ∙ rw (add-one i)))

    -- by the number that was read there
    module _ {number : ℕ} (e : number ≡ le32 block at) where
      pub following_hole : number ≡ 0 → Walked v (course_walk w) s (ok hole) t
      following_hole z = reached_done (reached_to here (leaf_hole w.bounds w.ino block at _ _ e z))

      -- through a node
      module _ (z : number ≡ 0 → ⊥) where
        abbrev after : List ℕ → Walk (Outcome Fetched)
        after next = left w (i + 1) next (4 * (step_at w i).slot)

        at_node : Reached v (course_walk w) s (and_then (node_walk w.bounds number w.ino (step_at w i).number) after) t
        at_node = reached_to here (leaf_node w.bounds w.ino block at _ _ e z)

        pub following_fits : Fits v (course_walk w) s → Fits v (node_walk w.bounds number w.ino (step_at w i).number) t
        following_fits fits = fits_first after (fits_at fits at_node)

        module _ {x : Outcome (List ℕ)} {u : Lists} (came : Walked v (node_walk w.bounds number w.ino (step_at w i).number) t x u) where
          pub following_stop : {answer : ℕ} → x ≡ stop answer → Walked v (course_walk w) s (stop answer) u
          following_stop q = reached_stop after at_node came q

          pub following_next : {address : ℕ} → x ≡ ok (w.card.block address) → address < w.card.blocks
              → Following v w s (i + 1) address (4 * (step_at w i).slot) u
          following_next q inside =
              let slot = following_slot in
              record { slots = go.slots; come = reached_then after at_node came q; inside = inside; offset = λ _. omega arith }
