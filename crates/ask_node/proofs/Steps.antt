-- The way that the code has in its array of four steps: which case of the definitions it stands for, and that each slot is one that there is.
use Prim.Native.Nat.{ℕ, zero, suc, ◌+◌, ◌*◌, ◌≤◌, ◌<◌}
use native.Mathlib.Omega.{arith}
use lib.Dec.{ltb}
use borrow.Author.Tests.{ltb-true, ltb-false, lt-ltb, le-ltb, eq-eqb, ne_eqb}
use mathlib.Core.Path.{◌≡◌, refl, sym, ap, ◌∙◌}
use mathlib.Core.Bool.{Bool, true, false}
use mathlib.Core.List.{List, [], ◌∷◌, ◌++◌}
use lib.ListN.{length, replicate, get_or, get_or-eq_default}
use lib.Seq.{length-take-le, get_or-take}
use Rattle.field.specs.Number.{le32}
use Rattle.place.specs.declared.Step.{Step}
use Rattle.place.specs.declared.Way.{Way}
use Rattle.place.specs.Way.{step, in_array}
use Rattle.place.proofs.Ways.{slot_at, way_steps, way_few, way_node_slots, way_inode_slot, way_number_slot}
use Rattle.inode.specs.Inode.{inode_of, addresses_in}
use Rattle.inode.proofs.Counting.{few_addresses}
use Rattle.node.specs.Node.{bounds_of}
use Rattle.asking.specs.Table.{Kept}
use Rattle.ask_node.specs.declared.Wants.TheVariants.{Hole}
use Rattle.ask_node.specs.Wants.{data_wants}
use Rattle.ask_node.specs.Fetch.{way_to, steps_in, WayIn, step_on, no_node, node_on, follow_fetch, way_fetch, block_fetch, next_fetch}

pub hop_few : {w : Way} {hop : ℕ} → WayIn w → hop < w.count → hop < 4
hop_few way h = let few = way.few in omega arith

-- ---- from a hop of a way on
module _ (t : Kept) {w : Way} (way : WayIn w) (hop number : ℕ) where
  steps_length : length (steps_in w) ≡ w.count
  steps_length =
      let few = way.few in
      let whole = way.whole in
      length-take-le w.count w.steps (omega arith)

  -- the way is over
  pub follow_data : w.count ≤ hop → follow_fetch t (steps_in w) hop number ≡ no_node (data_wants (bounds_of t.volume) number)
  unfolding follow_fetch
  follow_data h = let l = steps_length in rw (le-ltb hop (length (steps_in w)) (omega arith))

  -- it goes on
  module _ (h : hop < w.count) where
    pub follow_hole : number ≡ 0 → follow_fetch t (steps_in w) hop number ≡ no_node Hole
    unfolding follow_fetch
    follow_hole z = let l = steps_length in rw (lt-ltb hop (length (steps_in w)) (omega arith), eq-eqb number 0 z)

    pub follow_node : (number ≡ 0 → ⊥) → follow_fetch t (steps_in w) hop number ≡ node_on t w.steps hop number
    unfolding follow_fetch
    follow_node z =
        let l = steps_length in
        rw (lt-ltb hop (length (steps_in w)) (omega arith), ne_eqb number 0 z, get_or-take w.count w.steps hop (step 0 0) h)

-- ---- the zeros behind a way
array_end : (n k : ℕ) → get_or (replicate n (step 0 0)) k (step 0 0) ≡ step 0 0
array_end zero k = refl
array_end (suc n) zero = refl
array_end (suc n) (suc k) = array_end n k

array_step : (way : List Step) (n k : ℕ) → get_or (way ++ replicate n (step 0 0)) k (step 0 0) ≡ step_on way k
array_step [] n k = array_end n k
array_step (s ∷ way) n zero = refl
array_step (s ∷ way) n (suc k) = array_step way n k

-- ---- from the inode, by how long the way is
module _ (t : Kept) (inode : List ℕ) where
  no_step : (way : List Step) → length way ≡ 0 → way_fetch t inode way ≡ no_node Hole
  unfolding way_fetch
  no_step [] l = refl
  no_step (s ∷ way) l = absurd (omega arith)

  one_step : (way : List Step) → length way ≡ 1
      → way_fetch t inode way ≡ no_node (data_wants (bounds_of t.volume) (le32 inode (360 + 4 * slot_at (in_array way) 0)))
  unfolding way_fetch
  one_step [] l = absurd (omega arith)
  one_step (s ∷ []) l = refl
  one_step (s ∷ u ∷ way) l = absurd (omega arith)

  more_steps : (way : List Step) → (length way ≡ 0 → ⊥) → (length way ≡ 1 → ⊥)
      → way_fetch t inode way ≡ follow_fetch t way 1 (le32 inode (4052 + 4 * slot_at (in_array way) 0))
  unfolding way_fetch
  more_steps [] p q = absurd (p refl)
  more_steps (s ∷ []) p q = absurd (q refl)
  more_steps (s ∷ u ∷ way) p q = refl

-- ---- the way that the code found
module _ (inode : List ℕ) (index : ℕ) {w : Way} (e : w ≡ in_array (way_to inode index)) where
  abbrev A : ℕ
  A = addresses_in (inode_of inode)

  pub way_in : WayIn w
  way_in = let few = way_few A index e in record { few = few.0; whole = few.1 }

  pub inode_slot : slot_at w 0 < 928
  inode_slot =
      let most = few_addresses (inode_of inode) in
      let low = way_inode_slot A index e in
      omega arith

  pub number_slot : (w.count ≡ 0 → ⊥) → (w.count ≡ 1 → ⊥) → slot_at w 0 < 5
  number_slot p q = way_number_slot A index e (omega (arith, p, q))

  at_step : (hop : ℕ) → hop < 4 → get_or w.steps hop (step 0 0) ≡ step_on (way_to inode index) hop
  at_step hop h =
      ap (λ (v : Way). get_or v.steps hop (step 0 0)) e
      ∙ get_or-take 4 (way_to inode index ++ replicate 4 (step 0 0)) hop (step 0 0) h
      ∙ array_step (way_to inode index) 4 hop

  -- a slot in an array behind the way's end is 0
  pub node_slot : (hop : ℕ) → 1 ≤ hop → hop < 4 → slot_at w hop < 1018
  node_slot hop p q = by (ltb hop w.count) refl
    where
      by : (b : Bool) → ltb hop w.count ≡ b → slot_at w hop < 1018
      by true h = way_node_slots A index e hop p (ltb-true hop w.count h)
      by false h =
          let over = ltb-false hop w.count h in
          let count = ap (λ (v : Way). v.count) e in
          let past = at_step hop q ∙ get_or-eq_default (way_to inode index) (step 0 0) {n = hop} (omega arith) in
          let empty = ap (λ (s : Step). s.slot) past in
          omega arith

  module _ (t : Kept) where
    pub block_none : w.count ≡ 0 → block_fetch t inode index ≡ no_node Hole
    block_none l = no_step t inode (way_to inode index) (rw e at l)

    pub block_data : {address : ℕ} → w.count ≡ 1 → address ≡ le32 inode (360 + 4 * slot_at w 0)
        → block_fetch t inode index ≡ no_node (data_wants (bounds_of t.volume) address)
    block_data l f = one_step t inode (way_to inode index) (rw e at l) ∙ rw (f, e)

    pub block_node : {number : ℕ} → (w.count ≡ 0 → ⊥) → (w.count ≡ 1 → ⊥) → number ≡ le32 inode (4052 + 4 * slot_at w 0)
        → block_fetch t inode index ≡ follow_fetch t (steps_in w) 1 number
    block_node p q f = more_steps t inode (way_to inode index) (rw e at p) (rw e at q) ∙ rw (way_steps A index e, f, e)

    pub next_node : {number : ℕ} (hop : ℕ) (block : List ℕ) → hop < 4 → number ≡ le32 block (4 * slot_at w hop)
        → next_fetch t inode index hop block ≡ follow_fetch t (steps_in w) (hop + 1) number
    next_node hop block h f =
        ap (λ (s : Step). follow_fetch t (way_to inode index) (hop + 1) (le32 block (4 * s.slot))) (sym (at_step hop h))
        ∙ rw (way_steps A index e, f)
