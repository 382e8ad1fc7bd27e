-- The steps of demand 3: what a pull that got past opening left, that Compare takes its lists, and that cards which agree on them
-- give the same run. The last is the tree's law, applied once.
use Prim.Native.Nat.{ℕ, ◌<◌, ◌≤◌}
use native.Mathlib.Omega.{arith}
use mathlib.Core.Path.{◌≡◌, refl, sym, ap, subst, ◌∙◌}
use mathlib.Core.Bool.{true}
use mathlib.Core.List.{List, [], ◌∷◌}
use mathlib.Core.Logic.{◌⊎◌, inl, ⊎_elim, ◌↔◌}
use Rattle.field.specs.Card.{card_of}
use Rattle.checkpoint.specs.declared.Volume.{Volume}
use Rattle.checkpoint.specs.Volume.{Opened, opened_image}
use Rattle.checkpoint.proofs.Inside.{refusals}
use Rattle.list.specs.Lists.{Rising, AllOf, numbers, Listed, entries}
use Rattle.walk.specs.Walk.{view_of, empty, Ran, run, Outcome, ok, stop, Ended}
use Rattle.walk.proofs.Runs.{agree}
use Rattle.list.proofs.Written.{numbers_over, over_inside}
use Rattle.node.specs.Node.{Bounds, bounds_of, in_main}
use Rattle.pull.specs.Walk.{Block, pull_walk}
use Rattle.pull.specs.Pull.{Lent, Result, call_in_shape, answer_of, buffer_after, written, pull_run, pulled, nodes_left, blocks_left}
use Rattle.pull.proofs.Sizes.{Counted}
use Rattle.pull.proofs.Theorems.{PullEnds, refusal, walked, ends, ending_inside, content_few, run_rises, run_inside, run_ended, run_some}
use Rattle.compare.specs.Lists.{lists_in_shape}
use Rattle.compare.specs.declared.Compared.{Compared}
use Rattle.compare.specs.Difference as d
use Rattle.compare.specs.Difference.{Told, difference}
use Rattle.compare.specs.Compare.{verdict, compared}
use Rattle.compare.proofs.Shapes.{ListsFit, lists_in_shape_lem, in_shape_lists}
use Rattle.compare.proofs.Differences.{difference_same, same_difference}
use Rattle.compare.proofs.Openings.{says_same, says_changed, lists_compared, compared_opened}
use Rattle.compare.proofs.Theorems.{CompareEnds, bad_length, kept_refused, fresh_refused, bad_lists, told}
use Rattle.compare.proofs.Theorems as compare
use Rattle.pull_again.specs.Demand.{PastOpening, SameOn, SamePull}

-- what a pull that got past opening left: its card opened, and its walk's result was written
pub record Came (image path : List ℕ) (index : ℕ) (lent : Lent) : Type 0 where
  pub v : Volume
  pub opens : opened_image image ≡ Opened v
  pub shape : call_in_shape image path lent ≡ true
  pub wrote : pulled image path index lent ≡ written (pull_run (card_of image) v path index) lent

-- it is no refusal, by its answer
pub past_came : (image path : List ℕ) (index : ℕ) (lent : Lent) → PastOpening (pulled image path index lent) → Came image path index lent
past_came image path index lent past = go refl (ends image path index lent)
  where
    go : {r : Result} → pulled image path index lent ≡ r → PullEnds image path index lent r → Came image path index lent
    go e (refusal answer p q f) =
        let g : (pulled image path index lent).numbers.answer ≡ answer = ap (λ (x : Result). x.numbers.answer) (e ∙ f) in
        absurd (⊎_elim (λ l. omega arith) (λ l. omega arith) past)
    go e (walked v s o f) = record { v = v; opens = o; shape = s; wrote = e ∙ f }

-- ---- the lists as the pull left them
module _ (r : Ran (Outcome Block)) (lent : Lent) where
  pub nodes_left_lem : entries (nodes_left (written r lent)) ≡ r.seen.nodes
  nodes_left_lem = numbers_over r.seen.nodes lent.nodes

  pub blocks_left_lem : entries (blocks_left (written r lent)) ≡ r.seen.blocks
  blocks_left_lem = numbers_over r.seen.blocks lent.blocks

-- they are the run's
module _ {image path : List ℕ} {index : ℕ} {lent : Lent} (came : Came image path index lent) where
  pub nodes_of_run : entries (nodes_left (pulled image path index lent)) ≡ (pull_run (card_of image) came.v path index).seen.nodes
  nodes_of_run = ap (λ (r : Result). entries (nodes_left r)) came.wrote ∙ nodes_left_lem (pull_run (card_of image) came.v path index) lent

  pub blocks_of_run : entries (blocks_left (pulled image path index lent)) ≡ (pull_run (card_of image) came.v path index).seen.blocks
  blocks_of_run = ap (λ (r : Result). entries (blocks_left r)) came.wrote ∙ blocks_left_lem (pull_run (card_of image) came.v path index) lent

-- Compare takes them
pub lists_fit : (image path : List ℕ) (index : ℕ) (lent : Lent) (came : Came image path index lent)
    → lists_in_shape (bounds_of came.v) (nodes_left (pulled image path index lent)) (blocks_left (pulled image path index lent)) ≡ true
lists_fit image path index lent came = rw came.wrote (lists_in_shape_lem _ _ _ (fit came.v))
  where
    fit : (v : Volume) → ListsFit (bounds_of v) (nodes_left (written (pull_run (card_of image) v path index) lent))
        (blocks_left (written (pull_run (card_of image) v path index) lent))
    fit v =
        let runs : Ran (Outcome Block) = pull_run (card_of image) v path index in
        record {
          some = run_some (card_of image) v path index;
          nodes_held = over_inside runs.seen.nodes lent.nodes;
          blocks_held = over_inside runs.seen.blocks lent.blocks;
          nodes_rise = subst Rising (sym (nodes_left_lem runs lent)) (run_rises (card_of image) v path index).0;
          blocks_rise = subst Rising (sym (blocks_left_lem runs lent)) (run_rises (card_of image) v path index).1;
          inside = subst (AllOf (λ b. in_main (bounds_of v) b ≡ true)) (sym (blocks_left_lem runs lent)) (run_inside (card_of image) v path index);
        }

-- ---- the tree's law, applied once: cards that agree on what a run listed give the same run
pub same_run : (kept : List ℕ) (v : Volume) (fresh : List ℕ) (u : Volume) (path : List ℕ) (index : ℕ)
    → SameOn kept v fresh u (pull_run (card_of kept) v path index).seen.nodes (pull_run (card_of kept) v path index).seen.blocks
    → pull_run (card_of fresh) u path index ≡ pull_run (card_of kept) v path index
unfolding pull_run
same_run kept v fresh u path index same =
    let w = pull_walk (bounds_of v) path index in
    ap (λ (m : Bounds). run (view_of (card_of fresh) u) empty (pull_walk m path index)) (sym same.bounds)
    ∙ agree (view_of (card_of kept) v) (view_of (card_of fresh) u) empty w same.tables same.bytes

-- the same run, written into any lent memory, is the same pull
pub same_written : (r : Ran (Outcome Block)) (lent lent' : Lent) → Ended Counted r.value → SamePull (written r lent) (written r lent')
same_written r lent lent' ended = record {
  numbers = refl;
  nodes = nodes_left_lem r lent ∙ sym (nodes_left_lem r lent');
  blocks = blocks_left_lem r lent ∙ sym (blocks_left_lem r lent');
  block = same_block_lem r.value ended;
}
  where
    same_block_lem : (o : Outcome Block) → Ended Counted o → answer_of o ≤ 1 → buffer_after o lent.block ≡ buffer_after o lent'.block
    same_block_lem (ok b) q l = refl
    same_block_lem (stop answer) q l = let least = (ending_inside answer q).0 in absurd (omega arith)

-- ---- lists that Compare takes: it says "same" exactly if both images agree on all that they list, else "changed"
module _ (kept : List ℕ) (v : Volume) (fresh : List ℕ) (u : Volume) (nodes blocks : Listed) (kept_opens : opened_image kept ≡ Opened v)
    (fresh_opens : opened_image fresh ≡ Opened u) (takes : lists_in_shape (bounds_of v) nodes blocks ≡ true) where
  abbrev first : Told
  first = difference (bounds_of v) (bounds_of u) (view_of (card_of kept) v) (view_of (card_of fresh) u) (entries nodes) (entries blocks)

  pub says : compared kept fresh nodes blocks ≡ verdict first
  says = compared_opened kept fresh nodes blocks v u kept_opens fresh_opens ∙ lists_compared (card_of kept) v (card_of fresh) u nodes blocks takes

  agreed : first ≡ d.same → SameOn kept v fresh u (entries nodes) (entries blocks)
  agreed e = let all = difference_same _ _ _ _ _ _ e in record { bounds = all.0; tables = all.1; bytes = all.2 }

  pub exactly_same : ((compared kept fresh nodes blocks).answer ≡ 15) ↔ SameOn kept v fresh u (entries nodes) (entries blocks)
  exactly_same = (
    λ e. agreed (says_same first (ap (λ (x : Compared). x.answer) (sym says) ∙ e)),
    λ s. ap (λ (x : Compared). x.answer) (says ∙ ap verdict (same_difference _ _ _ _ _ _ s.bounds s.tables s.bytes)),
  )

  pub else_changed : (SameOn kept v fresh u (entries nodes) (entries blocks) → ⊥) → (compared kept fresh nodes blocks).answer ≡ 16
  else_changed differ = ap (λ (x : Compared). x.answer) says ∙ says_changed first (λ e. differ (agreed e))

-- ---- "same" is said only of two images that open and agree on all that is listed, and at least one node is
pub record ToldSame (kept fresh : List ℕ) (nodes blocks : Listed) : Type 0 where
  pub v : Volume
  pub u : Volume
  pub kept_opens : opened_image kept ≡ Opened v
  pub fresh_opens : opened_image fresh ≡ Opened u
  pub some : 1 ≤ nodes.count
  pub on : SameOn kept v fresh u (entries nodes) (entries blocks)

pub told_same : (kept fresh : List ℕ) (nodes blocks : Listed) → (compared kept fresh nodes blocks).answer ≡ 15 → ToldSame kept fresh nodes blocks
told_same kept fresh nodes blocks e = go (compare.ends kept fresh nodes blocks) e
  where
    go : {r : Compared} → CompareEnds kept fresh nodes blocks r → r.answer ≡ 15 → ToldSame kept fresh nodes blocks
    go (bad_length h f) a = let n = ap (λ (c : Compared). c.answer) f in absurd (omega arith)
    go (kept_refused answer o f) a = let n = ap (λ (c : Compared). c.answer) f in let few = refusals kept answer o in absurd (omega arith)
    go (fresh_refused v k answer o f) a = let n = ap (λ (c : Compared). c.answer) f in let few = refusals fresh answer o in absurd (omega arith)
    go (bad_lists v u p q h f) a = let n = ap (λ (c : Compared). c.answer) f in absurd (omega arith)
    go (told v u p q h f) a =
        let all = difference_same _ _ _ _ _ _ (says_same _ (sym (ap (λ (c : Compared). c.answer) f) ∙ a)) in
        record {
          v = v;
          u = u;
          kept_opens = p;
          fresh_opens = q;
          some = (in_shape_lists _ _ _ h).some;
          on = record { bounds = all.0; tables = all.1; bytes = all.2 };
        }

-- a pull with a node listed got past opening
pub some_past : (image path : List ℕ) (index : ℕ) (lent : Lent) → 1 ≤ (nodes_left (pulled image path index lent)).count
    → PastOpening (pulled image path index lent)
some_past image path index lent some = go (ends image path index lent) some
  where
    outcome : (o : Outcome Block) → Ended Counted o → (answer_of o < 4) ⊎ (8 < answer_of o)
    outcome (ok b) q = let few = content_few b.content in inl (omega arith)
    outcome (stop answer) q = (ending_inside answer q).2

    go : {r : Result} → PullEnds image path index lent r → 1 ≤ (nodes_left r).count → PastOpening r
    go {r} (refusal answer p q e) l =
        let none : (nodes_left r).count ≡ 0 = ap (λ (r : Result). (nodes_left r).count) e in
        absurd (omega arith)
    go (walked v p q e) l = rw e (outcome (pull_run (card_of image) v path index).value (run_ended (card_of image) v path index))

-- the same, of results that are known by an equation
pub same_pulls : {r r' q q' : Result} → r ≡ r' → q ≡ q' → SamePull r' q' → SamePull r q
same_pulls {r} {r'} {q} {q'} e f s = subst (λ (x : Result). SamePull x q) (sym e) (subst (SamePull r') (sym f) s)

-- a card agrees with itself on any list
pub all_same : (A : Type 0) (f : ℕ → A) (l : List ℕ) → AllOf (λ n. f n ≡ f n) l
all_same A f [] = tt
all_same A f (x ∷ xs) = (refl, all_same A f xs)
