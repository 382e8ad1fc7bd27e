-- "Each block's bytes are what the single pull gives, holes not told apart": a run of one block, lent a run's rooms, is the single pull,
-- with every number and every lent byte, but that a hole is answered with 0.
use Prim.Native.Nat.{ℕ, ◌/◌, ◌≤◌}
use native.Mathlib.Omega.{arith}
use mathlib.Core.Path.{◌≡◌, refl, sym, ap, ◌∙◌}
use mathlib.Core.Bool.{Bool, true, false}
use mathlib.Core.List.{List, [], ◌++◌, append-nil}
use lib.ListN.{length, drop, drop_of_length-le}
use borrow.Author.Tests.{le-leb, lt-leb, eq-eqb}
use Rattle.field.specs.Card.{card_of}
use Rattle.checkpoint.specs.Volume.{Opening, Opened, Refused, opened_image}
use Rattle.checkpoint.proofs.Inside.{refusals}
use Rattle.path.specs.Path.{part_count}
use Rattle.list.proofs.Members.{union_none}
use Rattle.walk.specs.Walk.{Seen, empty, ran, Outcome, ok, stop, Ended, BothRise}
use Rattle.pull.specs.Walk.{Block}
use Rattle.pull.specs.Pull.{nodes_most, blocks_most, Lent, lent_in_shape, call_in_shape, content_answer, content_bytes, written, refused_pull, pull_run, pulled}
use Rattle.pull.proofs.Sizes.{Counted}
use Rattle.pull.proofs.Results.{call_refused, call_opens}
use Rattle.pull.proofs.Theorems.{ending_inside, content_few, run_rises, run_ended}
use Rattle.file_run.specs.Standing.{standing, bytes_standing}
use Rattle.pull_run.specs.Run.{joined, pulls_from, run_in_shape, run_call_in_shape, refused_run, run_written, run_pulled, as_run}
use Rattle.pull_run.proofs.Results.{buffer_whole, nodes_fit_lem, blocks_fit_lem, run_refused, run_opens}

-- ---- refused, by any answer above 1
as_refused : (answer : ℕ) (lent : Lent) → 2 ≤ answer → as_run (refused_pull answer lent) ≡ refused_run answer lent
unfolding as_run
as_refused answer lent l = rw (lt-leb answer 1 (omega arith)) refl

-- ---- walked
one_written : (lent : Lent) → length lent.block ≡ 4096 → (x : Outcome Block) (s : Seen) → BothRise s → Ended Counted x
    → run_written (joined s x (ran (standing 0 []) empty)) lent ≡ as_run (written (ran x s) lent)
unfolding as_run bytes_standing
one_written lent whole (stop answer) s rise q =
    let least = (ending_inside answer q).0 in
    rw (lt-leb answer 1 (omega arith)) refl
one_written lent whole (ok b) s rise q =
    let none : drop 4096 lent.block ≡ [] = drop_of_length-le lent.block {i = 4096} (omega arith) in
    let few = le-leb (content_answer b.content) 1 (content_few b.content) in
    let C = content_bytes b.count b.content in
    let bytes : (C ++ []) ++ drop 4096 lent.block ≡ C = ap (λ (l : List ℕ). (C ++ []) ++ l) none ∙ append-nil (C ++ []) ∙ append-nil C in
    rw (few, union_none s.nodes rise.0, union_none s.blocks rise.1, bytes) refl

module _ (image path : List ℕ) (index : ℕ) (lent : Lent) (shape : run_in_shape (part_count path) 1 lent ≡ true) where
  takes : lent_in_shape (part_count path) lent ≡ true
  unfolding lent_in_shape
  takes =
      let nodes = nodes_fit_lem (part_count path) 1 lent shape in
      let blocks = blocks_fit_lem (part_count path) 1 lent shape in
      let whole = buffer_whole (part_count path) 1 lent shape in
      rw (
        eq-eqb (length lent.block) 4096 (omega arith),
        le-leb (nodes_most (part_count path)) (length lent.nodes / 4) (omega arith),
        le-leb (blocks_most (part_count path)) (length lent.blocks / 4) (omega arith),
      )

  same_shape : call_in_shape image path lent ≡ run_call_in_shape image path 1 lent
  unfolding call_in_shape run_call_in_shape
  same_shape = rw (takes, shape) refl

  -- so it is, but for the hole's number
  pub one_block : run_pulled image path index 1 lent ≡ as_run (pulled image path index lent)
  unfolding pulls_from
  one_block = go (run_call_in_shape image path 1 lent) refl (opened_image image) refl
    where
      go : (t : Bool) → run_call_in_shape image path 1 lent ≡ t → (o : Opening) → opened_image image ≡ o
          → run_pulled image path index 1 lent ≡ as_run (pulled image path index lent)
      go false e o f =
          run_refused image path index 1 lent e ∙ sym (ap as_run (call_refused image path index lent (same_shape ∙ e)) ∙ as_refused 4 lent (omega arith))
      go true e (Refused answer) f =
          let least = (refusals image answer f).0 in
          run_opens image path index 1 lent (Refused answer) e f
          ∙ sym (ap as_run (call_opens image path index lent (Refused answer) (same_shape ∙ e) f) ∙ as_refused answer lent (omega arith))
      go true e (Opened v) f =
          let r = pull_run (card_of image) v path index in
          let whole = buffer_whole (part_count path) 1 lent shape in
          run_opens image path index 1 lent (Opened v) e f
          ∙ one_written lent (omega arith) r.value r.seen (run_rises (card_of image) v path index) (run_ended (card_of image) v path index)
          ∙ sym (ap as_run (call_opens image path index lent (Opened v) (same_shape ∙ e) f))
