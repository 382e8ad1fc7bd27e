-- Demand 3 for runs of pulls: "same", said of a run's lists, means the same run on the new image. And Compare takes the lists of every run
-- that got past opening.
use Prim.Native.Nat.{ℕ, ◌+◌, ◌*◌, ◌≤◌, ◌<◌}
use native.Mathlib.Omega.{arith}
use mathlib.Core.Path.{◌≡◌, refl, sym, ap, subst, ◌∙◌}
use mathlib.Core.Bool.{true}
use mathlib.Core.Logic.{◌↔◌}
use mathlib.Core.List.{List, Memᴰ}
use lib.ListN.{length, take, drop}
use lib.Seq.{take-append_seam}
use Rattle.field.specs.Card.{card_of}
use Rattle.checkpoint.specs.declared.Volume.{Volume}
use Rattle.checkpoint.specs.Volume.{Opened, opened_image}
use Rattle.checkpoint.proofs.Inside.{image_shaped}
use Rattle.nat.specs.Table.{table_answer}
use Rattle.list.specs.Lists.{Rising, AllOf, entries}
use Rattle.list.proofs.Rises.{all_map, all_mem, mem_all}
use Rattle.list.proofs.Members.{mem_some}
use Rattle.list.proofs.Written.{numbers_over, over_inside}
use Rattle.walk.specs.Walk.{view_of, empty, Ran, run, BothRise}
use Rattle.walk.proofs.Runs.{agree, run_rising}
use Rattle.node.specs.Node.{Bounds, bounds_of, in_main}
use Rattle.path.specs.Path.{part_count}
use Rattle.path_lookup.specs.Lookup.{ino_of_root}
use Rattle.pull.specs.Walk.{pull_walk}
use Rattle.pull.specs.Pull.{Lent, Result, lent_in_shape, nodes_left, blocks_left, pull_run, pulled}
use Rattle.pull.proofs.Theorems.{run_root, run_some}
use Rattle.compare.specs.Lists.{lists_in_shape}
use Rattle.compare.proofs.Shapes.{ListsFit, lists_in_shape_lem}
use Rattle.file_run.specs.Standing.{Standing, many_walk, bytes_standing, standing_over}
use Rattle.pull_run.specs.Run.{run_in_shape, run_call_in_shape, run_pulls, RunResult, run_nodes_left, run_blocks_left, refused_run, run_written, run_pulled}
use Rattle.pull_run.proofs.Pulls.{run_is}
use Rattle.pull_run.proofs.Results.{some_wanted, run_opens, run_path_shape, run_lent_shape, run_call_shape}
use Rattle.pull_run.proofs.Sizes.{run_inside}
use Rattle.pull_run.proofs.Stood as stood
use Rattle.pull_run.proofs.Theorems.{RunEnds, out_of_shape, not_opened, walked, run_ends, standing_length, pull_wrote, nodes_together, blocks_together}
use Rattle.pull_again.specs.Demand.{PastOpening, said, SameOn, SamePull}
use Rattle.pull_again.specs.Runs.{said_of_run, SameRun}
use Rattle.pull_again.proofs.Steps.{past_came, exactly_same, else_changed, ToldSame, told_same, some_past, all_same}
use Rattle.pull_again.proofs.Demand.{same_exactly_if, whenever_same}

-- ---- what a run that got past opening left
pub record RunCame (image path : List ℕ) (index wanted : ℕ) (lent : Lent) (v : Volume) : Type 0 where
  pub opens : opened_image image ≡ Opened v
  pub shape : run_call_in_shape image path wanted lent ≡ true

module _ {image path : List ℕ} {index wanted : ℕ} {lent : Lent} {v : Volume} (came : RunCame image path index wanted lent v) where
  runs : Ran Standing
  runs = run_pulls (card_of image) v path index wanted

  run_wrote : run_pulled image path index wanted lent ≡ run_written runs lent
  unfolding runs
  run_wrote = run_opens image path index wanted lent (Opened v) came.shape came.opens

  nodes_of_lem : entries (run_nodes_left (run_pulled image path index wanted lent)) ≡ runs.seen.nodes
  nodes_of_lem = ap (λ (r : RunResult). entries (run_nodes_left r)) run_wrote ∙ numbers_over runs.seen.nodes lent.nodes

  blocks_of_lem : entries (run_blocks_left (run_pulled image path index wanted lent)) ≡ runs.seen.blocks
  blocks_of_lem = ap (λ (r : RunResult). entries (run_blocks_left r)) run_wrote ∙ numbers_over runs.seen.blocks lent.blocks

-- a run with a node listed is no refusal
listed_came : (image path : List ℕ) (index wanted : ℕ) (lent : Lent) (v : Volume) → opened_image image ≡ Opened v
    → 1 ≤ (run_nodes_left (run_pulled image path index wanted lent)).count → RunCame image path index wanted lent v
listed_came image path index wanted lent v opens some = go (run_ends image path index wanted lent) some
  where
    none : {r : RunResult} {answer : ℕ} → r ≡ refused_run answer lent → 1 ≤ (run_nodes_left r).count → ⊥
    none e l = let z = ap (λ (r : RunResult). (run_nodes_left r).count) e in omega arith

    go : {r : RunResult} → RunEnds image path index wanted lent r → 1 ≤ (run_nodes_left r).count → RunCame image path index wanted lent v
    go (out_of_shape h e) l = absurd (none e l)
    go (not_opened answer o p q e) l = absurd (none e l)
    go (walked u p q e) l = record { opens = opens; shape = p }

-- ---- the tree's law, applied once
same_runs : (kept : List ℕ) (v : Volume) (fresh : List ℕ) (u : Volume) (path : List ℕ) (index wanted : ℕ)
    → SameOn kept v fresh u (run_pulls (card_of kept) v path index wanted).seen.nodes (run_pulls (card_of kept) v path index wanted).seen.blocks
    → run_pulls (card_of fresh) u path index wanted ≡ run_pulls (card_of kept) v path index wanted
same_runs kept v fresh u path index wanted same =
    let is = run_is (card_of kept) v path index wanted in
    let w = many_walk (pull_walk (bounds_of v) path) wanted index in
    run_is (card_of fresh) u path index wanted
    ∙ ap (λ (m : Bounds). run (view_of (card_of fresh) u) empty (many_walk (pull_walk m path) wanted index)) (sym same.bounds)
    ∙ agree (view_of (card_of kept) v) (view_of (card_of fresh) u) empty w
    (subst (λ (r : Ran Standing). AllOf (λ n. table_answer (card_of kept) v n ≡ table_answer (card_of fresh) u n) r.seen.nodes) is same.tables)
    (subst (λ (r : Ran Standing). AllOf (λ b. (card_of kept).block b ≡ (card_of fresh).block b) r.seen.blocks) is same.bytes)
    ∙ sym is

-- written into any lent memory it is the same run
same_written : (r : Ran Standing) (lent lent' : Lent) → length (bytes_standing r.value.stand) ≡ 4096 * length r.value.stand
    → SameRun (run_written r lent) (run_written r lent')
same_written r lent lent' sized = record {
  numbers = refl;
  nodes = numbers_over r.seen.nodes lent.nodes ∙ sym (numbers_over r.seen.nodes lent'.nodes);
  blocks = numbers_over r.seen.blocks lent.blocks ∙ sym (numbers_over r.seen.blocks lent'.blocks);
  bytes = front lent.block ∙ sym (front lent'.block);
}
  where
    front : (buffer : List ℕ) → take (4096 * length r.value.stand) (standing_over r.value.stand buffer) ≡ bytes_standing r.value.stand
    front buffer =
        ap (λ (n : ℕ). take n (standing_over r.value.stand buffer)) (sym sized)
        ∙ take-append_seam (bytes_standing r.value.stand) (drop (4096 * length r.value.stand) buffer)

-- "Whenever it says "same"", for a run: the same run on the second image gives the same answer, counts, bytes and lists. The second run may
-- be lent other memory, of any lengths that it takes.
pub whenever_same_run : (kept fresh path : List ℕ) (index wanted : ℕ) (lent lent' : Lent) → run_in_shape (part_count path) wanted lent' ≡ true
    → (said_of_run kept fresh (run_pulled kept path index wanted lent)).answer ≡ 15
    → SameRun (run_pulled kept path index wanted lent) (run_pulled fresh path index wanted lent')
unfolding runs
whenever_same_run kept fresh path index wanted lent lent' takes e =
    let t : ToldSame kept fresh _ _ = told_same kept fresh _ _ e in
    let came = listed_came kept path index wanted lent t.v t.kept_opens t.some in
    let on : SameOn kept t.v fresh t.u (runs came).seen.nodes (runs came).seen.blocks =
    record {
      bounds = t.on.bounds;
      tables = subst (AllOf _) (nodes_of_lem came) t.on.tables;
      bytes = subst (AllOf _) (blocks_of_lem came) t.on.bytes;
    } in
    let shape = run_call_shape fresh path index wanted lent' (image_shaped fresh t.u t.fresh_opens)
    (run_path_shape kept path index wanted lent came.shape) takes in
    let second = run_opens fresh path index wanted lent' (Opened t.u) shape t.fresh_opens
    ∙ ap (λ (r : Ran Standing). run_written r lent') (same_runs kept t.v fresh t.u path index wanted on) in
    rw (run_wrote came, second)
    (same_written (runs came) lent lent' (standing_length kept path index wanted lent t.v came.shape came.opens))

-- ---- Compare takes the lists of every run that got past opening: compared with itself, an image is "same"
module _ (image path : List ℕ) (index wanted : ℕ) (lent : Lent) (v : Volume) (came : RunCame image path index wanted lent v) where
  root_listed : (n : ℕ) → 1 ≤ n → 1 ≤ length (run_pulls (card_of image) v path index n).seen.nodes
  root_listed n l =
      mem_some ((stood.listed_together (pull_run (card_of image) v path) (λ s. s.nodes) (λ s t. refl) refl ino_of_root n index).1
      (record {
        at = 0;
        made = record { wanted = omega arith; reached = omega arith };
        listed = run_root (card_of image) v path _;
      }))

  lists_fit : lists_in_shape (bounds_of v) (run_nodes_left (run_pulled image path index wanted lent))
      (run_blocks_left (run_pulled image path index wanted lent)) ≡ true
  unfolding runs
  lists_fit = rw (run_wrote came) (lists_in_shape_lem _ _ _ fit)
    where
      r : Ran Standing
      r = run_pulls (card_of image) v path index wanted

      rise : BothRise r.seen
      rise =
          subst (λ (q : Ran Standing). BothRise q.seen) (sym (run_is (card_of image) v path index wanted))
          (run_rising (view_of (card_of image) v) empty (many_walk (pull_walk (bounds_of v) path) wanted index) (tt, tt))

      inside : AllOf (λ b. in_main (bounds_of v) b ≡ true) r.seen.blocks
      inside =
          subst (λ (q : Ran Standing). AllOf (λ b. in_main (bounds_of v) b ≡ true) q.seen.blocks) (sym (run_is (card_of image) v path index wanted))
          (run_inside (view_of (card_of image) v) (bounds_of v) path index wanted)

      fit : ListsFit (bounds_of v) (run_nodes_left (run_written r lent)) (run_blocks_left (run_written r lent))
      fit = record {
        some = root_listed wanted (some_wanted (part_count path) wanted lent (run_lent_shape image path index wanted lent came.shape));
        nodes_held = over_inside r.seen.nodes lent.nodes;
        blocks_held = over_inside r.seen.blocks lent.blocks;
        nodes_rise = subst Rising (sym (numbers_over r.seen.nodes lent.nodes)) rise.0;
        blocks_rise = subst Rising (sym (numbers_over r.seen.blocks lent.blocks)) rise.1;
        inside = subst (AllOf (λ b. in_main (bounds_of v) b ≡ true)) (sym (numbers_over r.seen.blocks lent.blocks)) inside;
      }

  -- "It says "same" exactly if both images have the same main area bounds, each listed node number has the same table answer in both, and
  -- each listed block the same 4,096 bytes in both", of a run's lists; "Otherwise it says "changed"."
  module _ (fresh : List ℕ) (u : Volume) (fresh_opens : opened_image fresh ≡ Opened u) where
    abbrev nodes : List ℕ
    nodes = entries (run_nodes_left (run_pulled image path index wanted lent))

    abbrev blocks : List ℕ
    blocks = entries (run_blocks_left (run_pulled image path index wanted lent))

    pub run_same_exactly_if : ((said_of_run image fresh (run_pulled image path index wanted lent)).answer ≡ 15) ↔ SameOn image v fresh u nodes blocks
    run_same_exactly_if = exactly_same image v fresh u _ _ came.opens fresh_opens lists_fit

    pub run_otherwise_changed : (SameOn image v fresh u nodes blocks → ⊥) → (said_of_run image fresh (run_pulled image path index wanted lent)).answer ≡ 16
    run_otherwise_changed = else_changed image v fresh u _ _ came.opens fresh_opens lists_fit

  -- compared with itself, an image is "same"
  pub run_same_itself : (said_of_run image image (run_pulled image path index wanted lent)).answer ≡ 15
  run_same_itself =
      (run_same_exactly_if image v came.opens).1
      (record {
        bounds = refl;
        tables = all_same _ (table_answer (card_of image) v) (entries (run_nodes_left (run_pulled image path index wanted lent)));
        bytes = all_same _ (card_of image).block (entries (run_blocks_left (run_pulled image path index wanted lent)));
      })

-- ---- .. and so is each of its pulls by itself, the one that ended it too
module _ (kept fresh path : List ℕ) (index wanted : ℕ) (lent single : Lent) (takes : lent_in_shape (part_count path) single ≡ true)
    (e : (said_of_run kept fresh (run_pulled kept path index wanted lent)).answer ≡ 15) (i : ℕ) (wants : i < wanted)
    (reached : i ≤ (run_pulled kept path index wanted lent).numbers.count) where
  told : ToldSame kept fresh (run_nodes_left (run_pulled kept path index wanted lent)) (run_blocks_left (run_pulled kept path index wanted lent))
  told = told_same kept fresh _ _ e

  came : RunCame kept path index wanted lent told.v
  came = listed_came kept path index wanted lent told.v told.kept_opens told.some

  past : PastOpening (pulled kept path (index + i) single)
  past =
      some_past kept path (index + i) single
      (subst (λ (r : Result). 1 ≤ (nodes_left r).count) (sym (pull_wrote kept path index wanted lent told.v came.shape came.opens single takes i))
      (run_some (card_of kept) told.v path (index + i)))

  -- all that it lists, the run lists
  on : SameOn kept told.v fresh told.u (entries (nodes_left (pulled kept path (index + i) single)))
      (entries (blocks_left (pulled kept path (index + i) single)))
  on = record {
    bounds = told.on.bounds;
    tables = part _ _ _ told.on.tables (λ x m. (nodes_together kept path index wanted lent told.v came.shape came.opens single takes x).1
        (record { at = i; wants = wants; reached = reached; listed = m }));
    bytes = part _ _ _ told.on.bytes (λ x m. (blocks_together kept path index wanted lent told.v came.shape came.opens single takes x).1
        (record { at = i; wants = wants; reached = reached; listed = m }));
  }
    where
      part : (P : ℕ → Type 0) (l m : List ℕ) → AllOf P l → ((x : ℕ) → Memᴰ x m → Memᴰ x l) → AllOf P m
      part P l m all f = all_map (λ x h. all_mem P l all (f x h)) m (mem_all m)

  pub pull_said_same : (said kept fresh (pulled kept path (index + i) single)).answer ≡ 15
  pull_said_same =
      let same : told.v ≡ (past_came kept path (index + i) single past).v =
      opened_once (sym told.kept_opens ∙ (past_came kept path (index + i) single past).opens) in
      (same_exactly_if kept path (index + i) single past fresh told.u told.fresh_opens).1
      (subst (λ (w : Volume). SameOn kept w fresh told.u (entries (nodes_left (pulled kept path (index + i) single)))
      (entries (blocks_left (pulled kept path (index + i) single)))) same on)
    where
      opened_once : {v w : Volume} → Opened v ≡ Opened w → v ≡ w
      opened_once f = cc

  pub each_pull_same : (single' : Lent) → lent_in_shape (part_count path) single' ≡ true
      → SamePull (pulled kept path (index + i) single) (pulled fresh path (index + i) single')
  each_pull_same single' takes' = whenever_same kept fresh path (index + i) single single' takes' pull_said_same
