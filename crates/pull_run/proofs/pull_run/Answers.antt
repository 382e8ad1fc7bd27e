-- `pull_run` meets its contract: out of shape, refused by the opening, or walked.
use Prim.Native.Nat.{ℕ, ◌≤◌}
use mathlib.Core.Path.{◌≡◌, sym, ap, subst, ◌∙◌}
use mathlib.Core.Bool.{true, not, ◌&&◌}
use mathlib.Core.List.{List}
use lib.Dec.{eqb}
use Rattle.field.specs.Card.{card_of}
use Rattle.checkpoint.specs.Volume.{Opened}
use Rattle.path.specs.Path.{names_most}
use Rattle.path.proofs.Counting.{count_few}
use Rattle.pull.specs.Pull.{lending}
use Rattle.pull_run.specs.declared.Run.{Run}
use Rattle.pull_run.specs.Run.{run_in_shape, run_call_in_shape, run_result, run_written, run_pulls}
use Rattle.pull_run.proofs.Results.{run_refused, run_opens, run_path_shape, run_lent_shape, counted_run_shape}
use Rattle.pull_run.proofs.pull_run.Goals as goal
use Rattle.pull_run.proofs.pull_run.Goals.{After-open, After-run_in_shape}

-- ---- what is known there
tested : (k : After-run_in_shape) → let a = k.args in
    run_call_in_shape a.image.now a.path.now a.wanted (lending a.buffer.now a.nodes.now a.blocks.now)
    ≡ (k.in_shape.result && not (eqb k.name_count-k.result 0) && k.run_in_shape.result)
unfolding run_in_shape
tested k =
    let a = k.args in
    counted_run_shape a.image.now a.path.now a.index a.wanted (lending a.buffer.now a.nodes.now a.blocks.now) k.name_count-k.ensures
    k.in_shape.ensures k.run_in_shape.ensures

in_shape_lem : (k : After-open) → let a = k.args in
    run_call_in_shape a.image.now a.path.now a.wanted (lending a.buffer.now a.nodes.now a.blocks.now) ≡ true
unfolding run_in_shape
in_shape_lem k =
    let a = k.args in
    counted_run_shape a.image.now a.path.now a.index a.wanted (lending a.buffer.now a.nodes.now a.blocks.now) k.name_count-k.ensures
    k.in_shape.ensures k.run_in_shape.ensures
    ∙ k.if-not-in_shape-k.false

pub run_in_shape-requires : goal.run_in_shape-requires
run_in_shape-requires c =
    subst (λ (k : ℕ). k ≤ names_most) (sym c.name_count-k.ensures) (count_few _)

pub returns-then-not-in_shape-k : goal.returns-then-not-in_shape-k
returns-then-not-in_shape-k c =
    let a = c.args in
    let lent = lending a.buffer.now a.nodes.now a.blocks.now in
    let out = tested (goal.at.returns-then-not-in_shape-k c).After-run_in_shape ∙ c.if-not-in_shape-k.true in
    ap (λ (r : Run). run_result r lent) (c.refused_run.ensures ∙ rw c.number.ensures)
    ∙ sym (run_refused a.image.now a.path.now a.index a.wanted lent out)

pub run_opened-requires-clause-path_value : goal.run_opened-requires-clause-path_value
run_opened-requires-clause-path_value c =
    let a = c.args in
    run_path_shape a.image.now a.path.now a.index a.wanted (lending a.buffer.now a.nodes.now a.blocks.now)
    (in_shape_lem (goal.at.run_opened-requires-clause-path_value c).After-open)

pub run_opened-requires-clause-blocks_value : goal.run_opened-requires-clause-blocks_value
run_opened-requires-clause-blocks_value c =
    let a = c.args in
    run_lent_shape a.image.now a.path.now a.index a.wanted (lending a.buffer.now a.nodes.now a.blocks.now)
    (in_shape_lem (goal.at.run_opened-requires-clause-blocks_value c).After-open)

pub returns-in-Ok : goal.returns-in-Ok
returns-in-Ok c =
    let a = c.args in
    let lent = lending a.buffer.now a.nodes.now a.blocks.now in
    let v = c.in-Ok.card.volume in
    c.run_opened.ensures
    ∙ ap (λ (image : List ℕ). run_written (run_pulls (card_of image) v a.path.now a.index a.wanted) lent) c.in-Ok.ensures.same_image
    ∙ sym (run_opens a.image.now a.path.now a.index a.wanted lent (Opened v) (in_shape_lem (goal.at.returns-in-Ok c).After-open)
    (sym c.in-Ok.ensures.opening))

pub returns-in-Err : goal.returns-in-Err
returns-in-Err c =
    let a = c.args in
    let lent = lending a.buffer.now a.nodes.now a.blocks.now in
    ap (λ (r : Run). run_result r lent) (c.refused_run-in-Err.ensures ∙ rw c.number-in-Err.ensures)
    ∙ sym (run_opens a.image.now a.path.now a.index a.wanted lent _ (in_shape_lem (goal.at.returns-in-Err c).After-open) (sym c.in-Err.ensures.opening))
