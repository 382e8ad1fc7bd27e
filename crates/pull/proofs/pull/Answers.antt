-- `pull` meets its contract: out of shape, refused by the opening, or walked.
use Prim.Native.Nat.{ℕ, ◌≤◌}
use mathlib.Core.Path.{◌≡◌, sym, ap, subst, ◌∙◌}
use mathlib.Core.Bool.{true, not, ◌&&◌}
use lib.Dec.{eqb}
use mathlib.Core.List.{List}
use Rattle.field.specs.Card.{card_of}
use Rattle.checkpoint.specs.Volume.{Opened}
use Rattle.path.specs.Path.{names_most}
use Rattle.path.proofs.Counting.{count_few}
use Rattle.pull.specs.declared.Pulled.{Pulled}
use Rattle.pull.specs.Pull.{lending, result_in, lent_in_shape, call_in_shape, written, pull_run}
use Rattle.pull.proofs.Results.{call_refused, call_opens, path_in_shape, lent_shape, counted_shape}
use Rattle.pull.proofs.pull.Goals as goal
use Rattle.pull.proofs.pull.Goals.{After-lent_in_shape, After-open}

-- ---- what is known there
tested : (k : After-lent_in_shape) → let a = k.args in call_in_shape a.image.now a.path.now (lending a.block.now a.nodes.now a.blocks.now)
    ≡ (k.in_shape.result && not (eqb k.name_count-k.result 0) && k.lent_in_shape.result)
unfolding lent_in_shape
tested k =
    let a = k.args in
    counted_shape a.image.now a.path.now a.index (lending a.block.now a.nodes.now a.blocks.now) k.name_count-k.ensures k.in_shape.ensures
    k.lent_in_shape.ensures

in_shape_lem : (k : After-open) → let a = k.args in call_in_shape a.image.now a.path.now (lending a.block.now a.nodes.now a.blocks.now) ≡ true
unfolding lent_in_shape
in_shape_lem k =
    let a = k.args in
    counted_shape a.image.now a.path.now a.index (lending a.block.now a.nodes.now a.blocks.now) k.name_count-k.ensures k.in_shape.ensures
    k.lent_in_shape.ensures
    ∙ k.if-not-in_shape-k.false

pub lent_in_shape-requires : goal.lent_in_shape-requires
lent_in_shape-requires c =
    subst (λ (k : ℕ). k ≤ names_most) (sym c.name_count-k.ensures) (count_few _)

pub returns-then-not-in_shape-k : goal.returns-then-not-in_shape-k
returns-then-not-in_shape-k c =
    let a = c.args in
    let lent = lending a.block.now a.nodes.now a.blocks.now in
    let out = tested (goal.at.returns-then-not-in_shape-k c).After-lent_in_shape ∙ c.if-not-in_shape-k.true in
    ap (λ (p : Pulled). result_in p lent) (c.refused_pull.ensures ∙ rw c.number.ensures)
    ∙ sym (call_refused a.image.now a.path.now a.index lent out)

pub pull_opened-requires-clause-path_value : goal.pull_opened-requires-clause-path_value
pull_opened-requires-clause-path_value c =
    let a = c.args in
    path_in_shape a.image.now a.path.now a.index (lending a.block.now a.nodes.now a.blocks.now)
    (in_shape_lem (goal.at.pull_opened-requires-clause-path_value c).After-open)

pub pull_opened-requires-clause-blocks_value : goal.pull_opened-requires-clause-blocks_value
pull_opened-requires-clause-blocks_value c =
    let a = c.args in
    lent_shape a.image.now a.path.now a.index (lending a.block.now a.nodes.now a.blocks.now)
    (in_shape_lem (goal.at.pull_opened-requires-clause-blocks_value c).After-open)

pub returns-in-Ok : goal.returns-in-Ok
returns-in-Ok c =
    let a = c.args in
    let lent = lending a.block.now a.nodes.now a.blocks.now in
    let v = c.in-Ok.card.volume in
    c.pull_opened.ensures
    ∙ ap (λ (image : List ℕ). written (pull_run (card_of image) v a.path.now a.index) lent) c.in-Ok.ensures.same_image
    ∙ sym (call_opens a.image.now a.path.now a.index lent (Opened v) (in_shape_lem (goal.at.returns-in-Ok c).After-open) (sym c.in-Ok.ensures.opening))

pub returns-in-Err : goal.returns-in-Err
returns-in-Err c =
    let a = c.args in
    let lent = lending a.block.now a.nodes.now a.blocks.now in
    let opens = sym c.in-Err.ensures.opening in
    ap (λ (p : Pulled). result_in p lent) (c.refused_pull-in-Err.ensures ∙ rw c.number-in-Err.ensures)
    ∙ sym (call_opens a.image.now a.path.now a.index lent _ (in_shape_lem (goal.at.returns-in-Err c).After-open) opens)
