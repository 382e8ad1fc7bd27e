-- `keep` meets its contract: out of shape, refused by the opening, or written.
use mathlib.Core.Path.{◌≡◌, sym, ◌∙◌}
use mathlib.Core.Bool.{true, not, ◌&&◌}
use lib.Dec.{eqb}
use lib.ListN.{length}
use Rattle.superblock.specs.Shape.{in_shape}
use Rattle.path.specs.Path.{is_path}
use Rattle.keep.proofs.Calls.{call_refused, call_opens, path_in_shape, counted_shape}
use Rattle.keep.proofs.keep.Goals as goal
use Rattle.keep.proofs.keep.Goals.{After-in_shape, Else-not-in_shape-k}

-- ---- what is known there
tested : (k : After-in_shape) → let a = k.args in
    in_shape (length a.image.now) && is_path a.path.now ≡ (k.in_shape.result && not (eqb k.name_count-k.result 0))
tested k = counted_shape k.args.image.now k.args.path.now k.name_count-k.ensures k.in_shape.ensures

in_shape_lem : (k : Else-not-in_shape-k) → in_shape (length k.args.image.now) && is_path k.args.path.now ≡ true
in_shape_lem k = counted_shape k.args.image.now k.args.path.now k.name_count-k.ensures k.in_shape.ensures ∙ k.if-not-in_shape-k.false

pub returns-then-not-in_shape-k : goal.returns-then-not-in_shape-k
returns-then-not-in_shape-k c =
    let k = (goal.at.returns-then-not-in_shape-k c).After-in_shape in
    rw c.number.ensures (sym (call_refused c.args.image.now c.args.path.now c.args.index c.args.room.now (tested k ∙ c.if-not-in_shape-k.true)))

pub keep_opened-requires : goal.keep_opened-requires
keep_opened-requires c =
    path_in_shape c.args.image.now c.args.path.now (in_shape_lem (goal.at.keep_opened-requires c).Else-not-in_shape-k)

pub returns-in-Ok : goal.returns-in-Ok
returns-in-Ok c =
    let k = (goal.at.returns-in-Ok c).Else-not-in_shape-k in
    let told = rw c.in-Ok.ensures.same_image at c.keep_opened.ensures in
    told ∙ sym (call_opens c.args.image.now c.args.path.now c.args.index c.args.room.now _ (in_shape_lem k) (sym c.in-Ok.ensures.opening))

pub returns-in-Err : goal.returns-in-Err
returns-in-Err c =
    let k = (goal.at.returns-in-Err c).Else-not-in_shape-k in
    rw c.number-in-Err.ensures
    (sym (call_opens c.args.image.now c.args.path.now c.args.index c.args.room.now _ (in_shape_lem k) (sym c.in-Err.ensures.opening)))
