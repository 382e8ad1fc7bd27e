use mathlib.Core.Bool.{Bool, true, ◌&&◌}
use mathlib.Core.Path.{◌≡◌, sym, ◌∙◌}
use lib.ListN.{length}
use Rattle.superblock.specs.Shape.{in_shape}
use Rattle.compare.proofs.Openings.{shape_refused, kept_refused_lem, fresh_refused_lem, compared_opened}
use Rattle.compare.proofs.compare.Goals as goal
use Rattle.compare.proofs.compare.Goals.{Else-not-in_shape}

-- the two tests of the shape as one
shaped : {r s p q t : Bool} → r ≡ p → s ≡ q → (r && s) ≡ t → (p && q) ≡ t
shaped e f h = rw (← e, ← f) h

in_shape_lem : (k : Else-not-in_shape) → let a = k.args in (in_shape (length a.kept.now) && in_shape (length a.fresh.now)) ≡ true
in_shape_lem k = shaped k.in_shape.ensures k.in_shape-2.ensures k.if-not-in_shape.false

pub returns-then-not-in_shape : goal.returns-then-not-in_shape
returns-then-not-in_shape c =
    let told = shaped c.in_shape.ensures c.in_shape-2.ensures c.if-not-in_shape.true in
    c.numbers_of.ensures ∙ rw c.number.ensures (sym (shape_refused _ _ _ _ told))

pub returns-in-Err : goal.returns-in-Err
returns-in-Err c =
    let shape = in_shape_lem (goal.at.returns-in-Err c).Else-not-in_shape in
    c.numbers_of-in-Err.ensures ∙ rw c.number-in-Err.ensures (sym (kept_refused_lem _ _ _ _ shape _ (sym c.in-Err.ensures.opening)))

pub returns-in-Err-open : goal.returns-in-Err-open
returns-in-Err-open c =
    let shape = in_shape_lem (goal.at.returns-in-Err-open c).Else-not-in_shape in
    c.numbers_of-in-Err-open.ensures
    ∙ rw c.number-in-Err-open.ensures
    (sym (fresh_refused_lem _ _ _ _ shape _ (sym c.in-Ok.ensures.opening) _ (sym c.in-Err-open.ensures.opening)))

pub returns : goal.returns
returns c =
    let told = rw (c.in-Ok.ensures.same_image, c.in-Ok-open.ensures.same_image) at c.compare_opened.ensures in
    told ∙ sym (compared_opened _ _ _ _ _ _ (sym c.in-Ok.ensures.opening) (sym c.in-Ok-open.ensures.opening))
