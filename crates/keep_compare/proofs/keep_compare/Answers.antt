-- `keep_compare` meets its contract: no keep file, out of shape, refused by the opening, or compared.
use mathlib.Core.Path.{◌≡◌, sym, ap, ◌∙◌}
use Rattle.compare.specs.Compare.{verdict}
use Rattle.keep_file.specs.Reading.{kept, keep_in, read_keep}
use Rattle.keep_file.proofs.Refusing.{read_readable, read_refused}
use Rattle.keep_compare.proofs.Openings.{file_refused, shape_refused, fresh_refused_lem, fresh_opened}
use Rattle.keep_compare.proofs.keep_compare.Goals as goal
use Rattle.keep_compare.proofs.keep_compare.Goals.{In-Some}

reads : (k : In-Some) → read_keep k.args.file.now ≡ kept (keep_in k.args.file.now)
reads k = rw k.in-Some.ensures at (read_readable _ k.in-Some.kept.readable)

pub returns-in-None : goal.returns-in-None
returns-in-None c = c.numbers_of.ensures ∙ sym (file_refused _ _ (read_refused _ c.in-None.ensures))

pub returns-then-not-in_shape : goal.returns-then-not-in_shape
returns-then-not-in_shape c =
    let fails = sym c.in_shape.ensures ∙ c.if-not-in_shape.true in
    let p = goal.at.returns-then-not-in_shape c in
    c.numbers_of-then-not-in_shape.ensures ∙ rw c.number.ensures (sym (shape_refused _ _ (reads p.In-Some) fails))

pub returns-in-Ok : goal.returns-in-Ok
returns-in-Ok c =
    let p = goal.at.returns-in-Ok c in
    let told = rw (c.in-Some.ensures, c.in-Ok.ensures.same_image) at c.first_difference.ensures in
    c.verdict_of.ensures ∙ ap verdict told ∙ sym (fresh_opened _ _ (reads p.In-Some) _ (sym c.in-Ok.ensures.opening))

pub returns-in-Err : goal.returns-in-Err
returns-in-Err c =
    let p = goal.at.returns-in-Err c in
    let shape = sym c.in_shape.ensures ∙ c.if-not-in_shape.false in
    c.numbers_of-in-Err.ensures
    ∙ rw c.number-in-Err.ensures (sym (fresh_refused_lem _ _ (reads p.In-Some) shape _ (sym c.in-Err.ensures.opening)))
