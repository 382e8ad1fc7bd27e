use mathlib.Core.Path.{sym, ◌∙◌}
use Rattle.keep_file.specs.Reading.{readable}
use Rattle.keep_file.proofs.keep_file.Goals as goal

pub returns-then-not-is_measured : goal.returns-then-not-is_measured
unfolding readable
returns-then-not-is_measured c = rw (sym c.is_measured.ensures ∙ c.if-not-is_measured.true)

pub invariant_of-result : goal.invariant_of-result
unfolding readable
invariant_of-result c =
    record { readable = rw (sym c.is_measured.ensures ∙ c.if-not-is_measured.false, sym c.lists_readable.ensures ∙ c.if-lists_readable.true) }

pub returns-else-lists_readable : goal.returns-else-lists_readable
unfolding readable
returns-else-lists_readable c =
    rw (sym c.is_measured.ensures ∙ c.if-not-is_measured.false, sym c.lists_readable.ensures ∙ c.if-lists_readable.false)
