use mathlib.Core.Path.{sym, ap, ◌∙◌}
use Rattle.keep_file.specs.Reading.{fields_read}
use Rattle.keep_file.proofs.Refusing.{read_readable, read_refused}
use Rattle.keep_file.proofs.read.Goals as goal

pub returns-in-Some : goal.returns-in-Some
returns-in-Some c =
    let told = c.fields.ensures ∙ ap fields_read (sym (read_readable _ c.in-Some.kept.readable)) in
    rw c.in-Some.ensures at told

pub returns-in-None : goal.returns-in-None
returns-in-None c = let d = c.default.ensures in rw (read_refused _ c.in-None.ensures) cc
