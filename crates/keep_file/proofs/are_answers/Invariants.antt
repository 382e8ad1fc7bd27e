-- The invariant: what is left decides.
use mathlib.Core.Path.{◌≡◌}
use Rattle.keep_file.specs.Reading.{are_answers}
use Rattle.keep_file.proofs.TableAnswers.{Left}
use Rattle.keep_file.proofs.are_answers.Given as goal

abbrev pub invariant-loop-i : goal.invariant-loop-i
invariant-loop-i l = are_answers l.file l.start l.count ≡ Left l.file l.start l.i l.count
