-- `put_answer` meets its contract: for a hole the buffer is cleared.
use mathlib.Core.Path.{◌∙◌}
use Rattle.reader_result.proofs.put_answer.Goals as goal

pub returns-in-2 : goal.returns-in-2
returns-in-2 c = rw c.in-2.is (c.clear.ensures ∙ rw c.requires.0)
