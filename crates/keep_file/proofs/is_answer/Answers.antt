use Rattle.keep_file.specs.Reading.{is_answer}
use Rattle.keep_file.proofs.is_answer.Goals as goal

-- src/lib.rt:53:1
pub returns : goal.returns
unfolding is_answer
returns c = cc
