-- `is_measured` meets its contract: a file that is shorter than its header is none, and else its numbers decide.
use Rattle.keep_file.specs.Reading.{measured}
use Rattle.keep_file.proofs.Lengths.{short}
use Rattle.keep_file.proofs.is_measured.Goals as goal

pub returns-then-file-lt24 : goal.returns-then-file-lt24
returns-then-file-lt24 c = short _ c.if-file-lt24.true

pub returns : goal.returns
unfolding measured
returns c = cc
