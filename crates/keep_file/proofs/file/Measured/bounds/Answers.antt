use Rattle.keep_file.proofs.ByNumbers.{bounds_placed}
use Rattle.keep_file.proofs.file.Measured.bounds.Goals as goal

pub returns : goal.returns
returns c = bounds_placed _ c.get32-path.ensures c.get32.ensures c.get32-2.ensures
