-- `fill_from_path` meets its contract: the path looked up once, then the blocks of the file.
use mathlib.Core.Path.{refl}
use Rattle.std.proofs.lemmas.Result.{err_from_is_err_and}
use Rattle.walk.proofs.Fits.{fits_part}
use Rattle.node.specs.Node.{bounds_of}
use Rattle.file_run.specs.Walks.{file_run_walk}
use Rattle.file_run.proofs.Unless.{unless_stop, unless_fits, unless_filled}
use Rattle.pull_run.specs.Walk.{run_walk}
use Rattle.pull_run.proofs.fill_from_path.Goals as goal

-- ---- the needs
pub find_path-requires : goal.find_path-requires
unfolding run_walk
find_path-requires c =
    record { fits = fits_part _ _ c.requires.fits }

pub fill_of_file-requires-clause-fits : goal.fill_of_file-requires-clause-fits
unfolding run_walk
fill_of_file-requires-clause-fits c =
    let a = c.args in
    unless_fits (file_run_walk (bounds_of a.card.volume) a.wanted a.index) c.in_ok-ino.ensures.walked refl c.requires.fits

-- ---- what it leaves
pub returns-in_err-ino-clause-filled : goal.returns-in_err-ino-clause-filled
unfolding run_walk
returns-in_err-ino-clause-filled c =
    let a = c.args in
    let p = err_from_is_err_and c.from_residual.result c.from_residual.ensures.1 in
    let empty = c.requires.none_stand in
    rw (p.1, p.2) (unless_stop (file_run_walk (bounds_of a.card.volume) a.wanted a.index) c.in_err-ino.ensures.walked empty.none empty.no_last refl)

pub returns-clause-filled : goal.returns-clause-filled
unfolding run_walk
returns-clause-filled c =
    let a = c.args in
    unless_filled (file_run_walk (bounds_of a.card.volume) a.wanted a.index) c.in_ok-ino.ensures.walked refl c.fill_of_file.ensures.filled
