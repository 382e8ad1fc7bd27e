-- `walk_to` meets its contract: the path looked up, then the block of the file.
use mathlib.Core.Path.{refl}
use Rattle.std.proofs.lemmas.Result.{err_from_is_err_and}
use Rattle.walk.proofs.Fits.{fits_first}
use Rattle.walk.proofs.Both.{both_stop, second_fits, both_walked}
use Rattle.path_lookup.specs.Lookup.{path_walk}
use Rattle.pull.specs.Walk.{file_walk, named_file_walk, pull_walk}
use Rattle.pull.proofs.walk_to.Goals as goal

pub find_path-requires : goal.find_path-requires
unfolding pull_walk named_file_walk path_walk
find_path-requires c =
    record { fits = fits_first _ c.requires.fits }

pub block_of_file-requires : goal.block_of_file-requires
unfolding pull_walk named_file_walk path_walk
block_of_file-requires c =
    record { fits = second_fits (file_walk _ _) c.in_ok-ino.ensures.walked refl c.requires.fits }

pub returns-in_err-ino-clause-walked : goal.returns-in_err-ino-clause-walked
unfolding pull_walk named_file_walk path_walk
returns-in_err-ino-clause-walked c =
    let p = err_from_is_err_and c.from_residual.result c.from_residual.ensures.1 in
    rw (p.1, p.2) (both_stop (file_walk _ _) c.in_err-ino.ensures.walked refl)

pub returns-clause-walked : goal.returns-clause-walked
unfolding pull_walk named_file_walk path_walk
returns-clause-walked c =
    both_walked (file_walk _ _) c.in_ok-ino.ensures.walked refl c.block_of_file.ensures.walked
