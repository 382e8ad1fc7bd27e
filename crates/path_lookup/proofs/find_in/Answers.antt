-- `find_in` meets its contract: the directory's inode, then the name from its inode.
use mathlib.Core.Path.{refl}
use Rattle.std.proofs.lemmas.Result.{err_from_is_err_and}
use Rattle.walk.proofs.Fits.{fits_first}
use Rattle.walk.proofs.Both.{both_stop, second_fits, both_walked}
use Rattle.path_lookup.specs.Lookup.{at_directory, directory_walk}
use Rattle.path_lookup.proofs.find_in.Goals as goal

pub node_step-requires : goal.node_step-requires
unfolding directory_walk
node_step-requires c = record { fits = fits_first _ c.requires }

pub returns-in_err-at-clause-walked : goal.returns-in_err-at-clause-walked
unfolding directory_walk
returns-in_err-at-clause-walked c =
    let p = err_from_is_err_and c.from_residual.result c.from_residual.ensures.1 in
    rw (p.1, p.2) (both_stop (at_directory _ _ _) c.in_err-at.ensures.walked refl)

pub find_from_inode-requires-clause-fits : goal.find_from_inode-requires-clause-fits
unfolding directory_walk
find_from_inode-requires-clause-fits c = second_fits (at_directory _ _ _) c.in_ok-at.ensures.walked refl c.requires

pub returns-clause-walked : goal.returns-clause-walked
unfolding directory_walk
returns-clause-walked c = both_walked (at_directory _ _ _) c.in_ok-at.ensures.walked refl c.find_from_inode.ensures.walked
