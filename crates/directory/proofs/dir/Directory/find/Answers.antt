-- `find` meets its contract: an inline directory is one level.
use Rattle.walk.proofs.Reached.{reached_start, reached_to, reached_all}
use Rattle.walk.proofs.Fits.{fits_at}
use Rattle.directory.proofs.Inline.{by_levels}
use Rattle.directory.proofs.dir.Directory.find.Goals as goal

pub find_by-requires : goal.find_by-requires
find_by-requires c = fits_at c.requires (reached_to (reached_start _ _ _) (by_levels _ _ _ c.args.self.inline_in))

pub returns-clause-walked : goal.returns-clause-walked
returns-clause-walked c = reached_all (reached_to (reached_start _ _ _) (by_levels _ _ _ c.args.self.inline_in)) c.find_by.ensures.walked
