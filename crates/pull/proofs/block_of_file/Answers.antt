-- `block_of_file` meets its contract: the inode's node, then the block from the inode.
use Prim.Native.Nat.{ℕ}
use mathlib.Core.Path.{refl}
use Rattle.std.proofs.lemmas.Result.{err_from_is_err_and}
use Rattle.checkpoint.specs.declared.open_image.OpenImage.{OpenImage}
use Rattle.checkpoint.specs.OpenImage.{card_in}
use Rattle.walk.specs.Walk.{Walked, Fits}
use Rattle.walk.specs.Lent.{view_in, lent}
use Rattle.walk.proofs.Reached.{reached_start, reached_to, reached_done}
use Rattle.walk.proofs.Fits.{fits_first}
use Rattle.walk.proofs.Both.{both_stop, second_fits, both_walked}
use Rattle.node.specs.Node.{bounds_of}
use Rattle.pull.specs.Walk.{at_file, file_walk, block_found}
use Rattle.pull.proofs.Cases.{file_other}
use Rattle.pull.proofs.Opened.{as_opened, of_opened}
use Rattle.pull.proofs.block_of_file.Goals as goal

-- ---- the needs
pub node_step-requires : goal.node_step-requires
unfolding file_walk
node_step-requires c =
    record { fits = fits_first _ c.requires.fits }

pub block-requires-clause-fits : goal.block-requires-clause-fits
unfolding file_walk
block-requires-clause-fits c =
    let t = lent c.node_step.new.seen in
    of_opened (λ (o : OpenImage) (n a : ℕ). Fits (view_in o) (at_file (bounds_of o.volume) c.args.index n ((card_in o).block a)) t)
    c.in_ok-file.file c.in_ok-file.ensures
    (second_fits (at_file _ _ _) c.in_ok-at.ensures.walked refl c.requires.fits)

-- ---- what it leaves
pub returns-in_err-at-clause-walked : goal.returns-in_err-at-clause-walked
unfolding file_walk
returns-in_err-at-clause-walked c =
    let p = err_from_is_err_and c.from_residual.result c.from_residual.ensures.1 in
    rw (p.1, p.2) (both_stop (at_file _ _ _) c.in_err-at.ensures.walked refl)

pub returns-in_err-file-clause-walked : goal.returns-in_err-file-clause-walked
unfolding file_walk
returns-in_err-file-clause-walked c =
    let p = err_from_is_err_and c.from_residual-in_err-file.result c.from_residual-in_err-file.ensures.1 in
    let other = c.in_err-file.ensures in
    rw (p.1, p.2, other.0) (both_walked (at_file _ _ _) c.in_ok-at.ensures.walked refl
    (reached_done (reached_to (reached_start _ _ _) (file_other _ _ _ _ refl other.1))))

pub returns-clause-walked : goal.returns-clause-walked
unfolding file_walk
returns-clause-walked c =
    let t = lent c.node_step.new.seen in
    let u = lent c.block.new.seen in
    both_walked (at_file _ _ _) c.in_ok-at.ensures.walked refl
    (as_opened (λ (o : OpenImage) (n a : ℕ). Walked (view_in o) (at_file (bounds_of o.volume) c.args.index n ((card_in o).block a)) t
    (block_found (card_in o) c.block.result) u)
    c.in_ok-file.file c.in_ok-file.ensures c.block.ensures.walked)
