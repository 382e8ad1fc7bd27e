-- `fill_of_file` meets its contract: the inode's node once, then the blocks from the inode.
use Prim.Native.Nat.{ℕ}
use mathlib.Core.Path.{refl}
use mathlib.Core.List.{List}
use Rattle.std.proofs.lemmas.Result.{err_from_is_err_and}
use Rattle.checkpoint.specs.declared.open_image.OpenImage.{OpenImage}
use Rattle.checkpoint.specs.OpenImage.{card_in}
use Rattle.walk.specs.Walk.{Walk, Fits}
use Rattle.walk.specs.Lent.{view_in, lent}
use Rattle.walk.proofs.Reached.{reached_start, reached_to, reached_done}
use Rattle.walk.proofs.Fits.{fits_part}
use Rattle.node.specs.Node.{bounds_of}
use Rattle.pull.proofs.Opened.{as_opened, of_opened}
use Rattle.file_run.specs.Standing.{Standing, ended, FilledAs}
use Rattle.file_run.specs.Walks.{blocks_walk, file_run_walk}
use Rattle.file_run.proofs.Unless.{none_stands, unless_stop, unless_fits, unless_filled, other_kind}
use Rattle.file_run.proofs.fill_of_file.Goals as goal
use Rattle.file_run.proofs.fill_of_file.Goals.{Start}

-- the blocks of the file, once its inode is read
blocks : Start → List ℕ → Walk Standing
blocks s inode = let a = s.args in blocks_walk (bounds_of a.card.volume) a.ino inode a.wanted a.index

-- ---- the needs
pub node_step-requires : goal.node_step-requires
unfolding file_run_walk
node_step-requires c =
    record { fits = fits_part _ _ c.requires.fits }

pub fill-requires-clause-fits : goal.fill-requires-clause-fits
unfolding file_run_walk blocks
fill-requires-clause-fits c =
    let a = c.args in
    let t = lent c.node_step.new.seen in
    of_opened (λ (o : OpenImage) (n b : ℕ). Fits (view_in o) (blocks_walk (bounds_of o.volume) n ((card_in o).block b) a.wanted a.index) t)
    c.in_ok-file.file c.in_ok-file.ensures
    (unless_fits (blocks (goal.at.fill-requires-clause-fits c).Start) c.in_ok-at.ensures.walked refl c.requires.fits)

-- ---- what it leaves
pub returns-in_err-at-clause-filled : goal.returns-in_err-at-clause-filled
unfolding file_run_walk blocks
returns-in_err-at-clause-filled c =
    let p = err_from_is_err_and c.from_residual.result c.from_residual.ensures.1 in
    rw (p.1, p.2) (unless_stop (blocks (goal.at.returns-in_err-at-clause-filled c).Start) c.in_err-at.ensures.walked refl refl refl)

pub returns-in_err-file-clause-filled : goal.returns-in_err-file-clause-filled
unfolding file_run_walk blocks
returns-in_err-file-clause-filled c =
    let p = err_from_is_err_and c.from_residual-in_err-file.result c.from_residual-in_err-file.ensures.1 in
    let room = c.requires.room_for in
    let other = c.in_err-file.ensures in
    rw (p.1, p.2, other.0) (unless_filled (blocks (goal.at.returns-in_err-file-clause-filled c).Start) c.in_ok-at.ensures.walked refl
    (none_stands refl refl (reached_done (reached_to (reached_start _ _ _) (other_kind _ _ _ refl other.1 _ _ room.some)))))

pub returns-clause-filled : goal.returns-clause-filled
unfolding file_run_walk blocks
returns-clause-filled c =
    let a = c.args in
    let r = c.fill.new in
    let t = lent c.node_step.new.seen in
    unless_filled (blocks (goal.at.returns-clause-filled c).Start) c.in_ok-at.ensures.walked refl
    (as_opened (λ (o : OpenImage) (n b : ℕ). FilledAs (view_in o) (blocks_walk (bounds_of o.volume) n ((card_in o).block b) a.wanted a.index) t
    (ended c.fill.result) r.buffer.count r.buffer.last (lent r.seen) a.buffer.now.bytes.now r.buffer.bytes.now)
    c.in_ok-file.file c.in_ok-file.ensures c.fill.ensures.filled)
