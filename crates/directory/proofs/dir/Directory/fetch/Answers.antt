-- `fetch` meets its contract: an inline directory, and an index past the last, ask nothing.
use Rattle.walk.proofs.Reached.{reached_start, reached_to, reached_all, reached_done}
use Rattle.walk.proofs.Fits.{fits_at}
use Rattle.node.proofs.Sizes.{block_past}
use Rattle.directory.proofs.Inline.{first_inline, later_inline, not_inline}
use Rattle.directory.proofs.dir.Directory.fetch.Goals as goal

pub returns-then-index-eq0-clause-walked : goal.returns-then-index-eq0-clause-walked
returns-then-index-eq0-clause-walked c =
    reached_done (reached_to (reached_start _ _ _) (first_inline _ _ _ _ _ c.if-self.true c.if-index-eq0.true))

pub returns-else-index-eq0-clause-walked : goal.returns-else-index-eq0-clause-walked
returns-else-index-eq0-clause-walked c =
    reached_done (reached_to (reached_start _ _ _) (later_inline _ _ _ _ _ c.if-self.true c.if-index-eq0.false))

pub returns-then-last-index-clause-walked : goal.returns-then-last-index-clause-walked
returns-then-last-index-clause-walked c =
    let blocks = not_inline _ _ _ _ _ c.if-self.false in
    reached_done (reached_to (reached_to (reached_start _ _ _) blocks) (block_past _ _ _ _ _ c.if-last-index.true))

pub data_block-requires : goal.data_block-requires
data_block-requires c = record { fits = fits_at c.requires (reached_to (reached_start _ _ _) (not_inline _ _ _ _ _ c.if-self.false)) }

pub returns-clause-walked : goal.returns-clause-walked
returns-clause-walked c = reached_all (reached_to (reached_start _ _ _) (not_inline _ _ _ _ _ c.if-self.false)) c.data_block.ensures.walked
