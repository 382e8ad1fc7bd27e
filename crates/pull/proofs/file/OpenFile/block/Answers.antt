-- `block` meets its contract: each return is a case of `at_file` of a regular file.
use native.Mathlib.Omega.{arith}
use mathlib.Core.Path.{◌≡◌, refl, sym, ◌∙◌}
use mathlib.Core.Bool.{false}
use Rattle.std.proofs.lemmas.Result.{err_from_is_err_and}
use Rattle.checkpoint.specs.OpenImage.{card_in}
use Rattle.inode.specs.Inode.{is_past}
use Rattle.inode.proofs.Inline.{inline_room}
use Rattle.walk.specs.Walk.{and_then}
use Rattle.walk.specs.Lent.{view_in, lent}
use Rattle.walk.proofs.Reached.{Reached, reached_start, reached_to, reached_all, reached_done}
use Rattle.walk.proofs.Fits.{fits_at, fits_first}
use Rattle.walk.proofs.Both.{both_stop}
use Rattle.node.specs.Found.{file_block_walk}
use Rattle.pull.specs.Walk.{counted, inode_file_walk}
use Rattle.pull.proofs.Cases.{file_past, file_inline, file_block, counted_walked, inside_near}
use Rattle.pull.proofs.file.OpenFile.block.Goals as goal
use Rattle.pull.proofs.file.OpenFile.block.Goals.{Else-has_inline_data, Else-is_past}

-- ---- what is known there
inside : (k : Else-is_past) → is_past k.args.self.inode k.args.index ≡ false
inside k = sym k.is_past.ensures ∙ k.if-is_past.false

to_block : (k : Else-has_inline_data) → let a = k.args in let f = a.self.file in
    Reached (view_in f.card) (inode_file_walk f a.index) (lent a.seen.now) (and_then (file_block_walk f a.index) (counted k.count_in-bytes.result))
    (lent a.seen.now)
to_block k =
    let f = k.args.self.regular_file in
    let apart = sym k.has_inline_data.ensures ∙ k.if-has_inline_data.false in
    let within = sym k.is_past.ensures ∙ k.if-is_past.false in
    reached_to (reached_start _ _ _) (file_block _ _ _ _ f.inode_is _ f.regular within k.count_in-bytes.ensures.0 _ apart f.addresses_are)

-- ---- past the end
pub returns-then-is_past-clause-walked : goal.returns-then-is_past-clause-walked
returns-then-is_past-clause-walked c =
    let f = c.args.self.regular_file in
    let past = sym c.is_past.ensures ∙ c.if-is_past.true in
    reached_done (reached_to (reached_start _ _ _) (file_past _ _ _ _ f.inode_is f.regular past))

-- ---- in the inode itself
pub returns-then-has_inline_data-clause-walked : goal.returns-then-has_inline_data-clause-walked
returns-then-has_inline_data-clause-walked c =
    let f = c.args.self.regular_file in
    let own = sym c.has_inline_data.ensures ∙ c.if-has_inline_data.true in
    let within = inside (goal.at.returns-then-has_inline_data-clause-walked c).Else-is_past in
    reached_done (reached_to (reached_start _ _ _) (file_inline _ _ _ _ f.inode_is _ f.regular within c.count_in-bytes.ensures.0 own))

pub returns-then-has_inline_data-clause-block_in : goal.returns-then-has_inline_data-clause-block_in
returns-then-has_inline_data-clause-block_in c =
    let own = sym c.has_inline_data.ensures ∙ c.if-has_inline_data.true in
    let within = inside (goal.at.returns-then-has_inline_data-clause-block_in c).Else-is_past in
    let count = c.count_in-bytes.ensures.0 in
    let few = inline_room _ c.args.self.regular_file.regular own _ within in
    (c.args.self.file.file_in.0, omega arith)

pub returns-then-has_inline_data-clause-near : goal.returns-then-has_inline_data-clause-near
returns-then-has_inline_data-clause-near c =
    λ _. inside_near _ _ (inside (goal.at.returns-then-has_inline_data-clause-near c).Else-is_past)

-- ---- in a block of its own
pub next_block-requires-clause-fits : goal.next_block-requires-clause-fits
next_block-requires-clause-fits c =
    fits_first _ (fits_at c.requires.fits (to_block (goal.at.next_block-requires-clause-fits c).Else-has_inline_data))

pub returns-in_err-data-clause-walked : goal.returns-in_err-data-clause-walked
returns-in_err-data-clause-walked c =
    let p = err_from_is_err_and c.from_residual.result c.from_residual.ensures.1 in
    rw (p.1, p.2) (reached_all (to_block (goal.at.returns-in_err-data-clause-walked c).Else-has_inline_data)
    (both_stop (counted _) c.in_err-data.ensures.walked refl))

pub returns-clause-walked : goal.returns-clause-walked
returns-clause-walked c =
    reached_all (to_block (goal.at.returns-clause-walked c).Else-has_inline_data)
    (counted_walked (card_in c.args.self.file.card) c.in_ok-data.data _ c.in_ok-data.ensures.walked)

pub returns-clause-near : goal.returns-clause-near
returns-clause-near c =
    λ _. inside_near _ _ (inside (goal.at.returns-clause-near c).Else-is_past)
