-- `data_at` meets its contract: each return is a place on the way of `data_walk`.
use Rattle.std.proofs.Common.{◌≡◌, true, sym, ◌∙◌}
use Rattle.walk.specs.Walk.{read}
use Rattle.walk.specs.Lent.{view_in, lent}
use Rattle.walk.proofs.Reached.{Reached, reached_start, reached_to, reached_read, reached_done}
use Rattle.walk.proofs.Fits.{fits_read, fits_at}
use Rattle.node.specs.Node.{bounds_of, in_main}
use Rattle.node.specs.Block.{holding, data_walk}
use Rattle.node.proofs.Cases.{data_hole, data_outside, data_inside}
use Rattle.node.proofs.Sizes.{in_card_lem}
use Rattle.node.proofs.data_at.Goals as goal
use Rattle.node.proofs.data_at.Goals.{Else-not-in_main}

inside : (k : Else-not-in_main) → in_main (bounds_of k.args.card.volume) k.args.address ≡ true
inside k = sym k.in_main.ensures ∙ k.if-not-in_main.false

to_read : (k : Else-not-in_main) → let a = k.args in
    Reached (view_in a.card) (data_walk (bounds_of a.card.volume) a.address) (lent a.seen.now) (read a.address holding) (lent a.seen.now)
to_read k =
    let held = sym k.is_hole.ensures ∙ k.if-is_hole.false in
    reached_to (reached_start _ _ _) (data_inside _ _ held (inside k))

pub returns-then-is_hole-clause-walked : goal.returns-then-is_hole-clause-walked
returns-then-is_hole-clause-walked c =
    let hole = sym c.is_hole.ensures ∙ c.if-is_hole.true in
    reached_done (reached_to (reached_start _ _ _) (data_hole _ _ hole))

pub returns-then-not-in_main-clause-walked : goal.returns-then-not-in_main-clause-walked
returns-then-not-in_main-clause-walked c =
    let held = sym c.is_hole.ensures ∙ c.if-is_hole.false in
    let out = sym c.in_main.ensures ∙ c.if-not-in_main.true in
    reached_done (reached_to (reached_start _ _ _) (data_outside _ _ held out))

pub insert-requires : goal.insert-requires
insert-requires c = fits_read (fits_at c.requires.fits (to_read (goal.at.insert-requires c).Else-not-in_main))

pub returns-clause-walked : goal.returns-clause-walked
returns-clause-walked c = reached_done (reached_read (to_read (goal.at.returns-clause-walked c).Else-not-in_main) c.insert.ensures.inserted)

pub returns-clause-data_in : goal.returns-clause-data_in
returns-clause-data_in c = in_card_lem _ (inside (goal.at.returns-clause-data_in c).Else-not-in_main) c.args.card.volume_in
