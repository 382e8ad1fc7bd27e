-- `data` of a leaf meets its contract: the walk to it stopped, there is none, or its block holds the address.
use Rattle.std.proofs.Common.{◌<◌, arith, subst, ◌∙◌}
use Rattle.field.proofs.Blocks.{length_of_block}
use Rattle.checkpoint.specs.OpenImage.{card_in}
use Rattle.walk.specs.Walk.{onward}
use Rattle.walk.specs.Lent.{view_in, lent}
use Rattle.walk.proofs.Reached.{Reached, reached_start, reached_to, reached_done, reached_all}
use Rattle.walk.proofs.Fits.{fits_at}
use Rattle.node.specs.Node.{bounds_of}
use Rattle.node.specs.Block.{data_walk}
use Rattle.node.specs.Leaf.{at_leaf}
use Rattle.node.specs.Found.{data_of, BlockIn, DataIn}
use Rattle.node.proofs.Cases.{from_none, from_some, from_came, from_stop}
use Rattle.node.proofs.Leaf.data.Goals as goal
use Rattle.node.proofs.Leaf.data.Goals.{After-get32-address, In-Some}

in_card : (k : In-Some) → k.in-Some.block < (card_in k.args.card).blocks
in_card k =
    let card = card_in k.args.card in
    subst (BlockIn card) k.in-Some.is (subst (DataIn card) k.in-Ok.is k.requires.node_in.0)

to_data : (k : After-get32-address) → let a = k.args in
    Reached (view_in a.card) (onward (at_leaf (bounds_of a.card.volume) a.self.at) (data_of (card_in a.card) a.self.node)) (lent a.seen.now)
    (data_walk (bounds_of a.card.volume) k.get32-address.result) (lent a.seen.now)
to_data k =
    let card = card_in k.args.card in
    reached_to (reached_start _ _ _)
    (from_came card _ _ k.in-Ok.is ∙ from_some card _ _ k.in-Some.is (rw (← k.block_at.ensures) k.get32-address.ensures))

pub returns-in_default-clause-walked : goal.returns-in_default-clause-walked
returns-in_default-clause-walked c =
    let card = card_in c.args.card in
    reached_done (reached_to (reached_start _ _ _) (from_came card _ _ c.in-Ok.is ∙ from_none card _ _ c.in_default.is))

pub returns-in-Err-clause-walked : goal.returns-in-Err-clause-walked
returns-in-Err-clause-walked c =
    reached_done (reached_to (reached_start _ _ _) (from_stop (card_in c.args.card) _ _ c.in-Err.is))

pub get32-address-requires : goal.get32-address-requires
get32-address-requires c =
    let size = length_of_block _ _ (in_card (goal.at.get32-address-requires c).In-Some) c.block_at.ensures in
    let within = c.requires.node_in.1 in
    omega arith

pub data_at-requires : goal.data_at-requires
data_at-requires c = record { fits = fits_at c.requires.fits (to_data (goal.at.data_at-requires c).After-get32-address) }

pub returns-in-Some-clause-walked : goal.returns-in-Some-clause-walked
returns-in-Some-clause-walked c =
    reached_all (to_data (goal.at.returns-in-Some-clause-walked c).After-get32-address) c.data_at.ensures.walked
