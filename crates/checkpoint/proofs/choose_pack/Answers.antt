use Rattle.std.proofs.Common.{◌≡◌, arith}
use Rattle.field.specs.Card.{card_of}
use Rattle.field.proofs.Blocks.{length_of_block}
use Rattle.checkpoint.specs.Checkpoint.{header_of}
use Rattle.checkpoint.specs.Pack.{newer, second_pack}
use Rattle.checkpoint.proofs.Choosing.{chosen_in_order}
use Rattle.checkpoint.proofs.choose_pack.Goals as goal
use Rattle.checkpoint.proofs.choose_pack.Goals.{After-is_newer}

-- the test is of the two packs' headers on the card
newer_by : (k : After-is_newer) → let a = k.args in
    k.is_newer.result ≡ newer (header_of (card_of a.image.bytes.now) a.address) (header_of (card_of a.image.bytes.now) (second_pack a.address))
newer_by k =
    rw (k.checkpoint_of-one.ensures, k.block_at.ensures, k.checkpoint_of-other.ensures, k.block_at-2.ensures) at k.is_newer.ensures

pub checkpoint_of-one-requires : goal.checkpoint_of-one-requires
checkpoint_of-one-requires c =
    length_of_block _ _ (omega arith) c.block_at.ensures

pub checkpoint_of-other-requires : goal.checkpoint_of-other-requires
checkpoint_of-other-requires c =
    length_of_block _ _ (omega arith) c.block_at-2.ensures

pub returns-then-is_newer : goal.returns-then-is_newer
returns-then-is_newer c = rw (chosen_in_order, ← newer_by (goal.at.returns-then-is_newer c).After-is_newer, c.if-is_newer.true, c.first_passing.ensures)

pub returns-else-is_newer : goal.returns-else-is_newer
returns-else-is_newer c = rw (
  chosen_in_order,
  ← newer_by (goal.at.returns-else-is_newer c).After-is_newer,
  c.if-is_newer.false,
  c.first_passing-else-is_newer.ensures,
)
