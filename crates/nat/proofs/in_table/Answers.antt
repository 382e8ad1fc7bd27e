use mathlib.Core.Path.{◌≡◌}
use Prim.Native.Nat.{◌<◌}
use Rattle.field.proofs.Blocks.{length_of_block}
use Rattle.checkpoint.specs.OpenImage.{card_in}
use Rattle.nat.specs.Table.{table_block, table_address, in_table}
use Rattle.nat.proofs.Addresses.{address_on_card}
use Rattle.nat.proofs.in_table.Goals as goal
use Rattle.nat.proofs.in_table.Goals.{After-table_address-address}

-- the address is the one by the card's map, and it lies on the card
addressed : (k : After-table_address-address) → let card = k.args.card in
    k.table_address-address.result ≡ table_address (card_in card) card.volume (table_block k.args.number)
unfolding table_address
addressed k = rw k.block_at-first.ensures at k.table_address-address.ensures

on_card : (k : After-table_address-address) → k.table_address-address.result < (card_in k.args.card).blocks
on_card k =
    let card = k.args.card in
    rw (addressed k) (address_on_card (card_in card) card.volume card.volume_in.places k.args.number k.requires)

pub block_at-requires : goal.block_at-requires
block_at-requires c = on_card (goal.at.block_at-requires c).After-table_address-address

pub table_entry-requires : goal.table_entry-requires
table_entry-requires c =
    length_of_block _ _ (on_card (goal.at.table_entry-requires c).After-table_address-address) c.block_at.ensures

pub returns : goal.returns
unfolding in_table
returns c =
    rw (← addressed (goal.at.returns c).After-table_address-address, ← c.block_at.ensures) c.table_entry.ensures
