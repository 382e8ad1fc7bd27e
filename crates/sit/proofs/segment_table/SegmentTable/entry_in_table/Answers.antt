use native.Mathlib.Omega.{arith}
use mathlib.Core.Path.{◌≡◌}
use Prim.Native.Nat.{◌+◌, ◌-◌, ◌*◌, ◌%◌, ◌<◌}
use Rattle.field.proofs.Blocks.{length_of_block}
use Rattle.checkpoint.specs.OpenImage.{card_in}
use Rattle.sit.specs.Table.{table_block, table_address, in_table}
use Rattle.sit.proofs.Inside.{address_on_card}
use Rattle.sit.proofs.segment_table.SegmentTable.entry_in_table.Goals as goal
use Rattle.sit.proofs.segment_table.SegmentTable.entry_in_table.Goals.{After-table_address-address}

-- the address is the one by the card's map, and it lies on the card
addressed : (k : After-table_address-address) → let card = k.args.self.card in
    k.table_address-address.result ≡ table_address (card_in card) card.volume (table_block k.args.segment)
unfolding table_address
addressed k = rw k.block_at.ensures at k.table_address-address.ensures

on_card : (k : After-table_address-address) → k.table_address-address.result < (card_in k.args.self.card).blocks
on_card k =
    let table = k.args.self in
    rw (addressed k) (address_on_card (card_in table.card) table.card.volume table.sit_in k.args.segment k.requires)

pub table_address-address-requires-clause-first_len : goal.table_address-address-requires-clause-first_len
table_address-address-requires-clause-first_len c =
    let places = c.args.self.card.volume_in.places in
    let starts = places.map_starts in
    let fits = places.map_inside in
    (length_of_block _ _ places.pack_inside c.block_at.ensures, omega arith)

pub slice_bounds-result-end : goal.slice_bounds-result-end
slice_bounds-result-end c = omega (
  arith,
  length_of_block _ _ (on_card (goal.at.slice_bounds-result-end c).After-table_address-address) c.block_at-block.ensures,
)

pub returns : goal.returns
unfolding in_table
returns c =
    let start = 74 * (c.args.segment % 55) in
    let e : start + 74 - start ≡ 74 = omega arith in
    rw (e, c.block_at-block.ensures, addressed (goal.at.returns c).After-table_address-address)
