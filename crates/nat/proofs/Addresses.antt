-- Where a table block lies, so that no caller opens `table_address` to read there.
use mathlib.Core.Path.{◌≡◌}
use mathlib.Core.Bool.{true}
use Prim.Native.Nat.{ℕ, ◌≤◌, ◌<◌}
use native.Mathlib.Omega.{arith}
use Rattle.field.specs.Card.{Card}
use Rattle.field.proofs.Maps.{top_bit_lem}
use Rattle.checkpoint.specs.declared.Volume.{Volume}
use Rattle.checkpoint.specs.Volume.{PlacesIn}
use Rattle.nat.specs.Table.{in_range, table_block, nat_map_of, table_address}
use Rattle.nat.proofs.Range.{block_in_range}

module _ (card : Card) (v : Volume) (h : PlacesIn card.blocks v) (number : ℕ) (r : in_range v number ≡ true) where
  -- both copies of a block lie in the NAT area, which has an even number of segments
  pub address_inside : (v.areas.nat ≤ table_address card v (table_block number)) × (table_address card v (table_block number) < v.areas.ssa)
  unfolding table_address
  address_inside =
      let b = block_in_range v number r in
      let t = top_bit_lem (nat_map_of card v) (table_block number) in
      (omega arith, omega arith)

  pub address_on_card : table_address card v (table_block number) < card.blocks
  address_on_card =
      let a = address_inside in
      omega arith
