-- `fetch_next` meets its contract: the number in the slot of the hop, and the way from there.
use Prim.Native.Nat.{◌<◌}
use native.Mathlib.Omega.{arith}
use Rattle.place.proofs.Ways.{slot_at}
use Rattle.ask_node.specs.Wants.{kept_in}
use Rattle.ask_node.proofs.Steps.{way_in, node_slot, next_node}
use Rattle.ask_node.proofs.kept.Kept.fetch_next.Goals as goal
use Rattle.ask_node.proofs.kept.Kept.fetch_next.Goals.{After-way_to-way}

small : (k : After-way_to-way) → slot_at k.way_to-way.result k.args.hop < 1018
small k =
    let shape = k.requires.inode_len in
    node_slot _ _ k.way_to-way.ensures _ shape.2 shape.3

pub overflow_mul-slot : goal.overflow_mul-slot
overflow_mul-slot c = omega (arith, small (goal.at.overflow_mul-slot c).After-way_to-way)

pub get32-number-requires : goal.get32-number-requires
get32-number-requires c = omega (arith, small (goal.at.get32-number-requires c).After-way_to-way, c.requires.inode_len)

pub follow-requires : goal.follow-requires
follow-requires c =
    record { way_in = way_in _ _ c.way_to-way.ensures }

pub returns : goal.returns
returns c =
    let left = next_node _ _ c.way_to-way.ensures (kept_in c.args.self) _ _ c.requires.inode_len.3 c.get32-number.ensures in
    record { value = rw left c.follow.ensures.value; hop_in = c.follow.ensures.hop_in }
