-- `fetch_block` meets its contract: each return is a way of no step, of one, or of more.
use Prim.Native.Nat.{◌<◌}
use native.Mathlib.Omega.{arith}
use mathlib.Core.Path.{sym, ap, ◌∙◌}
use Rattle.place.proofs.Ways.{slot_at}
use Rattle.ask_node.specs.declared.Fetch.{Fetch}
use Rattle.ask_node.specs.Fetch.{no_node}
use Rattle.ask_node.specs.Wants.{kept_in}
use Rattle.ask_node.proofs.Steps.{way_in, inode_slot, number_slot, block_none, block_data, block_node}
use Rattle.ask_node.proofs.kept.Kept.fetch_block.Goals as goal
use Rattle.ask_node.proofs.kept.Kept.fetch_block.Goals.{After-way_to-way, Else-way-eq1}

small : (k : After-way_to-way) → slot_at k.way_to-way.result 0 < 928
small k = inode_slot _ _ k.way_to-way.ensures

smaller : (k : Else-way-eq1) → slot_at k.way_to-way.result 0 < 5
smaller k = number_slot _ _ k.way_to-way.ensures k.if-way-eq0.false k.if-way-eq1.false

pub returns-then-way-eq0 : goal.returns-then-way-eq0
returns-then-way-eq0 c =
    let hop = ap (λ (f : Fetch). f.hop) c.no_node.ensures in
    record { value = c.no_node.ensures ∙ sym (block_none _ _ c.way_to-way.ensures _ c.if-way-eq0.true); hop_in = omega arith }

pub overflow_mul-slot : goal.overflow_mul-slot
overflow_mul-slot c = omega (arith, small (goal.at.overflow_mul-slot c).After-way_to-way)

pub overflow_add-slot : goal.overflow_add-slot
overflow_add-slot c = omega (arith, small (goal.at.overflow_add-slot c).After-way_to-way)

pub get32-requires : goal.get32-requires
get32-requires c = omega (arith, small (goal.at.get32-requires c).After-way_to-way, c.requires.inode_len)

pub returns-then-way-eq1 : goal.returns-then-way-eq1
returns-then-way-eq1 c =
    let same = c.no_node-then-way-eq1.ensures ∙ ap no_node c.from_address.ensures in
    let hop = ap (λ (f : Fetch). f.hop) c.no_node-then-way-eq1.ensures in
    record { value = same ∙ sym (block_data _ _ c.way_to-way.ensures _ c.if-way-eq1.true c.get32.ensures); hop_in = omega arith }

pub overflow_mul-slot-2 : goal.overflow_mul-slot-2
overflow_mul-slot-2 c = omega (arith, smaller c)

pub overflow_add-slot-2 : goal.overflow_add-slot-2
overflow_add-slot-2 c = omega (arith, smaller c)

pub get32-number-requires : goal.get32-number-requires
get32-number-requires c = omega (arith, smaller c, c.requires.inode_len)

pub follow-requires : goal.follow-requires
follow-requires c =
    record { way_in = way_in _ _ c.way_to-way.ensures }

pub returns : goal.returns
returns c =
    let steps = c.if-way-eq0.false in
    let left = block_node _ _ c.way_to-way.ensures (kept_in c.args.self) steps c.if-way-eq1.false c.get32-number.ensures in
    record { value = rw left c.follow.ensures.value; hop_in = c.follow.ensures.hop_in }
