use native.Mathlib.Omega.{arith}
use mathlib.Core.Path.{◌≡◌, refl, sym, ◌∙◌}
use mathlib.Core.Bool.{◌&&◌}
use borrow.Author.Tests.{le-leb}
use Rattle.list.specs.Lists.{listing}
use Rattle.node.specs.Node.{bounds_of}
use Rattle.compare.specs.Lists.{lists_in_shape}
use Rattle.compare.proofs.Shapes.{nodes_refuse, blocks_refuse, counts_pass_lem}
use Rattle.compare.proofs.lists_in_shape.Goals as goal
use Rattle.compare.proofs.lists_in_shape.Goals.{After-all_in}

pub returns-in_err-nodes : goal.returns-in_err-nodes
returns-in_err-nodes c = rw c.from_residual.ensures (nodes_refuse _ _ _ c.in_err-nodes.ensures)

pub returns-in_err-blocks : goal.returns-in_err-blocks
returns-in_err-blocks c = rw c.from_residual-in_err-blocks.ensures (blocks_refuse _ _ _ c.in_err-blocks.ensures)

-- no node is listed
pub returns-then-nodes-eq0 : goal.returns-then-nodes-eq0
returns-then-nodes-eq0 c =
    let a = c.args in
    let n = c.in_ok-nodes.ensures in
    let b = c.in_ok-blocks.ensures in
    let none : (listing a.nodes.now a.node_count).count ≡ 0 = sym n.2 ∙ c.if-nodes-eq0.true in
    counts_pass_lem (bounds_of a.v) (listing a.nodes.now a.node_count) (listing a.blocks.now a.block_count) n.0 b.0 ∙ rw none refl

-- what the code tests once both counts have passed, and some node is listed, is all that is left
tested : (k : After-all_in) → let a = k.args in
    lists_in_shape (bounds_of a.v) (listing a.nodes.now a.node_count) (listing a.blocks.now a.block_count)
    ≡ (k.is_rising.result && k.is_rising-2.result && k.all_in.result)
tested k =
    let a = k.args in
    let n = k.in_ok-nodes.ensures in
    let b = k.in_ok-blocks.ensures in
    let some = k.if-nodes-eq0.false in
    rw (
      counts_pass_lem (bounds_of a.v) (listing a.nodes.now a.node_count) (listing a.blocks.now a.block_count) n.0 b.0,
      ← n.1,
      ← b.1,
      ← k.is_rising.ensures,
      ← k.is_rising-2.ensures,
      ← k.main_area.ensures,
      ← k.all_in.ensures,
      ← n.2,
      le-leb 1 k.in_ok-nodes.nodes.count (omega arith),
    )

pub returns-then-is_rising-all_in : goal.returns-then-is_rising-all_in
returns-then-is_rising-all_in c =
    let told = tested (goal.at.returns-then-is_rising-all_in c).After-all_in in
    (told ∙ c.if-is_rising-all_in.true, c.in_ok-nodes.ensures.1, c.in_ok-blocks.ensures.1)

pub returns-else-is_rising-all_in : goal.returns-else-is_rising-all_in
returns-else-is_rising-all_in c = tested (goal.at.returns-else-is_rising-all_in c).After-all_in ∙ c.if-is_rising-all_in.false
