-- `first_difference` meets its contract: bounds, then nodes, then blocks, as Compare goes.
use mathlib.Core.Path.{◌≡◌, sym, ◌∙◌}
use mathlib.Core.Bool.{true}
use Rattle.std.proofs.Common.{rules}
use Rattle.node.specs.Node.{bounds_of}
use Rattle.compare.specs.Difference.{same_bounds}
use Rattle.compare.proofs.Differences.{bounds_first, bounds_pass, bounds_agree, nodes_agree, node_first}
use Rattle.keep_file.specs.Reading.{keep_in}
use Rattle.keep_compare.specs.Compare.{keep_difference}
use Rattle.keep_compare.proofs.Reading.{blocks_inside}
use Rattle.keep_compare.proofs.first_difference.Goals as goal
use Rattle.keep_compare.proofs.first_difference.Goals.{In_ok-compare_bounds}

bounds_same : (k : In_ok-compare_bounds) → let a = k.args in same_bounds (keep_in a.kept.parts.bytes.now).bounds (bounds_of a.fresh.volume) ≡ true
bounds_same k =
    let a = k.args in
    bounds_pass (keep_in a.kept.parts.bytes.now).bounds (bounds_of a.fresh.volume)
    (rw (← k.bounds.ensures, ← k.main_area.ensures) (sym k.in_ok-compare_bounds.ensures))

pub returns-in_err-compare_bounds : goal.returns-in_err-compare_bounds
unfolding keep_difference
returns-in_err-compare_bounds c =
    let told : c.from_residual.result ≡ c.compare_bounds.result = search rules in
    let stops = rw (c.bounds.ensures, c.main_area.ensures) at (sym c.in_err-compare_bounds.ensures) in
    told ∙ c.in_err-compare_bounds.was ∙ sym (bounds_first _ _ _ _ _ _ stops)

pub returns-in_err-compare_nodes : goal.returns-in_err-compare_nodes
unfolding keep_difference
returns-in_err-compare_nodes c =
    let k = (goal.at.returns-in_err-compare_nodes c).In_ok-compare_bounds in
    let told : c.from_residual-in_err-compare_nodes.result ≡ c.compare_nodes.result = search rules in
    told ∙ c.in_err-compare_nodes.was
    ∙ sym (bounds_agree _ _ _ _ _ _ (bounds_same k) ∙ node_first _ _ _ _ (sym c.in_err-compare_nodes.ensures))

pub compare_blocks-requires : goal.compare_blocks-requires
compare_blocks-requires c =
    let k = (goal.at.compare_blocks-requires c).In_ok-compare_bounds in
    blocks_inside _ c.args.kept.readable c.args.fresh.volume_in (bounds_same k)

pub returns : goal.returns
unfolding keep_difference
returns c =
    let k = (goal.at.returns c).In_ok-compare_bounds in
    sym (bounds_agree _ _ _ _ _ _ (bounds_same k)
    ∙ nodes_agree _ _ _ _ (sym c.in_ok-compare_nodes.ensures)
    ∙ sym c.compare_blocks.ensures)
