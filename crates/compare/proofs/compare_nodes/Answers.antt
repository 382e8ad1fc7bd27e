use mathlib.Core.Path.{◌≡◌}
use Rattle.std.proofs.Common.{rules}
use Rattle.walk.specs.Lent.{view_in}
use Rattle.compare.specs.declared.Difference.TheVariants.{NodeDiffers}
use Rattle.compare.specs.Difference.{same_answer, nodes_differ}
use Rattle.compare.proofs.Turns.{searched_then}
use Rattle.compare.proofs.Differences.{differs}
use Rattle.compare.proofs.compare_nodes.Goals as goal

pub returns : goal.returns
unfolding nodes_differ
returns c =
    let a = c.args in
    let told : c.map_err.result ≡ differs NodeDiffers c.all_pass.result = search rules in
    let test = c.all_pass.ensures (λ n. same_answer ((view_in a.kept).table n) ((view_in a.fresh).table n)) (λ i h r p. search rules) in
    rw (told, test) (searched_then (differs NodeDiffers) _ _ _ _)
