use mathlib.Core.Path.{◌∙◌}
use Rattle.std.proofs.Common.{rules}
use Rattle.node.specs.Node.{in_main}
use Rattle.std.specs.Prelude.{is_ok}
use Rattle.compare.specs.Column.{bounds_in, numbers_in}
use Rattle.compare.proofs.Turns.{searched_then}
use Rattle.compare.proofs.column.Column.all_in.Goals as goal

pub returns : goal.returns
unfolding in_main
returns c =
    let m = bounds_in c.args.main in
    let e = c.all_pass.ensures (in_main m) (λ i h r p. search rules) in
    c.is_ok.ensures.value ∙ rw e (searched_then is_ok (in_main m) _ _ (numbers_in c.args.self))
