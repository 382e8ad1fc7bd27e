-- What is kept of a listed node is what stands behind its number.
use mathlib.Core.Path.{◌≡◌, sym, ap, ◌∙◌}
use Prim.Native.Nat.{◌+◌}
use Rattle.std.proofs.Common.{rules}
use Rattle.nat.specs.Table.{TableAnswer}
use Rattle.walk.specs.Lent.{view_in}
use Rattle.compare.specs.declared.Difference.TheVariants.{NodeDiffers}
use Rattle.compare.specs.Column.{place_of, number_at}
use Rattle.compare.specs.Difference.{same_answer, nodes_differ}
use Rattle.compare.proofs.Turns.{searched_then}
use Rattle.compare.proofs.Differences.{differs}
use Rattle.keep_file.specs.Keep.{kept_answer}
use Rattle.keep_file.specs.Reading.{answer_at, keep_in}
use Rattle.keep_file.proofs.ByNumbers.{nodes_told}
use Rattle.keep_compare.proofs.Reading.{entry_inside, nodes_found}
use Rattle.keep_compare.proofs.compare_nodes.Goals as goal

pub all_pass-requires : goal.all_pass-requires
all_pass-requires c = λ i h. let k = entry_inside c.nodes-nodes.ensures i h in search (rules, k)

pub returns : goal.returns
unfolding nodes_differ
returns c =
    let file = c.args.kept.parts.bytes.now in
    let nodes = c.nodes-nodes.result in
    let table = (view_in c.args.fresh).table in
    let told : c.map_err.result ≡ differs NodeDiffers c.all_pass.result = search rules in
    let test =
    c.all_pass.ensures (λ n. same_answer (kept_answer (keep_in file).nodes n) (table n)) (λ i h r p.
    let says : r ≡ same_answer (answer_at file (place_of nodes i + 4)) (table (number_at nodes i)) = search rules in
    let kept = nodes_found file c.args.kept.readable c.nodes-nodes.ensures i h in
    says ∙ ap (λ (a : TableAnswer). same_answer a (table (number_at nodes i))) (sym kept))
    in
    rw (told, test, nodes_told file c.nodes-nodes.ensures) (searched_then (differs NodeDiffers) _ _ _ _)
