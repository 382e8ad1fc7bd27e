use Rattle.std.proofs.Common.{◌∙◌, ◌+◌, ap, rules, tests, eqb, not, drop}
use Rattle.std.proofs.lemmas.Iterator.{YieldsList-from_slice}
use Rattle.std.proofs.lemmas.Iterator.Consumers.{YieldsList-at, count_from_yields_List}
use Rattle.std.proofs.lemmas.Iterator.Search.{YieldsList-from_take_while}
use Rattle.std.proofs.lemmas.List.{take_rest}
use Rattle.std.proofs.lemmas.List.Folds.{length-prefix_len}
use Rattle.path.specs.Path.{slash}
use Rattle.path.proofs.Splits.{prefix_is}
use Rattle.path.proofs.part_end.Goals as goal

pub returns : goal.returns
returns c =
    let path = drop c.args.start c.args.path.now in
    let rest = c.iter.ensures.rest ∙ take_rest c.args.path.now c.args.start in
    let taken = c.take_while-part.ensures in
    let part = count_from_yields_List c.take_while-part.result _ c.count.ensures.ran
    (YieldsList-from_take_while _ (λ b. not (eqb b slash)) (YieldsList-at taken.source (YieldsList-from_slice path rest))
    taken.closure taken.done (λ x b q k. search (rules, tests))) in
    ap (◌+◌ c.args.start) (part ∙ length-prefix_len (λ b. not (eqb b slash)) path ∙ prefix_is path)
