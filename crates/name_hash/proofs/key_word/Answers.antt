use Rattle.std.proofs.Common.{◌∙◌, take, drop, rules, tests}
use Rattle.std.proofs.lemmas.Iterator.{YieldsList-from_slice, YieldsList-from_take}
use Rattle.std.proofs.lemmas.Iterator.Adapters.{YieldsList-from_skip}
use Rattle.std.proofs.lemmas.Iterator.Consumers.{YieldsList-at, fold_from_yields_List}
use Rattle.name_hash.specs.Hash.{push}
use Rattle.name_hash.proofs.Words.{pushed}
use Rattle.name_hash.proofs.key_word.Goals as goal

pub returns : goal.returns
returns c =
    fold_from_yields_List _ push c.args.pad _ c.fold.ensures.ran
    (YieldsList-from_take 4 (YieldsList-at c.take.ensures.source
    (YieldsList-from_skip c.args.at (YieldsList-from_slice c.args.rest.now cc) c.skip.ensures.count)) c.take.ensures.count)
    (λ a x b q k. search (rules, tests))
    ∙ pushed c.args.pad (take 4 (drop c.args.at c.args.rest.now))
