use Rattle.std.proofs.Common.{◌∙◌, rules, tests}
use Rattle.std.proofs.lemmas.Iterator.{YieldsList-from_slice}
use Rattle.std.proofs.lemmas.Iterator.Search.{all_from_yields_List}
use Rattle.name_hash.proofs.Bytes.{good, all_good}
use Rattle.name_hash.proofs.name_bytes.Goals as goal

pub returns : goal.returns
returns c =
    all_from_yields_List good _ _ _ c.all.ensures.ran (YieldsList-from_slice c.args.name.now cc) (λ x b q k. search (rules, tests))
    ∙ all_good c.args.name.now
