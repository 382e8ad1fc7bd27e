use mathlib.Core.Path.{◌≡◌, sym, ap, ◌∙◌}
use Rattle.pull.specs.Pull.{lending, pulled}
use Rattle.compare.specs.declared.Compared.{Compared}
use Rattle.pull_again.specs.Demand.{said}
use Rattle.pull_again.proofs.Steps.{same_pulls}
use Rattle.pull_again.proofs.Demand.{whenever_same}
use Rattle.pull_again.proofs.pull_again.Goals as goal
use Rattle.pull_again.proofs.pull_again.Goals.{After-compare-compared}

-- Compare was given what the first pull left
says : (k : After-compare-compared) → let a = k.args in
    k.compare-compared.result
    ≡ said a.kept.now a.fresh.now
    (pulled a.kept.now a.path.now a.index (lending a.block.now a.nodes.now a.blocks.now))
says k =
    let a = k.args in
    k.compare-compared.ensures ∙ ap (said a.kept.now a.fresh.now) k.pull-first.ensures

pub returns : goal.returns
returns c =
    let said_so = says (goal.at.returns c).After-compare-compared in
    record {
      first = c.pull-first.ensures;
      compared = said_so;
      second = c.pull-second.ensures;
      same = λ takes e.
          same_pulls c.pull-first.ensures c.pull-second.ensures
          (whenever_same _ _ _ _ _ _ takes (ap (λ (x : Compared). x.answer) (sym said_so) ∙ e));
    }
