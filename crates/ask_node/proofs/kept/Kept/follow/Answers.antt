-- `follow` meets its contract: each return is a case of the way.
use native.Mathlib.Omega.{arith}
use mathlib.Core.Path.{sym, ap, ◌∙◌}
use Rattle.ask_node.specs.declared.Fetch.{Fetch}
use Rattle.ask_node.specs.Fetch.{no_node}
use Rattle.ask_node.proofs.Steps.{hop_few, follow_data, follow_hole, follow_node}
use Rattle.ask_node.proofs.kept.Kept.follow.Goals as goal

pub returns-then-way-hop : goal.returns-then-way-hop
returns-then-way-hop c =
    let same = c.no_node.ensures ∙ ap no_node c.from_address.ensures in
    let hop = ap (λ (f : Fetch). f.hop) c.no_node.ensures in
    record { value = same ∙ sym (follow_data _ c.requires.way_in _ _ c.if-way-hop.true); hop_in = omega arith }

pub returns-then-number-eq0 : goal.returns-then-number-eq0
returns-then-number-eq0 c =
    let hop = ap (λ (f : Fetch). f.hop) c.no_node-then-number-eq0.ensures in
    record {
      value = c.no_node-then-number-eq0.ensures ∙ sym (follow_hole _ c.requires.way_in _ _ (omega (arith, c.if-way-hop.false)) c.if-number-eq0.true);
      hop_in = omega arith;
    }

pub returns : goal.returns
returns c =
    let on = c.if-way-hop.false in
    record { value = rw c.seek-wants.ensures (sym (follow_node _ c.requires.way_in _ _ on c.if-number-eq0.false)); hop_in = hop_few c.requires.way_in on }
