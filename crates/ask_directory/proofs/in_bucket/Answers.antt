-- `in_bucket` meets its contract: past the last index there is nothing, up to it the block is fetched.
use native.Mathlib.Omega.{arith}
use mathlib.Core.Path.{◌≡◌, ap, ◌∙◌}
use Rattle.inode.specs.Inode.{inode_of, addresses_in}
use Rattle.ask_node.specs.Wants.{kept_in}
use Rattle.ask_directory.specs.declared.Move.{Move}
use Rattle.ask_directory.proofs.Searching.{past_last, up_to_last}
use Rattle.ask_directory.proofs.in_bucket.Goals as goal
use Rattle.ask_directory.proofs.in_bucket.Goals.{After-addresses_in}

held : (k : After-addresses_in) → k.addresses_in.result ≡ addresses_in (inode_of k.args.inode.now)
held k = k.addresses_in.ensures.0 ∙ ap addresses_in k.inode_of-i.ensures

pub returns-then-last-index : goal.returns-then-last-index
returns-then-last-index c =
    let here = goal.at.returns-then-last-index c in
    let none = past_last (kept_in c.args.kept) c.args.inode.now c.args.spot c.args.index
    (omega (arith, c.if-last-index.true, held here.After-addresses_in)) in
    let hop = ap (λ (m : Move). m.target.hop) c.go_to.ensures in
    record {
      value = none c.go_to.ensures;
      hop_bound = omega arith;
    }

pub returns : goal.returns
returns c =
    let here = goal.at.returns c in
    let some = up_to_last (kept_in c.args.kept) c.args.inode.now c.args.spot c.args.index
    (omega (arith, c.if-last-index.false, held here.After-addresses_in)) in
    let hop = ap (λ (m : Move). m.target.hop) c.fetch_move.ensures in
    record {
      value = some c.fetch_block-f.ensures.value c.fetch_move.ensures;
      hop_bound = omega (arith, c.fetch_block-f.ensures.hop_in);
    }
