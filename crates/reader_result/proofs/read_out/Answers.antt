-- `read_out` meets its contract: too early or out of shape, a refusal, or an answer that is written out.
use Prim.Native.Nat.{ℕ, ◌≤◌}
use native.Mathlib.Omega.{arith}
use mathlib.Core.Path.{◌≡◌, sym, ap, subst, ◌∙◌}
use mathlib.Core.Bool.{true, ◌&&◌}
use lib.ListN.{length}
use borrow.Author.Rules.{rules}
use Rattle.path.specs.Path.{names_most}
use Rattle.path.proofs.Counting.{count_few}
use Rattle.pull.specs.declared.Pulled.{Pulled}
use Rattle.pull.specs.Pull.{lending, Result, result_in, lent_in_shape}
use Rattle.reader.specs.Reading.{memory_in}
use Rattle.reader_result.proofs.Endings.{answered, fitting, fitting_counted, read_early, read_unfit, read_so, path_within}
use Rattle.reader_result.proofs.Endings.{block_length, bytes_inside, nodes_inside, blocks_inside, read_as, ending_refused, ending_read}
use Rattle.reader_result.proofs.read_out.Goals as goal
use Rattle.reader_result.proofs.read_out.Goals.{After-counts_fit, Else-not-at, Else-not-lent_in_shape-counts_fit}

-- a refusal's numbers
abbrev refusal_numbers : ℕ → Pulled
refusal_numbers n = record { answer = n; byte_count = 0; node_count = 0; block_count = 0 }

-- ---- what is known there
there : (k : Else-not-at) → answered k.args.r (lending k.args.block.now k.args.nodes.now k.args.blocks.now) ≡ true
there k = k.if-not-at.false

tested : (k : After-counts_fit) → fitting k.args.r (lending k.args.block.now k.args.nodes.now k.args.blocks.now)
    ≡ (k.lent_in_shape.result && k.counts_fit.result)
unfolding lent_in_shape
tested k =
    let lent = lending k.args.block.now k.args.nodes.now k.args.blocks.now in
    fitting_counted k.args.r lent k.names_in-k.ensures k.lent_in_shape.ensures k.counts_fit.ensures

fits : (k : Else-not-lent_in_shape-counts_fit) → fitting k.args.r (lending k.args.block.now k.args.nodes.now k.args.blocks.now) ≡ true
unfolding lent_in_shape
fits k =
    let lent = lending k.args.block.now k.args.nodes.now k.args.blocks.now in
    fitting_counted k.args.r lent k.names_in-k.ensures k.lent_in_shape.ensures k.counts_fit.ensures
    ∙ k.if-not-lent_in_shape-counts_fit.false

-- ---- the goals
pub returns-then-not-at : goal.returns-then-not-at
returns-then-not-at c =
    let lent = lending c.args.block.now c.args.nodes.now c.args.blocks.now in
    ap (λ (p : Pulled). result_in p lent) (c.refused_pull.ensures ∙ ap refusal_numbers c.number.ensures) ∙ sym (read_early c.args.r lent c.if-not-at.true)

pub names_in-k-requires : goal.names_in-k-requires
names_in-k-requires c =
    let lent = lending c.args.block.now c.args.nodes.now c.args.blocks.now in
    path_within c.args.r lent (there (goal.at.names_in-k-requires c).Else-not-at)

pub lent_in_shape-requires : goal.lent_in_shape-requires
lent_in_shape-requires c = subst (λ (k : ℕ). k ≤ names_most) (sym c.names_in-k.ensures) (count_few _)

pub returns-then-not-lent_in_shape-counts_fit : goal.returns-then-not-lent_in_shape-counts_fit
returns-then-not-lent_in_shape-counts_fit c =
    let here = goal.at.returns-then-not-lent_in_shape-counts_fit c in
    let lent = lending c.args.block.now c.args.nodes.now c.args.blocks.now in
    let unfit = tested here.After-counts_fit ∙ c.if-not-lent_in_shape-counts_fit.true in
    let refused = c.refused_pull-then-not-lent_in_shape-counts_fit.ensures ∙ ap refusal_numbers c.number-then-not-lent_in_shape-counts_fit.ensures in
    ap (λ (p : Pulled). result_in p lent) refused
    ∙ sym (read_unfit c.args.r lent (there here.Else-not-at) unfit)

pub returns-then-at-eq0 : goal.returns-then-at-eq0
returns-then-at-eq0 c =
    let here = goal.at.returns-then-at-eq0 c in
    let r = c.args.r in
    let lent = lending c.args.block.now c.args.nodes.now c.args.blocks.now in
    ap (λ (p : Pulled). result_in p lent) c.refused_pull-then-at-eq0.ensures
    ∙ sym (ending_refused r.at (memory_in r) r.nodes r.blocks lent c.if-at-eq0.true)
    ∙ sym (read_so r lent (there here.Else-not-at) (fits here.Else-not-lent_in_shape-counts_fit))

pub put_answer-requires : goal.put_answer-requires
put_answer-requires c =
    let lent = lending c.args.block.now c.args.nodes.now c.args.blocks.now in
    let fit = fits (goal.at.put_answer-requires c).Else-not-lent_in_shape-counts_fit in
    (block_length c.args.r lent fit, bytes_inside c.args.r lent fit)

pub copy_list-requires : goal.copy_list-requires
copy_list-requires c =
    let lent = lending c.args.block.now c.args.nodes.now c.args.blocks.now in
    let inside = nodes_inside c.args.r lent (fits (goal.at.copy_list-requires c).Else-not-lent_in_shape-counts_fit) in
    let room : length c.args.r.nodes ≡ 5620 = search rules in
    (omega (arith, inside.0), inside.1)

pub copy_list-requires-2 : goal.copy_list-requires-2
copy_list-requires-2 c =
    let lent = lending c.args.block.now c.args.nodes.now c.args.blocks.now in
    let inside = blocks_inside c.args.r lent (fits (goal.at.copy_list-requires-2 c).Else-not-lent_in_shape-counts_fit) in
    let room : length c.args.r.blocks ≡ 7480 = search rules in
    (omega (arith, inside.0), inside.1)

pub returns : goal.returns
returns c =
    let here = goal.at.returns c in
    let r = c.args.r in
    let lent = lending c.args.block.now c.args.nodes.now c.args.blocks.now in
    let left : Result = result_in c.numbers_of.result (lending c.put_answer.new.block c.copy_list.new.into c.copy_list-2.new.into) in
    let same : left ≡ read_as r.at (memory_in r) r.nodes r.blocks lent =
    λ i. record {
      numbers = c.numbers_of.ensures i;
      memory = record { block = c.put_answer.ensures i; nodes = c.copy_list.ensures i; blocks = c.copy_list-2.ensures i };
    } in
    same ∙ ending_read r.at (memory_in r) r.nodes r.blocks lent c.if-at-eq0.false
    ∙ sym (read_so r lent (there here.Else-not-at) (fits here.Else-not-lent_in_shape-counts_fit))
