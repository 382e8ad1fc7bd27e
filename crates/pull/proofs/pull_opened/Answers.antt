-- `pull_opened` meets its contract: what the walk left, and what was delivered, is what is written.
use Prim.Native.Nat.{ℕ}
use native.Mathlib.Omega.{arith}
use borrow.Author.Rules.{rules}
use mathlib.Core.Path.{◌≡◌, refl, sym, ap, subst, ◌∙◌}
use Rattle.std.specs.Prelude.{Result, Ok, Err, IfOk}
use Rattle.answer.specs.declared.Stop.{Stop}
use Rattle.answer.specs.Number.{stop_number}
use Rattle.field.specs.Card.{Card}
use Rattle.checkpoint.specs.OpenImage.{card_in}
use Rattle.walk.specs.Walk.{Outcome}
use Rattle.walk.proofs.Written.{left_few}
use Rattle.path.proofs.Counting.{parts_few}
use Rattle.pull.proofs.Sizes.{pull_within}
use Rattle.pull.proofs.Results.{block_room, pull_fits, pull_written}
use Rattle.pull.specs.declared.FileBlock.{FileBlock}
use Rattle.pull.specs.Walk.{Block, block_found, block_ended, InBlock}
use Rattle.pull.specs.Pull.{answer_of, count_of, buffer_after}
use Rattle.pull.proofs.pull_opened.Goals as goal
use Rattle.pull.proofs.pull_opened.Goals.{After-map_err-found}

-- ---- what is delivered is what was found, by its number
abbrev numbered : Result FileBlock Stop → Result FileBlock ℕ
numbered (Ok b) = Ok b
numbered (Err e) = Err (stop_number e)

ended_found : (card : Card) (r : Result FileBlock Stop) → block_ended card (numbered r) ≡ block_found card r
ended_found card (Ok b) = refl
ended_found card (Err e) = refl

in_found : (card : Card) (r : Result FileBlock Stop) → IfOk r (InBlock card) → IfOk (numbered r) (InBlock card)
in_found card (Ok b) h = h
in_found card (Err e) h = tt

-- ---- the needs
pub walk_to-requires : goal.walk_to-requires
walk_to-requires c =
    record { fits = pull_fits _ _ c.requires.blocks_value _ _ _ }

pub deliver-done-requires-clause-buffer_len : goal.deliver-done-requires-clause-buffer_len
deliver-done-requires-clause-buffer_len c = block_room _ _ c.requires.blocks_value

pub overflow_cast-result : goal.overflow_cast-result
overflow_cast-result c =
    let few = left_few c.walk_to.ensures.walked (pull_within _ _ _) in
    let most = parts_few _ c.requires.path_value in
    omega arith

pub overflow_cast-result-2 : goal.overflow_cast-result-2
overflow_cast-result-2 c =
    let few = left_few c.walk_to.ensures.walked (pull_within _ _ _) in
    let most = parts_few _ c.requires.path_value in
    omega arith

found : (k : After-map_err-found) → k.map_err-found.result ≡ numbered k.walk_to.result
found k = search rules

pub deliver-done-requires-clause-block_in : goal.deliver-done-requires-clause-block_in
deliver-done-requires-clause-block_in c =
    let card = card_in c.args.card in
    subst (λ (r : Result FileBlock ℕ). IfOk r (InBlock card)) (sym (found (goal.at.deliver-done-requires-clause-block_in c).After-map_err-found))
    (in_found card c.walk_to.result c.walk_to.ensures.block_in)

pub returns : goal.returns
returns c =
    let card = card_in c.args.card in
    let put = c.deliver-done.ensures in
    let is : block_ended card c.map_err-found.result ≡ block_found card c.walk_to.result =
    ap (block_ended card) (found (goal.at.returns c).After-map_err-found) ∙ ended_found card c.walk_to.result
    in
    let node-bytes = c.type_inv.nodes in
    let block-bytes = c.type_inv.blocks in
    pull_written _ _ _ _ _ c.requires.blocks_value c.walk_to.ensures.walked (search rules) (search rules)
    (λ k. (node-bytes k).fits) (λ k. (block-bytes k).fits) (put.0 ∙ ap answer_of is) (put.1 ∙ ap count_of is)
    (put.2 ∙ ap (λ (o : Outcome Block). buffer_after o c.args.block.now) is)
