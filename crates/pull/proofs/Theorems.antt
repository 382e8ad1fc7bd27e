-- What is so of every pull, whatever the image, the path, the index and the lent memory. Each is stated over `pulled`, the definition
-- that the contract cites.
use Prim.Native.Nat.{ℕ, ◌<◌, ◌≤◌}
use native.Mathlib.Omega.{arith}
use mathlib.Core.Path.{◌≡◌, refl}
use mathlib.Core.Bool.{Bool, true, false, ◌&&◌, ◌||◌}
use mathlib.Core.Logic.{◌⊎◌, inl, inr, ◌↔◌}
use borrow.Author.Tests.{eqb-true, leb-true}
use lib.Dec.{eqb, leb}
use mathlib.Core.List.{List, [], ◌∷◌, Memᴰ}
use lib.ListN.{length}
use Rattle.field.specs.Card.{Card, card_of}
use Rattle.field.proofs.Choosing.{clash}
use Rattle.checkpoint.specs.declared.Volume.{Volume}
use Rattle.checkpoint.specs.Volume.{Opening, Opened, Refused, opened_image}
use Rattle.checkpoint.proofs.Inside.{refusals}
use Rattle.list.specs.Lists.{Rising, AllOf, numbers, entries}
use Rattle.walk.specs.Walk.{view_of, empty, Walk, Outcome, ok, stop, ending, Ended, bind, and_then, AsksNode, AsksBlock}
use Rattle.walk.proofs.Runs.{run_rising}
use Rattle.walk.proofs.Sizes.{few_listed, run_reads, run_value}
use Rattle.walk.proofs.Asked.{nodes_exact, blocks_exact}
use Rattle.list.proofs.Members.{mem_some}
use Rattle.list.proofs.Written.{numbers_over}
use Rattle.node.specs.Node.{bounds_of, in_main, node_walk}
use Rattle.node.specs.Block.{Fetched, hole, held}
use Rattle.path.specs.Path.{parts_of, part_count}
use Rattle.path.proofs.Parts.{some_part}
use Rattle.path_lookup.specs.Lookup.{ino_of_root, directory_walk, names_walk}
use Rattle.pull.specs.Walk.{Block, named_file_walk, pull_walk}
use Rattle.pull.specs.Pull.{nodes_most, blocks_most, Lent, Result, call_in_shape, content_answer, answer_of, count_of, buffer_after}
use Rattle.pull.specs.Pull.{nodes_left, blocks_left, refused_pull, written, pull_run, pulled}
use Rattle.pull.proofs.Sizes.{Counted, ToBlock, pull_within}
use Rattle.pull.proofs.Results.{call_refused, call_opens}

-- the walk of a pull on an opened card
abbrev pub walk_of : Volume → List ℕ → ℕ → Walk (Outcome Block)
walk_of v path index = pull_walk (bounds_of v) path index

-- an answer that ends a walk is 2 to 14, and none of 4 to 8
pub ending_inside : (answer : ℕ) → ending answer ≡ true → (2 ≤ answer) × (answer ≤ 14) × ((answer < 4) ⊎ (8 < answer))
ending_inside answer h = go (eqb answer 2) refl (eqb answer 3) refl (leb 9 answer) refl (leb answer 14) refl h
  where
    go : (a : Bool) → eqb answer 2 ≡ a → (b : Bool) → eqb answer 3 ≡ b → (c : Bool) → leb 9 answer ≡ c → (d : Bool) → leb answer 14 ≡ d
        → (a || b) || (c && d) ≡ true → (2 ≤ answer) × (answer ≤ 14) × ((answer < 4) ⊎ (8 < answer))
    go true e b f c g d k t = let is = eqb-true answer 2 e in (omega arith, omega arith, inl (omega arith))
    go false e true f c g d k t = let is = eqb-true answer 3 f in (omega arith, omega arith, inl (omega arith))
    go false e false f true g true k t = let least = leb-true 9 answer g in (omega arith, leb-true answer 14 k, inr (omega arith))
    go false e false f true g false k t = absurd (clash t refl)
    go false e false f false g d k t = absurd (clash t refl)

-- a hole or a block: the answer is 0 or 1
pub content_few : (f : Fetched) → content_answer f ≤ 1
content_few hole = omega arith
content_few (held block) = omega arith

-- an answer of the table with its byte count
abbrev pub Answered : ℕ → ℕ → Type 0
Answered answer count = (answer ≤ 14) × (answer ≤ 1 → (1 ≤ count) × (count ≤ 4096)) × (2 ≤ answer → count ≡ 0)

-- ---- the walk's run, on any card
module _ (card : Card) (v : Volume) (path : List ℕ) (index : ℕ) where
  size : ToBlock (bounds_of v) (nodes_most (part_count path)) (blocks_most (part_count path)) (walk_of v path index)
  size = pull_within (bounds_of v) path index

  pub run_few : (length (pull_run card v path index).seen.nodes ≤ nodes_most (part_count path))
      × (length (pull_run card v path index).seen.blocks ≤ blocks_most (part_count path))
  unfolding pull_run
  run_few = few_listed (view_of card v) (walk_of v path index) size

  pub run_rises : Rising (pull_run card v path index).seen.nodes × Rising (pull_run card v path index).seen.blocks
  unfolding pull_run
  run_rises = run_rising (view_of card v) empty (walk_of v path index) (tt, tt)

  -- every block that is read lies in the main area
  pub run_inside : AllOf (λ b. in_main (bounds_of v) b ≡ true) (pull_run card v path index).seen.blocks
  unfolding pull_run
  run_inside = run_reads (view_of card v) empty (walk_of v path index) size tt

  pub run_ended : Ended Counted (pull_run card v path index).value
  unfolding pull_run
  run_ended = run_value (view_of card v) empty (walk_of v path index) size

  run_exact : ((n : ℕ) → Memᴰ n (pull_run card v path index).seen.nodes ↔ AsksNode (view_of card v) (walk_of v path index) n)
      × ((b : ℕ) → Memᴰ b (pull_run card v path index).seen.blocks ↔ AsksBlock (view_of card v) (walk_of v path index) b)
  unfolding pull_run
  run_exact = (nodes_exact (view_of card v) (walk_of v path index), blocks_exact (view_of card v) (walk_of v path index))

  root_asked : AsksNode (view_of card v) (walk_of v path index) ino_of_root
  unfolding pull_walk named_file_walk names_walk directory_walk node_walk and_then bind AsksNode
  root_asked = go (parts_of path) (some_part path)
    where
      go : (names : List (List ℕ)) → 1 ≤ length names → AsksNode (view_of card v) (named_file_walk (bounds_of v) names index ino_of_root) ino_of_root
      go [] some = absurd (omega arith)
      go (name ∷ names) some = inl refl

  -- the root is looked up first, so the node list is never empty
  pub run_root : Memᴰ ino_of_root (pull_run card v path index).seen.nodes
  run_root = (run_exact.0 ino_of_root).1 root_asked

  pub run_some : 1 ≤ length (pull_run card v path index).seen.nodes
  run_some = mem_some run_root

-- ---- every pull

-- A pull is refused with 4 to 8, or the card opens and its walk's result is written.
pub data PullEnds (image path : List ℕ) (index : ℕ) (lent : Lent) (r : Result) : Type 0 where
  refusal : (answer : ℕ) → 4 ≤ answer → answer ≤ 8 → r ≡ refused_pull answer lent → PullEnds image path index lent r
  walked : (v : Volume) → call_in_shape image path lent ≡ true → opened_image image ≡ Opened v
      → r ≡ written (pull_run (card_of image) v path index) lent → PullEnds image path index lent r

module _ (image path : List ℕ) (index : ℕ) (lent : Lent) where
  pub ends : PullEnds image path index lent (pulled image path index lent)
  ends = go (call_in_shape image path lent) refl (opened_image image) refl
    where
      go : (b : Bool) → call_in_shape image path lent ≡ b → (o : Opening) → opened_image image ≡ o → PullEnds image path index lent
          (pulled image path index lent)
      go false e o f = refusal 4 (omega arith) (omega arith) (call_refused image path index lent e)
      go true e (Refused answer) f =
          let few = refusals image answer f in
          refusal answer few.0 few.1 (call_opens image path index lent (Refused answer) e f)
      go true e (Opened v) f = walked v e f (call_opens image path index lent (Opened v) e f)

  -- "With k names at most 175k + 4 node numbers and 233k + 5 blocks are listed"
  pub counts : let r = (pulled image path index lent).numbers in
      (r.node_count ≤ nodes_most (part_count path)) × (r.block_count ≤ blocks_most (part_count path))
  counts = go ends
    where
      go : {r : Result} → PullEnds image path index lent r
          → (r.numbers.node_count ≤ nodes_most (part_count path)) × (r.numbers.block_count ≤ blocks_most (part_count path))
      go (refusal answer p q e) = rw e (omega arith, omega arith)
      go (walked v p q e) = rw e (run_few (card_of image) v path index)

  -- "each once, rising"
  pub rising : Rising (entries (nodes_left (pulled image path index lent))) × Rising (entries (blocks_left (pulled image path index lent)))
  unfolding numbers
  rising = go ends
    where
      go : {r : Result} → PullEnds image path index lent r → Rising (entries (nodes_left r)) × Rising (entries (blocks_left r))
      go (refusal answer p q e) = rw e (tt, tt)
      go (walked v p q e) =
          let runs = (pull_run (card_of image) v path index).seen in
          rw (e, numbers_over runs.nodes lent.nodes, numbers_over runs.blocks lent.blocks) (run_rises (card_of image) v path index)

  -- ".. the main-area blocks read": each listed block lies in the main area of the card that was opened
  pub in_main_lem : (v : Volume) → opened_image image ≡ Opened v → AllOf (λ b. in_main (bounds_of v) b ≡ true)
      (entries (blocks_left (pulled image path index lent)))
  unfolding numbers
  in_main_lem v opens = go ends
    where
      go : {r : Result} → PullEnds image path index lent r → AllOf (λ b. in_main (bounds_of v) b ≡ true) (entries (blocks_left r))
      go (refusal answer p q e) = rw e tt
      go (walked u p q e) =
          let same : u ≡ v = cc in
          rw (e, numbers_over (pull_run (card_of image) u path index).seen.blocks lent.blocks, same) (run_inside (card_of image) v path index)

  -- "Its lists hold exactly the node numbers looked up and the main-area blocks read": a number is listed if and only if the walk,
  -- run on this card, asked it
  pub exactly : (v : Volume) → opened_image image ≡ Opened v → call_in_shape image path lent ≡ true
      → ((n : ℕ) → Memᴰ n (entries (nodes_left (pulled image path index lent))) ↔ AsksNode (view_of (card_of image) v) (walk_of v path index) n)
      × ((b : ℕ) → Memᴰ b (entries (blocks_left (pulled image path index lent))) ↔ AsksBlock (view_of (card_of image) v) (walk_of v path index) b)
  exactly v opens shape =
      let runs = (pull_run (card_of image) v path index).seen in
      rw (call_opens image path index lent (Opened v) shape opens, numbers_over runs.nodes lent.nodes, numbers_over runs.blocks lent.blocks)
      (run_exact (card_of image) v path index)

  -- the answer is a number of the table, and "a byte count 1 to 4,096" goes with 0 and 1 alone
  pub answers : Answered (pulled image path index lent).numbers.answer (pulled image path index lent).numbers.byte_count
  answers = go ends
    where
      ended : (o : Outcome Block) → Ended Counted o → Answered (answer_of o) (count_of o)
      ended (ok b) q = let few = content_few b.content in (omega arith, λ _. q, λ l. absurd (omega arith))
      ended (stop answer) q = let inside = ending_inside answer q in (inside.1, λ l. absurd (omega arith), λ _. refl)

      go : {r : Result} → PullEnds image path index lent r → Answered r.numbers.answer r.numbers.byte_count
      go (refusal answer p q e) = rw e (omega arith, λ l. absurd (omega arith), λ _. refl)
      go (walked v p q e) = rw e (ended (pull_run (card_of image) v path index).value (run_ended (card_of image) v path index))

  -- "A refused pull leaves the block buffer untouched": every answer but 0 and 1 does
  pub untouched : 2 ≤ (pulled image path index lent).numbers.answer → (pulled image path index lent).memory.block ≡ lent.block
  untouched = go ends
    where
      outcome : (o : Outcome Block) → 2 ≤ answer_of o → buffer_after o lent.block ≡ lent.block
      outcome (ok b) l = let few = content_few b.content in absurd (omega arith)
      outcome (stop answer) l = refl

      go : {r : Result} → PullEnds image path index lent r → 2 ≤ r.numbers.answer → r.memory.block ≡ lent.block
      go (refusal answer p q e) = rw e (λ l. refl)
      go (walked v p q e) = rw e (outcome (pull_run (card_of image) v path index).value)
