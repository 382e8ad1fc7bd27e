-- What is so of every run: first of every call, whatever comes, then of those that got past opening, beside single pulls of the same card.
-- Each is stated over `run_pulled`, the definition that the contract cites, and over `pulled`, the single pull's.
use Prim.Native.Nat.{ℕ, ◌+◌, ◌*◌, ◌≤◌, ◌<◌}
use native.Mathlib.Omega.{arith}
use mathlib.Core.Path.{◌≡◌, refl, sym, ap, subst, ◌∙◌}
use mathlib.Core.Bool.{Bool, true, false, and-false}
use borrow.Author.Tests.{lt-leb, ne_eqb}
use mathlib.Core.Logic.{◌↔◌}
use mathlib.Core.List.{List, [], ◌∷◌, ◌++◌, Memᴰ}
use lib.ListN.{length, take, drop, replicate, length-replicate}
use lib.Seq.{drop-append-add}
use Rattle.field.specs.Card.{card_of}
use Rattle.checkpoint.specs.declared.Volume.{Volume}
use Rattle.checkpoint.specs.Volume.{Opening, Opened, Refused, opened_image}
use Rattle.checkpoint.proofs.Inside.{refusals, image_volume}
use Rattle.path.specs.Path.{part_count}
use Rattle.list.specs.Lists.{union, AllOf, Rising, numbers, Listed, entries}
use Rattle.list.proofs.Written.{numbers_over}
use Rattle.walk.specs.Walk.{view_of, empty, Seen, union_seen, Ran, Outcome, ok, stop, Ended, BothRise}
use Rattle.walk.proofs.Runs.{run_rising}
use Rattle.node.specs.Node.{bounds_of, in_main}
use Rattle.pull.specs.Walk.{Block, pull_walk}
use Rattle.pull.specs.Pull.{Lent, Result, lent_in_shape, content_bytes, answer_of, count_of, buffer_after, written, nodes_left, blocks_left, pull_run, pulled}
use Rattle.pull.proofs.Results.{call_in_shape_lem, call_opens}
use Rattle.pull.proofs.Sizes.{Counted}
use Rattle.pull.proofs.Theorems.{ending_inside, content_few, run_ended}
use Rattle.pull.proofs.Whole.{buffer_length}
use Rattle.file_run.specs.Standing.{Standing, many_walk, bytes_standing, last_count}
use Rattle.pull_run.specs.Run.{run_nodes_most, run_blocks_most, run_in_shape, run_call_in_shape, run_pulls, RunResult, run_nodes_left, run_blocks_left}
use Rattle.pull_run.specs.Run.{refused_run, run_written, run_pulled}
use Rattle.pull_run.proofs.Pulls.{run_is}
use Rattle.pull_run.proofs.Results.{few_wanted, pulls_few, run_refused, run_opens, run_image_shape, run_path_shape, run_lent_shape}
use Rattle.pull_run.proofs.Sizes.{run_inside}
use Rattle.pull_run.proofs.Stood as stood

-- ---- every run

-- A run is out of shape, or opening refuses the card, or what single pulls come to is written.
pub data RunEnds (image path : List ℕ) (index wanted : ℕ) (lent : Lent) (r : RunResult) : Type 0 where
  out_of_shape : run_call_in_shape image path wanted lent ≡ false → r ≡ refused_run 4 lent → RunEnds image path index wanted lent r
  not_opened : (answer : ℕ) → opened_image image ≡ Refused answer → 4 ≤ answer → answer ≤ 8 → r ≡ refused_run answer lent
      → RunEnds image path index wanted lent r
  walked : (v : Volume) → run_call_in_shape image path wanted lent ≡ true → opened_image image ≡ Opened v
      → r ≡ run_written (run_pulls (card_of image) v path index wanted) lent → RunEnds image path index wanted lent r

module _ (image path : List ℕ) (index wanted : ℕ) (lent : Lent) where
  pub run_ends : RunEnds image path index wanted lent (run_pulled image path index wanted lent)
  run_ends = go (run_call_in_shape image path wanted lent) refl (opened_image image) refl
    where
      go : (b : Bool) → run_call_in_shape image path wanted lent ≡ b → (o : Opening) → opened_image image ≡ o
          → RunEnds image path index wanted lent (run_pulled image path index wanted lent)
      go false e o f = out_of_shape e (run_refused image path index wanted lent e)
      go true e (Refused answer) f =
          let few = refusals image answer f in
          not_opened answer f few.0 few.1 (run_opens image path index wanted lent (Refused answer) e f)
      go true e (Opened v) f = walked v e f (run_opens image path index wanted lent (Opened v) e f)

  -- "A run of 0 or over 512 blocks, or a buffer not 4,096 bytes a block, is 4"
  out_of_shape_lem : run_in_shape (part_count path) wanted lent ≡ false → run_pulled image path index wanted lent ≡ refused_run 4 lent
  unfolding run_call_in_shape
  out_of_shape_lem out = run_refused image path index wanted lent (rw (out, and-false) refl)

  pub none_wanted : wanted ≡ 0 → run_pulled image path index wanted lent ≡ refused_run 4 lent
  unfolding run_in_shape
  none_wanted none = out_of_shape_lem (rw none refl)

  pub over_512 : 512 < wanted → run_pulled image path index wanted lent ≡ refused_run 4 lent
  unfolding run_in_shape
  over_512 many = out_of_shape_lem (rw (lt-leb wanted 512 many, and-false) refl)

  pub another_buffer : (length lent.block ≡ 4096 * wanted → ⊥) → run_pulled image path index wanted lent ≡ refused_run 4 lent
  unfolding run_in_shape
  another_buffer other = out_of_shape_lem (rw (ne_eqb (length lent.block) (4096 * wanted) other, and-false) refl)

  -- "With k names the lists need room for 175k + 6 and 233k + 518": no run lists more
  pub run_counts : let r = (run_pulled image path index wanted lent).numbers in
      (r.node_count ≤ run_nodes_most (part_count path)) × (r.block_count ≤ run_blocks_most (part_count path))
  run_counts = go run_ends
    where
      go : {r : RunResult} → RunEnds image path index wanted lent r
          → (r.numbers.node_count ≤ run_nodes_most (part_count path)) × (r.numbers.block_count ≤ run_blocks_most (part_count path))
      go (out_of_shape h e) = rw e (omega arith, omega arith)
      go (not_opened answer o p q e) = rw e (omega arith, omega arith)
      go (walked v p q e) =
          let few = few_wanted (part_count path) wanted lent (run_lent_shape image path index wanted lent p) in
          rw e (pulls_few (card_of image) v path index wanted few)

  -- each list rises
  pub run_rises : Rising (entries (run_nodes_left (run_pulled image path index wanted lent)))
      × Rising (entries (run_blocks_left (run_pulled image path index wanted lent)))
  unfolding numbers
  run_rises = go run_ends
    where
      go : {r : RunResult} → RunEnds image path index wanted lent r → Rising (entries (run_nodes_left r)) × Rising (entries (run_blocks_left r))
      go (out_of_shape h e) = rw e (tt, tt)
      go (not_opened answer o p q e) = rw e (tt, tt)
      go (walked v p q e) =
          let runs = (run_pulls (card_of image) v path index wanted).seen in
          rw (e, numbers_over runs.nodes lent.nodes, numbers_over runs.blocks lent.blocks)
          (subst (λ (r : Ran Standing). BothRise r.seen) (sym (run_is (card_of image) v path index wanted))
          (run_rising (view_of (card_of image) v) empty (many_walk (pull_walk (bounds_of v) path) wanted index) (tt, tt)))

  -- each listed block lies in the main area of the card that was opened
  pub run_in_main : (v : Volume) → opened_image image ≡ Opened v
      → AllOf (λ b. in_main (bounds_of v) b ≡ true) (entries (run_blocks_left (run_pulled image path index wanted lent)))
  unfolding numbers
  run_in_main v opens = go run_ends
    where
      go : {r : RunResult} → RunEnds image path index wanted lent r → AllOf (λ b. in_main (bounds_of v) b ≡ true) (entries (run_blocks_left r))
      go (out_of_shape h e) = rw e tt
      go (not_opened answer o p q e) = rw e tt
      go (walked u p q e) =
          let same : u ≡ v = cc in
          rw (e, numbers_over (run_pulls (card_of image) u path index wanted).seen.blocks lent.blocks, same)
          (subst (λ (r : Ran Standing). AllOf (λ b. in_main (bounds_of v) b ≡ true) r.seen.blocks) (sym (run_is (card_of image) v path index wanted))
          (run_inside (view_of (card_of image) v) (bounds_of v) path index wanted))

  -- the answer is a number of the pull's table, and never 1
  pub run_answer : ((run_pulled image path index wanted lent).numbers.answer ≤ 14) × ((run_pulled image path index wanted lent).numbers.answer ≡ 1 → ⊥)
  run_answer = go run_ends
    where
      by_end : (v : Volume) → stood.Ended (pull_run (card_of image) v path) wanted index (run_pulls (card_of image) v path index wanted).value
          → ((run_pulls (card_of image) v path index wanted).value.answer ≤ 14) × ((run_pulls (card_of image) v path index wanted).value.answer ≡ 1 → ⊥)
      by_end v (stood.full a l) = (omega arith, λ one. omega arith)
      by_end v (stood.short l e) =
          let inside = ending_inside _ (subst (Ended Counted) e (run_ended (card_of image) v path _)) in
          let least = inside.0 in
          (inside.1, λ one. omega arith)

      go : {r : RunResult} → RunEnds image path index wanted lent r → (r.numbers.answer ≤ 14) × (r.numbers.answer ≡ 1 → ⊥)
      go (out_of_shape h e) = rw e (omega arith, λ one. omega arith)
      go (not_opened answer o p q e) = rw e (omega arith, λ one. omega arith)
      go (walked v p q e) = rw e (by_end v (stood.ended (pull_run (card_of image) v path) wanted index))

-- ---- a run of a card that opens, beside single pulls of it, which may be lent any memory that a pull takes
module _ (image path : List ℕ) (index wanted : ℕ) (lent : Lent) (v : Volume) (shape : run_call_in_shape image path wanted lent ≡ true)
    (opens : opened_image image ≡ Opened v) where
  abbrev R : RunResult
  R = run_pulled image path index wanted lent

  abbrev one : ℕ → Ran (Outcome Block)
  one = pull_run (card_of image) v path

  runs : Ran Standing
  runs = run_pulls (card_of image) v path index wanted

  wrote : R ≡ run_written runs lent
  unfolding runs
  wrote = run_opens image path index wanted lent (Opened v) shape opens

  sized : (j : ℕ) (b : Block) → (one j).value ≡ ok b → length (content_bytes b.count b.content) ≡ 4096
  sized j b e =
      ap (λ (o : Outcome Block). length (buffer_after o (replicate 4096 0))) (sym e)
      ∙ buffer_length image v (image_volume image v opens) path j (replicate 4096 0) (length-replicate {A = ℕ} 4096 0)

  -- each block that stands has 4,096 bytes
  pub standing_length : length (bytes_standing (run_pulls (card_of image) v path index wanted).value.stand)
      ≡ 4096 * length (run_pulls (card_of image) v path index wanted).value.stand
  standing_length = stood.standing_sized one sized [] wanted index

  -- "the buffer behind them stays"
  pub behind_stays : drop (4096 * R.numbers.count) R.memory.block ≡ drop (4096 * R.numbers.count) lent.block
  unfolding runs
  behind_stays = rw wrote (go (bytes_standing runs.value.stand) (length runs.value.stand) standing_length)
    where
      go : (front : List ℕ) (n : ℕ) → length front ≡ 4096 * n → drop (4096 * n) (front ++ drop (4096 * n) lent.block) ≡ drop (4096 * n) lent.block
      go front n e =
          let at : 4096 * n ≡ length front + 0 = omega arith in
          ap (λ (k : ℕ). drop k (front ++ drop (4096 * n) lent.block)) at ∙ drop-append-add front (drop (4096 * n) lent.block) 0

  -- a block that stands is what its pull comes to
  pub stands_at : (i : ℕ) → i < R.numbers.count → stood.StandsAs (pull_run (card_of image) v path) index i R.memory.block
  unfolding runs
  stands_at i l =
      let less : i < length runs.value.stand = subst (λ (r : RunResult). i < r.numbers.count) wrote l in
      subst (λ (r : RunResult). stood.StandsAs one index i r.memory.block) (sym wrote)
      (stood.stands one sized (drop (4096 * length runs.value.stand) lent.block) wanted index i less)

  module _ (single : Lent) (takes : lent_in_shape (part_count path) single ≡ true) where
    -- pull i of the run, by itself
    abbrev P : ℕ → Result
    P i = pulled image path (index + i) single

    pub pull_wrote : (i : ℕ) → P i ≡ written (one (index + i)) single
    pull_wrote i =
        let s = call_in_shape_lem image path (index + i) single (run_image_shape image path index wanted lent shape)
        (run_path_shape image path index wanted lent shape) takes in
        call_opens image path (index + i) single (Opened v) s opens

    pub pull_count : (i : ℕ) {b : Block} → (one (index + i)).value ≡ ok b → (P i).numbers.byte_count ≡ b.count
    pull_count i value = ap (λ (r : Result). r.numbers.byte_count) (pull_wrote i) ∙ ap count_of value

    -- "Each block's bytes are what the single pull gives, holes not told apart"
    pub each_block : (i : ℕ) → i < R.numbers.count
        → ((P i).numbers.answer ≤ 1) × (take 4096 (drop (4096 * i) R.memory.block) ≡ (P i).memory.block)
    each_block i l =
        let s = stands_at i l in
        let p = pull_wrote i in
        let few = content_few s.block.content in
        let a : (P i).numbers.answer ≡ answer_of (ok s.block) = ap (λ (r : Result). r.numbers.answer) p ∙ ap answer_of s.value in (
          omega arith,
          s.bytes ∙ sym (ap (λ (r : Result). r.memory.block) p ∙ ap (λ (o : Outcome Block). buffer_after o single.block) s.value),
        )

    -- "the run stops at the first answer that isn't 0 or 1, answers it (else 0) with how many stand"
    pub data Answers : Type 0 where
      all_stand : R.numbers.answer ≡ 0 → R.numbers.count ≡ wanted → Answers
      stopped : R.numbers.count < wanted → 2 ≤ R.numbers.answer → R.numbers.answer ≡ (P R.numbers.count).numbers.answer → Answers

    pub answers : Answers
    unfolding runs
    answers = go (stood.ended one wanted index)
      where
        answer_is : R.numbers.answer ≡ runs.value.answer
        answer_is = ap (λ (r : RunResult). r.numbers.answer) wrote

        count_is : R.numbers.count ≡ length runs.value.stand
        count_is = ap (λ (r : RunResult). r.numbers.count) wrote

        go : stood.Ended one wanted index runs.value → Answers
        go (stood.full a l) = all_stand (answer_is ∙ a) (count_is ∙ l)
        go (stood.short l e) =
            let value : (one (index + R.numbers.count)).value ≡ stop runs.value.answer = ap (λ (n : ℕ). (one (index + n)).value) count_is ∙ e in
            let least = (ending_inside runs.value.answer
            (subst (Ended Counted) value (run_ended (card_of image) v path (index + R.numbers.count)))).0 in
            stopped (omega (arith, count_is)) (omega (arith, answer_is))
            (answer_is ∙ sym (ap (λ (r : Result). r.numbers.answer) (pull_wrote R.numbers.count) ∙ ap answer_of value))

    -- "and the last one's byte count"
    pub last_count_lem : (i : ℕ) → R.numbers.count ≡ i + 1 → R.numbers.byte_count ≡ (P i).numbers.byte_count
    unfolding runs
    last_count_lem i l =
        let s = stood.last_stands one wanted index i (sym (ap (λ (r : RunResult). r.numbers.count) wrote) ∙ l) in
        ap (λ (r : RunResult). r.numbers.byte_count) wrote
        ∙ s.counts
        ∙ sym (pull_count i s.value)

    -- one of the pulls that were made lists it: of a block that stands, or the one that ended the run
    pub record ListedBy (of : Result → Listed) (x : ℕ) : Type 0 where
      pub at : ℕ
      pub wants : at < wanted
      pub reached : at ≤ R.numbers.count
      pub listed : Memᴰ x (entries (of (P at)))

    -- `of` takes one of the two lists of a walk, `left` and `own` the same of a run's result and of a pull's
    module _ (of : Seen → List ℕ) (joins : (s t : Seen) → of (union_seen s t) ≡ union (of s) (of t)) (none : of empty ≡ [])
        (own : Result → Listed) (own_is : (i : ℕ) → entries (own (P i)) ≡ of (one (index + i)).seen)
        (left : Listed) (left_is : entries left ≡ of runs.seen) where
      together : (x : ℕ) → Memᴰ x (entries left) ↔ ListedBy own x
      unfolding runs
      together x = (λ m. down (all.0 (subst (Memᴰ x) left_is m)), λ l. subst (Memᴰ x) (sym left_is) (all.1 (up l)))
        where
          all : Memᴰ x (of runs.seen) ↔ stood.Lists one of wanted index x runs.value
          all = stood.listed_together one of joins none x wanted index

          count_is : R.numbers.count ≡ length runs.value.stand
          count_is = ap (λ (r : RunResult). r.numbers.count) wrote

          down : stood.Lists one of wanted index x runs.value → ListedBy own x
          down l =
              let reached = l.made.reached in
              record {
                at = l.at;
                wants = l.made.wanted;
                reached = omega (arith, count_is);
                listed = subst (Memᴰ x) (sym (own_is l.at)) l.listed;
              }

          up : ListedBy own x → stood.Lists one of wanted index x runs.value
          up l =
              let reached = l.reached in
              record {
                at = l.at;
                made = record { wanted = l.wants; reached = omega (arith, count_is) };
                listed = subst (Memᴰ x) (own_is l.at) l.listed;
              }

    -- "the lists are the union, the last pull's included"
    pub nodes_together : (x : ℕ) → Memᴰ x (entries (run_nodes_left R)) ↔ ListedBy nodes_left x
    nodes_together =
        together (λ s. s.nodes) (λ s t. refl) refl nodes_left
        (λ i. ap (λ (r : Result). entries (nodes_left r)) (pull_wrote i) ∙ numbers_over (one (index + i)).seen.nodes single.nodes)
        (run_nodes_left R) (ap (λ (r : RunResult). entries (run_nodes_left r)) wrote ∙ numbers_over runs.seen.nodes lent.nodes)

    pub blocks_together : (x : ℕ) → Memᴰ x (entries (run_blocks_left R)) ↔ ListedBy blocks_left x
    blocks_together =
        together (λ s. s.blocks) (λ s t. refl) refl blocks_left
        (λ i. ap (λ (r : Result). entries (blocks_left r)) (pull_wrote i) ∙ numbers_over (one (index + i)).seen.blocks single.blocks)
        (run_blocks_left R) (ap (λ (r : RunResult). entries (run_blocks_left r)) wrote ∙ numbers_over runs.seen.blocks lent.blocks)

  -- "the last one's byte count": 0 if none stands
  pub none_count : R.numbers.count ≡ 0 → R.numbers.byte_count ≡ 0
  none_count l = ap (λ (r : RunResult). r.numbers.byte_count) wrote ∙ go runs.value.stand (sym (ap (λ (r : RunResult). r.numbers.count) wrote) ∙ l)
    where
      go : (bs : List Block) → length bs ≡ 0 → last_count bs ≡ 0
      go [] e = refl
      go (b ∷ bs) e = absurd (omega arith)
