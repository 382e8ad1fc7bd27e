-- K10: "Fed the image's blocks, it gives the answer, bytes and lists that the whole-image pull gives."
use Prim.Native.Nat.{ℕ, ◌+◌, ◌%◌, ◌≤◌, ◌<◌}
use native.Mathlib.Omega.{arith}
use mathlib.Core.Path.{◌≡◌, refl, sym, ap, ◌∙◌, subst}
use mathlib.Core.Bool.{Bool, true, false, ◌&&◌, and-false, or-true}
use mathlib.Core.List.{List, []}
use mathlib.Core.Logic.{◌⊎◌, ⊎_elim}
use lib.ListN.{length, drop}
use lib.Dec.{eqb, leb, ltb}
use borrow.Author.Tests.{eqb-true, eqb-false, eq-eqb, ne_eqb, le-leb, leb-false, lt-ltb}
use Rattle.field.specs.Card.{card_of}
use Rattle.field.specs.Choice.{choose}
use Rattle.field.proofs.Choosing.{either, clash}
use Rattle.field.proofs.Blocks.{length_block}
use Rattle.list.proofs.Entries.{length_numbers}
use Rattle.path.specs.Path.{part_count, name_count}
use Rattle.path.proofs.Counting.{count_parts}
use Rattle.walk.specs.Walk.{Seen, ran, stop, ending}
use Rattle.inode.specs.Inode.{inline_start}
use Rattle.node.specs.Block.{hole, held}
use Rattle.superblock.specs.Shape.{in_shape}
use Rattle.pull.specs.Pull.{nodes_most, blocks_most, Lent, lent_in_shape, call_in_shape, refused_pull, pulled}
use Rattle.asking.specs.Asking.{answer, fed, Few}
use Rattle.asking.specs.Pull.{Ending, refused, came, start_in_shape, read_ask, EndingIn, result_of}
use Rattle.asking.proofs.Growing.{few_answered}
use Rattle.asking.proofs.Theorems as a
use Rattle.reader_state.specs.declared.At.{At}
use Rattle.reader_state.specs.Resume.{Memory, came_with, ending_by}
use Rattle.reader_state.specs.Fits.{EndIn, FitsBy}
use Rattle.reader.specs.declared.Reader.{Reader}
use Rattle.reader.specs.Reading.{memory_in, seen_by, resume, Started}
use Rattle.reader.specs.Given.{Given, Taken, Driven}
use Rattle.reader.proofs.Starting.{refused_start}
use Rattle.reader.proofs.GivenStates.{answered_left, given_more}
use Rattle.reader.proofs.Theorems.{blocks_asked, shaped_path, start_gives, path_stays, taken_gives, answer_there}
use Rattle.reader.proofs.Theorems.{driven_given, driven_fed, driven_path, driven_in_time}
use Rattle.reader_result.specs.Result.{names_in, answer_fits, readable, read_out}
use Rattle.reader_result.proofs.Endings.{read_in_shape}

-- ---- what is known of an answer, by its kind

-- a number that ends a walk is at most 14
ending_most : (n : ℕ) → ending n ≡ true → leb n 14 ≡ true
ending_most n h = ⊎_elim (λ e. e) more (either (leb n 14))
  where
    more : leb n 14 ≡ false → leb n 14 ≡ true
    more e =
        let above : 14 < n = leb-false n 14 e in
        let two : eqb n 2 ≡ false = ne_eqb n 2 (λ q. omega arith) in
        let three : eqb n 3 ≡ false = ne_eqb n 3 (λ q. omega arith) in
        absurd (clash h (rw (two, three, e, and-false)))

module _ (k : ℕ) (at : At) (m : Memory) (nodes blocks : List ℕ) where
  abbrev seen : Seen
  seen = seen_by at nodes blocks

  -- the ending, by the tests of its kind
  abbrev by_kind : Bool → Bool → Bool → Bool → Ending
  by_kind p q u v =
      choose p (refused at.answer)
      (choose q (came (ran (stop at.answer) seen))
      (choose u (came_with at.byte_count hole seen)
      (choose v (came_with at.byte_count (held m.held) seen) (came_with at.byte_count (held (drop inline_start m.held)) seen))))

  abbrev CountsIn : Type 0
  CountsIn = (at.node_count ≤ nodes_most k) × (at.block_count ≤ blocks_most k)

  listed_in : length seen.nodes ≤ nodes_most k → length seen.blocks ≤ blocks_most k → CountsIn
  listed_in x y =
      let a = length_numbers nodes 0 at.node_count in
      let b = length_numbers blocks 0 at.block_count in
      (omega arith, omega arith)

  -- the lists are no longer than the names can make them
  counts_in_lem : EndIn at → EndingIn k (ending_by at m seen) → CountsIn
  unfolding ending_by
  counts_in_lem end known = go (eqb at.stage 0) (eqb at.stage 1) (eqb at.stage 2) (eqb at.stage 3) refl known
    where
      go : (p q u v : Bool) → eqb at.stage 0 ≡ p → EndingIn k (by_kind p q u v) → CountsIn
      go true q u v e c = let none = end.counts (eqb-true at.stage 0 e) in let x = none.0 in let y = none.1 in (omega arith, omega arith)
      go false true u v e c = listed_in c.nodes_fit c.blocks_fit
      go false false true v e c = listed_in c.nodes_fit c.blocks_fit
      go false false false true e c = listed_in c.nodes_fit c.blocks_fit
      go false false false false e c = listed_in c.nodes_fit c.blocks_fit

  -- the number is an answer
  answer_in_lem : EndingIn k (ending_by at m seen) → answer_fits at.stage at.answer ≡ true
  unfolding ending_by
  answer_in_lem known = go (eqb at.stage 0) (eqb at.stage 1) (eqb at.stage 2) (eqb at.stage 3) refl refl known
    where
      fits : leb at.answer 14 ≡ true → answer_fits at.stage at.answer ≡ true
      fits e = rw e (or-true (ltb 1 at.stage))

      late : (at.stage ≡ 0 → ⊥) → (at.stage ≡ 1 → ⊥) → answer_fits at.stage at.answer ≡ true
      late x y = rw (lt-ltb 1 at.stage (omega arith))

      go : (p q u v : Bool) → eqb at.stage 0 ≡ p → eqb at.stage 1 ≡ q → EndingIn k (by_kind p q u v) → answer_fits at.stage at.answer ≡ true
      go true q u v e f c = fits (le-leb at.answer 14 (let most = c.1 in omega arith))
      go false true u v e f c = fits (ending_most at.answer c.ended)
      go false false u v e f c = late (eqb-false at.stage 0 e) (eqb-false at.stage 1 f)

-- ---- pulls that are refused with 4
pulled_unfit : (image path : List ℕ) (index : ℕ) (lent : Lent) → lent_in_shape (part_count path) lent ≡ false → pulled image path index lent ≡ refused_pull 4
    lent
unfolding pulled call_in_shape
pulled_unfit image path index lent h = rw (h, and-false)

pulled_unshaped : (image path : List ℕ) (index : ℕ) (lent : Lent) → length image % 4096 ≡ 0 → start_in_shape (card_of image).blocks path ≡ false
    → pulled image path index lent ≡ refused_pull 4 lent
unfolding pulled call_in_shape in_shape start_in_shape
pulled_unshaped image path index lent whole shape = rw (eq-eqb _ _ whole, shape)

-- ---- an answer that is read
module _ {blocks k n : ℕ} {u : Reader} (g : Given blocks k n u) (there : u.at.asks ≡ 0) where
  abbrev ended : Ending
  ended = ending_by u.at (memory_in u) (seen_by u.at u.nodes u.blocks)

  known : EndingIn k ended
  known = few_answered (subst (Few (λ b. b < blocks) (EndingIn k) n) (answered_left u there) g.few)

  end : EndIn u.at
  end = subst (λ (t : Bool). FitsBy t u.at (memory_in u)) (eq-eqb u.at.asks 0 there) g.kept.fit

  pub read_given : (lent : Lent) → names_in u ≡ k → lent_in_shape k lent ≡ true → read_out u lent ≡ result_of ended lent
  unfolding read_out
  read_given lent names shape =
      let counts = subst (λ (j : ℕ). (u.at.node_count ≤ nodes_most j) × (u.at.block_count ≤ blocks_most j)) (sym names)
      (counts_in_lem k u.at (memory_in u) u.nodes u.blocks end known)
      in
      let is = answer_in_lem k u.at (memory_in u) u.nodes u.blocks known in
      let path : (eqb u.at.asks 0 && leb u.at.path_length 2048) ≡ true = rw (eq-eqb _ _ there, le-leb _ _ g.kept.path) in
      rw (read_in_shape u lent path (rw names shape) counts.0 counts.1 end.bytes is)

-- out of shape, and for a refusal with 4, the result is 4 and nothing is written
pub unfit_read : (u : Reader) (lent : Lent) → lent_in_shape (names_in u) lent ≡ false → read_out u lent ≡ refused_pull 4 lent
unfolding read_out readable
unfit_read u lent shape = rw (shape, and-false)

refusal_read : (u : Reader) (lent : Lent) → ending_by u.at (memory_in u) (seen_by u.at u.nodes u.blocks) ≡ refused 4
    → read_out u lent ≡ refused_pull 4 lent
unfolding read_out
refusal_read u lent e = rw e (go (readable u lent))
  where
    go : (t : Bool) → choose t (refused_pull 4 lent) (refused_pull 4 lent) ≡ refused_pull 4 lent
    go true = refl
    go false = refl

-- so it is after bytes of another length
pub length_read : (u : Reader) (lent : Lent) → resume u ≡ answer (refused 4) → read_out u lent ≡ refused_pull 4 lent
unfolding fed
length_read u lent left =
    let nothing : ℕ → List ℕ = λ b. [] in
    refusal_read u lent (ap (fed nothing) (sym (answered_left u (answer_there u left)) ∙ left))

-- ---- fed other bytes: the result is an answer in form
pub taken_read : {blocks : ℕ} {path : List ℕ} {index : ℕ} {r u : Reader} → Started blocks path index r → start_in_shape blocks path ≡ true
    → (ls : List (List ℕ)) → Taken r ls u → u.at.asks ≡ 0 → (lent : Lent) → lent_in_shape (name_count path) lent ≡ true
    → (x : Ending) × EndingIn (name_count path) x × (read_out u lent ≡ result_of x lent)
taken_read {u = u} s shape ls taken there lent fits =
    let given = taken_gives s ls taken in
    let same = ap name_count (path_stays ls taken ∙ s.given shape) in
    (ending_by u.at (memory_in u) (seen_by u.at u.nodes u.blocks), known given there, read_given given there lent same fits)

-- ---- fed the image's blocks, up to the answer
module _ (image path : List ℕ) (index : ℕ) (whole : length image % 4096 ≡ 0) {r u : Reader} (s : Started (card_of image).blocks path index r) (n : ℕ)
    (fed_to : Driven (card_of image).block r n u) (there : u.at.asks ≡ 0) where
  abbrev names : ℕ
  names = name_count path

  given : Given (card_of image).blocks names (blocks_asked names) u
  given = driven_given n (given_more (n + blocks_asked names) (omega arith) (start_gives s)) fed_to

  came_to : ending_by u.at (memory_in u) (seen_by u.at u.nodes u.blocks) ≡ fed (card_of image).block (read_ask (card_of image).blocks path index)
  unfolding fed
  came_to =
      ap (fed (card_of image).block) (sym (answered_left u there))
      ∙ driven_fed (card_of image).block (length_block image) (blocks_asked names) n (given_more (n + blocks_asked names) (omega arith) (start_gives s)) fed_to
      ∙ ap (fed (card_of image).block) s.left

  -- the answer, every number and every lent byte, in memory of any shape
  pub same_as_pull : (lent : Lent) → read_out u lent ≡ pulled image path index lent
  unfolding fed
  same_as_pull lent = ⊎_elim shaped unshaped (either (start_in_shape (card_of image).blocks path))
    where
      shaped : start_in_shape (card_of image).blocks path ≡ true → read_out u lent ≡ pulled image path index lent
      shaped shape = ⊎_elim fits unfit (either (lent_in_shape names lent))
        where
          same : names_in u ≡ names
          same = ap name_count (driven_path n fed_to ∙ s.given shape)

          parts : names ≡ part_count path
          parts = count_parts path (shaped_path (card_of image).blocks path shape)

          fits : lent_in_shape names lent ≡ true → read_out u lent ≡ pulled image path index lent
          fits h =
              read_given given there lent same h ∙ ap (λ (x : Ending). result_of x lent) came_to
              ∙ a.same_as_pull image path index lent whole (λ _. rw parts at h)

          unfit : lent_in_shape names lent ≡ false → read_out u lent ≡ pulled image path index lent
          unfit h = unfit_read u lent (rw same h) ∙ sym (pulled_unfit image path index lent (rw parts at h))

      unshaped : start_in_shape (card_of image).blocks path ≡ false → read_out u lent ≡ pulled image path index lent
      unshaped shape =
          refusal_read u lent (came_to ∙ ap (fed (card_of image).block) (refused_start (card_of image).blocks path index shape))
          ∙ sym (pulled_unshaped image path index lent whole shape)

-- .. which is there after 408k + 16 blocks at most
pub read_in_time : (image path : List ℕ) (index : ℕ) → length image % 4096 ≡ 0 → {r u : Reader} → Started (card_of image).blocks path index r → (n : ℕ)
    → Driven (card_of image).block r n u → blocks_asked (name_count path) ≤ n → (lent : Lent) → read_out u lent ≡ pulled image path index lent
read_in_time image path index whole s n on enough lent = same_as_pull image path index whole s n on (driven_in_time n s on enough) lent
