-- K10 of the reader's states: it answers in time, never asks outside the card, repeats its answer, and takes 4,096 bytes at a time.
use Prim.Native.Nat.{ℕ, zero, suc, ◌+◌, ◌*◌, ◌≤◌, ◌<◌}
use native.Mathlib.Omega.{arith}
use mathlib.Core.Path.{◌≡◌, refl, sym, ap, ◌∙◌, subst}
use mathlib.Core.Bool.{Bool, true, false, ◌&&◌, and-false}
use mathlib.Core.List.{List, [], ◌∷◌}
use mathlib.Core.Logic.{◌⊎◌, inl, inr, ⊎_elim}
use lib.ListN.{length}
use lib.Dec.{eqb, leb}
use borrow.Author.Tests.{eqb-true, eqb-false}
use Rattle.field.proofs.Choosing.{either, clash, needed}
use Rattle.superblock.specs.Shape.{most_blocks}
use Rattle.path.specs.Path.{is_path, name_count}
use Rattle.path.proofs.Counting.{count_parts, count_few}
use Rattle.asking.specs.Asking.{Asking, answer, ask, fed, Few, ends, asks}
use Rattle.asking.specs.Pull.{Ending, refused, start_in_shape, read_ask, fed_with, EndingIn}
use Rattle.asking.proofs.Driving.{wrong_length, goes_on_lem}
use Rattle.asking.proofs.Theorems.{few_read}
use Rattle.reader.specs.declared.Reader.{Reader}
use Rattle.reader.specs.Reading.{resume, path_of, Started, Stepped}
use Rattle.reader.specs.Given.{Given, Taken, Driven}
use Rattle.reader.specs.Given as g
use Rattle.reader.proofs.Starting.{refused_start}
use Rattle.reader.proofs.GivenStates.{asked_left, step_left, given_step, given_more}

abbrev is_answer : Asking Ending → Bool
is_answer (answer x) = true
is_answer (ask b k) = false

-- "at most 408k + 16 blocks for k names"
abbrev pub blocks_asked : ℕ → ℕ
blocks_asked k = 408 * k + 16

-- the path of a start in shape is one
pub shaped_path : (blocks : ℕ) (path : List ℕ) → start_in_shape blocks path ≡ true → is_path path ≡ true
unfolding start_in_shape
shaped_path blocks path shape = needed {t = is_path path} (λ e. rw e (and-false (leb 2 blocks && leb blocks most_blocks))) shape

-- ---- the start gives such a state: "claimed of states that the start or a step gave"
module _ {blocks : ℕ} {path : List ℕ} {index : ℕ} {r : Reader} (s : Started blocks path index r) where
  few_start : Few (λ b. b < blocks) (EndingIn (name_count path)) (blocks_asked (name_count path)) (read_ask blocks path index)
  few_start = ⊎_elim whole refusal (either (start_in_shape blocks path))
    where
      whole : start_in_shape blocks path ≡ true → Few (λ b. b < blocks) (EndingIn (name_count path)) (blocks_asked (name_count path))
          (read_ask blocks path index)
      whole shape =
          let names = sym (count_parts path (shaped_path blocks path shape)) in
          subst (λ (k : ℕ). Few (λ b. b < blocks) (EndingIn k) (blocks_asked k) (read_ask blocks path index)) names (few_read blocks path index)

      refusal : start_in_shape blocks path ≡ false → Few (λ b. b < blocks) (EndingIn (name_count path)) (blocks_asked (name_count path))
          (read_ask blocks path index)
      refusal shape =
          subst (Few (λ b. b < blocks) (EndingIn (name_count path)) (blocks_asked (name_count path))) (sym (refused_start blocks path index shape))
          (ends {a = refused 4} (omega arith, omega arith))

  pub start_gives : Given blocks (name_count path) (blocks_asked (name_count path)) r
  start_gives =
      record {
        kept = s.kept;
        few = subst (Few (λ b. b < blocks) (EndingIn (name_count path)) (blocks_asked (name_count path))) (sym s.left) few_start;
        names = count_few path;
      }

-- ---- so does every step after it, whatever comes
pub steps_give : {blocks k n : ℕ} {r u : Reader} (ls : List (List ℕ)) → Given blocks k (length ls + n) r → Taken r ls u → Given blocks k n u
steps_give {n = n} [] given g.here = given_more n (omega arith) given
steps_give {n = n} (l ∷ ls) given (g.next s on) = steps_give ls (given_step (given_more (suc (length ls + n)) (omega arith) given) s) on

pub path_stays : {r u : Reader} (ls : List (List ℕ)) → Taken r ls u → path_of u ≡ path_of r
path_stays [] g.here = refl
path_stays (l ∷ ls) (g.next s on) = path_stays ls on ∙ s.path

-- where no block may be asked for any more, the answer is there
none_left : {P : ℕ → Type 0} {Q : Ending → Type 0} {b : ℕ} {k : List ℕ → Asking Ending} {n : ℕ} → n ≡ 0 → Few P Q n (ask b k) → ⊥
none_left e (asks p h) = absurd (omega arith)

asked_in : {P : ℕ → Type 0} {Q : Ending → Type 0} {n b : ℕ} {k : List ℕ → Asking Ending} → Few P Q n (ask b k) → P b
asked_in (asks p h) = p

module _ {blocks k : ℕ} {r : Reader} where
  none_asks : Given blocks k 0 r → r.at.asks ≡ 0
  none_asks given = ⊎_elim (eqb-true r.at.asks 0) more (either (eqb r.at.asks 0))
    where
      more : eqb r.at.asks 0 ≡ false → r.at.asks ≡ 0
      more e =
          let asks = eqb-false r.at.asks 0 e in
          absurd (none_left {n = 0} refl (subst (Few (λ b. b < blocks) (EndingIn k) 0) (asked_left r asks) given.few))

  on_card_lem : {n : ℕ} → Given blocks k n r → (r.at.asks ≡ 0 → ⊥) → r.at.block < blocks
  on_card_lem {n = n} given more = asked_in (subst (Few (λ b. b < blocks) (EndingIn k) n) (asked_left r more) given.few)

module _ {blocks : ℕ} {path : List ℕ} {index : ℕ} {r u : Reader} (s : Started blocks path index r) (ls : List (List ℕ)) (taken : Taken r ls u) where
  -- "Fed other bytes it still answers, after at most 408k + 16 blocks for k names", also bytes that change from one ask to the next
  pub answers_in_time : blocks_asked (name_count path) ≤ length ls → u.at.asks ≡ 0
  answers_in_time enough = none_asks (steps_give ls (given_more (length ls + 0) (omega arith) (start_gives s)) taken)

  -- "A block number outside the card is never asked for."
  pub never_outside : (u.at.asks ≡ 0 → ⊥) → u.at.block < blocks
  never_outside more = on_card_lem (steps_give ls (given_more (length ls + blocks_asked (name_count path)) (omega arith) (start_gives s)) taken) more

  pub taken_gives : Given blocks (name_count path) (blocks_asked (name_count path)) u
  taken_gives = steps_give ls (given_more (length ls + blocks_asked (name_count path)) (omega arith) (start_gives s)) taken

  -- the state's first fields: 1 and a block of the card, or 0 and 0
  pub asks_or_answers : ((u.at.asks ≡ 1) × (u.at.block < blocks)) ⊎ ((u.at.asks ≡ 0) × (u.at.block ≡ 0))
  asks_or_answers = ⊎_elim inr (λ e. inl (e, never_outside (λ z. absurd (omega arith)))) taken_gives.kept.form

-- "a step after the answer repeats it whatever comes"
pub repeats_answer : {r t : Reader} {l : List ℕ} → Stepped r l t → r.at.asks ≡ 0 → t ≡ r
repeats_answer s e = s.repeats e

-- .. and all steps after it
pub stays : {t u : Reader} (ls : List (List ℕ)) → t.at.asks ≡ 0 → Taken t ls u → u ≡ t
stays [] there g.here = refl
stays (l ∷ ls) there (g.next s on) = let same = s.repeats there in stays ls (rw same there) on ∙ same

-- an answer's state asks for nothing
not_both : {x : Ending} {b : ℕ} {k : List ℕ → Asking Ending} → ask b k ≡ answer x → ⊥
not_both e = clash (ap is_answer e) refl

pub answer_there : (r : Reader) {x : Ending} → resume r ≡ answer x → r.at.asks ≡ 0
answer_there r left = ⊎_elim (eqb-true r.at.asks 0) more (either (eqb r.at.asks 0))
  where
    more : eqb r.at.asks 0 ≡ false → r.at.asks ≡ 0
    more e = absurd (not_both (sym (asked_left r (eqb-false r.at.asks 0 e)) ∙ left))

-- "Before that, bytes of another length give 4.", which by `answer_there` and `stays` it stays
pub other_length : {blocks k n : ℕ} {r t : Reader} {l : List ℕ} → Given blocks k n r → (r.at.asks ≡ 0 → ⊥) → Stepped r l t → (length l ≡ 4096 → ⊥)
    → resume t ≡ answer (refused 4)
other_length {l = l} given more s wrong = step_left given s ∙ ap (fed_with l) (asked_left _ more) ∙ wrong_length l _ _ wrong

-- ---- fed a card's blocks
pub driven_given : {block : ℕ → List ℕ} {blocks k j : ℕ} {r u : Reader} (n : ℕ) → Given blocks k (n + j) r → Driven block r n u → Given blocks k j u
driven_given {j = j} zero given g.here = given_more j (omega arith) given
driven_given {j = j} (suc n) given (g.next s on) = driven_given n (given_step (given_more (suc (n + j)) (omega arith) given) s) on

module _ (block : ℕ → List ℕ) {blocks k : ℕ} (whole : (b : ℕ) → b < blocks → length (block b) ≡ 4096) where
  -- what it comes to, fed each block, stays the same
  fed_step : {r t : Reader} {n : ℕ} → Given blocks k n r → Stepped r (block r.at.block) t → fed block (resume t) ≡ fed block (resume r)
  unfolding fed
  fed_step {r = r} {t = t} given s =
      ⊎_elim (λ e. there (eqb-true r.at.asks 0 e)) (λ e. asked (eqb-false r.at.asks 0 e)) (either (eqb r.at.asks 0))
    where
      there : r.at.asks ≡ 0 → fed block (resume t) ≡ fed block (resume r)
      there e = ap (λ (x : Reader). fed block (resume x)) (s.repeats e)

      asked : (r.at.asks ≡ 0 → ⊥) → fed block (resume t) ≡ fed block (resume r)
      asked more =
          let left = asked_left r more in
          ap (fed block) (step_left given s ∙ ap (fed_with (block r.at.block)) left ∙ goes_on_lem _ _ _ (whole r.at.block (on_card_lem given more)))
          ∙ sym (ap (fed block) left)

  pub driven_fed : {r u : Reader} (j n : ℕ) → Given blocks k (n + j) r → Driven block r n u → fed block (resume u) ≡ fed block (resume r)
  driven_fed j zero given g.here = refl
  driven_fed j (suc n) given (g.next s on) =
      driven_fed j n (given_step (given_more (suc (n + j)) (omega arith) given) s) on ∙ fed_step given s

pub driven_path : {block : ℕ → List ℕ} {r u : Reader} (n : ℕ) → Driven block r n u → path_of u ≡ path_of r
driven_path zero g.here = refl
driven_path (suc n) (g.next s on) = driven_path n on ∙ s.path

-- "after at most 408k + 16 blocks": fed a card's blocks, the answer is there
pub driven_in_time : {blocks : ℕ} {path : List ℕ} {index : ℕ} {block : ℕ → List ℕ} {r u : Reader} (n : ℕ) → Started blocks path index r → Driven block r n u
    → blocks_asked (name_count path) ≤ n → u.at.asks ≡ 0
driven_in_time n s on enough = none_asks (driven_given n (given_more (n + 0) (omega arith) (start_gives s)) on)
