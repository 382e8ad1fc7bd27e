-- What holds of the states that the start or a step gave: they are sound, so that a step feeds what is left, and gives such a state again.
use Prim.Native.Nat.{ℕ, suc, ◌≤◌, ◌<◌}
use native.Mathlib.Omega.{arith}
use mathlib.Core.Path.{◌≡◌, refl, sym, ap, ◌∙◌, subst}
use mathlib.Core.Bool.{Bool, true, false, ◌||◌}
use mathlib.Core.List.{List, []}
use lib.Dec.{eqb, ltb}
use borrow.Author.Tests.{eqb-false, ne_eqb, le-leb}
use Rattle.field.specs.Choice.{choose}
use Rattle.list.proofs.Entries.{length_numbers}
use Rattle.compare.proofs.Shapes.{rising_test}
use Rattle.walk.specs.Walk.{Seen, Walk, Outcome}
use Rattle.pull.specs.Walk.{Block}
use Rattle.pull.specs.Pull.{nodes_most, blocks_most}
use Rattle.asking.specs.Asking.{answer, ask, Few}
use Rattle.asking.specs.Table.{asking}
use Rattle.asking.specs.Pull.{came, fed_with, EndingIn}
use Rattle.asking.proofs.Sizes.{few_le}
use Rattle.asking.proofs.Growing.{few_asked, lists_few}
use Rattle.asking.proofs.Driving.{few_fed}
use Rattle.reader_state.specs.declared.At.{At}
use Rattle.reader_state.specs.Resume.{Memory, question_in, block_came, ending_by, resume_by}
use Rattle.reader_state.specs.Fits.{Fits, FitsBy, StateIn}
use Rattle.reader_state.proofs.Fitting.{in_fits}
use Rattle.reader.specs.declared.Reader.{Reader}
use Rattle.reader.specs.Reading.{memory_in, seen_by, resume, sound_by, is_sound, stepped, Stepped}
use Rattle.reader.specs.Given.{Given}

-- ---- what is left, by whether the answer is there
pub answered_left : (r : Reader) → r.at.asks ≡ 0 → resume r ≡ answer (ending_by r.at (memory_in r) (seen_by r.at r.nodes r.blocks))
unfolding resume_by
answered_left r e =
    let s = seen_by r.at r.nodes r.blocks in
    ap (λ (n : ℕ). choose (eqb n 0) (answer (ending_by r.at (memory_in r) s)) (ask r.at.block (block_came r.at (memory_in r) s))) e

pub asked_left : (r : Reader) → (r.at.asks ≡ 0 → ⊥)
    → resume r ≡ ask r.at.block (block_came r.at (memory_in r) (seen_by r.at r.nodes r.blocks))
unfolding resume_by
asked_left r more = rw (ne_eqb r.at.asks 0 more)

-- ---- the lists have room
module _ (at : At) (m : Memory) (nodes blocks : List ℕ) where
  -- in the walk what is left is a walk's
  walk_left : ltb at.stage 9 ≡ false → (l : List ℕ)
      → (w : Walk (Outcome Block)) × (block_came at m (seen_by at nodes blocks) l ≡ asking (question_in at m).kept came (seen_by at nodes blocks) w)
  unfolding block_came
  walk_left late l = rw late (go (eqb at.stage 9) (eqb at.stage 10) _ _ _)
    where
      go : (table node : Bool) (a b c : Walk (Outcome Block)) → (w : Walk (Outcome Block))
          × (choose table (asking (question_in at m).kept came (seen_by at nodes blocks) a)
          (choose node (asking (question_in at m).kept came (seen_by at nodes blocks) b) (asking (question_in at m).kept came (seen_by at nodes blocks) c))
          ≡ asking (question_in at m).kept came (seen_by at nodes blocks) w)
      go true node a b c = (a, refl)
      go false true a b c = (b, refl)
      go false false a b c = (c, refl)

abbrev pub RoomIn : At → Type 0
RoomIn at = (at.node_count ≤ nodes_most 8) × (at.block_count ≤ blocks_most 8)

module _ {card k n : ℕ} {r : Reader} (g : Given card k n r) where
  abbrev seen : Seen
  seen = seen_by r.at r.nodes r.blocks

  walk_room : ltb r.at.stage 9 ≡ false → (r.at.asks ≡ 0 → ⊥) → RoomIn r.at
  walk_room late more =
      let few = subst (Few (λ b. b < card) (EndingIn k) n) (asked_left r more) g.few in
      let on = few_asked few [] in
      let left = walk_left r.at (memory_in r) r.nodes r.blocks late [] in
      let then = subst (Few (λ b. b < card) (EndingIn k) on.0) left.1 on.1 in
      let bounds = lists_few (question_in r.at (memory_in r)).kept (nodes_most k) (blocks_most k) seen left.0 then (λ x q. (q.nodes_fit, q.blocks_fit)) in
      let a = length_numbers r.nodes 0 r.at.node_count in
      let b = length_numbers r.blocks 0 r.at.block_count in
      let names = g.names in
      (omega arith, omega arith)

  open_room : (t : Bool) → ltb r.at.stage 9 ≡ t → (r.at.asks ≡ 0 → ⊥) → StateIn t r.at (memory_in r) → RoomIn r.at
  open_room true e more state = let a = state.1 in let b = state.2 in (omega arith, omega arith)
  open_room false e more state = walk_room e more

  fit_in : (r.at.asks ≡ 0 → ⊥) → Fits r.at (memory_in r)
  fit_in more = subst (λ (b : Bool). FitsBy b r.at (memory_in r)) (ne_eqb r.at.asks 0 more) g.kept.fit

  given_room : (r.at.asks ≡ 0 → ⊥) → RoomIn r.at
  given_room more = open_room (ltb r.at.stage 9) refl more (fit_in more).state

  sound_asking : (r.at.asks ≡ 0 → ⊥) → sound_by r.at (memory_in r) r.nodes r.blocks ≡ true
  unfolding sound_by
  sound_asking more =
      let room = given_room more in
      rw (le-leb _ _ room.0, le-leb _ _ room.1, rising_test _ g.kept.nodes_rise, rising_test _ g.kept.blocks_rise, in_fits r.at (fit_in more))

  pub given_sound : is_sound r ≡ true
  given_sound = go (eqb r.at.asks 0) refl
    where
      go : (t : Bool) → eqb r.at.asks 0 ≡ t → (t || sound_by r.at (memory_in r) r.nodes r.blocks) ≡ true
      go true e = refl
      go false e = sound_asking (eqb-false r.at.asks 0 e)

  -- a step feeds what is left
  pub step_left : {l : List ℕ} {t : Reader} → Stepped r l t → resume t ≡ fed_with l (resume r)
  unfolding stepped
  step_left s = s.left ∙ rw given_sound

-- ---- .. and gives such a state again
pub given_step : {card k n : ℕ} {r t : Reader} {l : List ℕ} → Given card k (suc n) r → Stepped r l t → Given card k n t
given_step {card = card} {k = k} {n = n} {l = l} g s =
    record {
      kept = s.kept g.kept;
      few = subst (Few (λ b. b < card) (EndingIn k) n) (sym (step_left g s)) (few_fed l (omega arith, omega arith) g.few);
      names = g.names;
    }

-- with more blocks that may be asked for
pub given_more : {card k n : ℕ} {r : Reader} (m : ℕ) → n ≤ m → Given card k n r → Given card k m r
given_more m h g = record { kept = g.kept; few = few_le m h g.few; names = g.names }
