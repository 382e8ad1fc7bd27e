-- Steps that don't go on: after the answer, with bytes of another length, and from a state that doesn't fit.
use Prim.Native.Nat.{ℕ}
use native.Mathlib.Omega.{arith}
use mathlib.Core.Path.{◌≡◌, refl, sym, ap, ◌∙◌, subst}
use mathlib.Core.Logic.{◌⊎◌, inl, ⊎_elim}
use mathlib.Core.Bool.{Bool, true, false}
use mathlib.Core.List.{List}
use lib.ListN.{length, take}
use lib.Dec.{eqb}
use borrow.Author.Tests.{eq-eqb, ne_eqb}
use Rattle.field.specs.Choice.{choose}
use Rattle.asking.specs.Asking.{Asking, answer}
use Rattle.asking.specs.Pull.{Ending, refused, fed_with}
use Rattle.asking.proofs.Driving.{answer_stays, wrong_length}
use Rattle.reader_state.specs.declared.At.{At}
use Rattle.reader_state.specs.Resume.{ending_by, resume_by}
use Rattle.reader_state.specs.Decision.{refuses_at}
use Rattle.reader_state.specs.Fits.{EndIn, FitsBy}
use Rattle.reader.specs.declared.Reader.{Reader}
use Rattle.reader.specs.Reading.{memory_in, seen_by, resume, sound_by, is_sound, stepped, Stepped}
use Rattle.reader.proofs.Starting.{refusal_left, none_rise}
use Rattle.reader.proofs.GivenStates.{answered_left, asked_left}

module _ (r : Reader) (bytes : List ℕ) where
  -- "a step after the answer repeats it whatever comes"
  pub repeats_stepped : r.at.asks ≡ 0 → Stepped r bytes r
  unfolding stepped
  repeats_stepped there =
      let left = answered_left r there in
      let ending = ending_by r.at (memory_in r) (seen_by r.at r.nodes r.blocks) in
      let same : fed_with bytes (resume r) ≡ resume r = ap (fed_with bytes) left ∙ answer_stays bytes ending ∙ sym left in
      record { left = sym same ∙ rw (eq-eqb _ _ there); kept = λ k. k; path = refl; repeats = λ _. refl }

  -- ---- a refusal with 4: bytes of another length, or a state that doesn't fit
  other_left : (r.at.asks ≡ 0 → ⊥) → (length bytes ≡ 4096 → ⊥) → stepped r bytes ≡ answer (refused 4)
  unfolding stepped
  other_left more wrong = rw fed_to (either_way (is_sound r) (answer (refused 4)))
    where
      fed_to : fed_with bytes (resume r) ≡ answer (refused 4)
      fed_to = ap (fed_with bytes) (asked_left r more) ∙ wrong_length bytes r.at.block _ wrong

      either_way : (t : Bool) (x : Asking Ending) → choose t x x ≡ x
      either_way true x = refl
      either_way false x = refl

  unfit_left : (r.at.asks ≡ 0 → ⊥) → sound_by r.at (memory_in r) r.nodes r.blocks ≡ false → stepped r bytes ≡ answer (refused 4)
  unfolding stepped
  unfit_left more unfit = rw (ne_eqb _ _ more, unfit)

  -- a reader with the same path that refuses
  pub refusal_stepped : (t : Reader) → t.at ≡ refuses_at r.at 4 → t.path ≡ r.path → (r.at.asks ≡ 0 → ⊥)
      → ((length bytes ≡ 4096 → ⊥) ⊎ (sound_by r.at (memory_in r) r.nodes r.blocks ≡ false)) → Stepped r bytes t
  refusal_stepped t e f more why =
      record {
        left = left ∙ sym (⊎_elim (other_left more) (unfit_left more) why);
        kept = λ k. record {
          fit = fit;
          path = rw e k.path;
          form = inl (ap (λ (at : At). at.asks) e, ap (λ (at : At). at.block) e);
          nodes_rise = none_rise t.nodes nodes;
          blocks_rise = none_rise t.blocks blocks;
        };
        path = ap (λ (at : At). take at.path_length t.path) e ∙ ap (take r.at.path_length) f;
        repeats = λ there. absurd (more there);
      }
    where
      left : resume t ≡ answer (refused 4)
      left = ap (λ (at : At). resume_by at (memory_in t) (seen_by at t.nodes t.blocks)) e ∙ refusal_left r.at (memory_in t) _ 4

      nodes : t.at.node_count ≡ 0
      nodes = ap (λ (at : At). at.node_count) e

      blocks : t.at.block_count ≡ 0
      blocks = ap (λ (at : At). at.block_count) e

      ended : EndIn (refuses_at r.at 4)
      ended = record { bytes = omega arith; counts = λ z. (refl, refl) }

      fit : FitsBy (eqb t.at.asks 0) t.at (memory_in t)
      fit = subst (λ (at : At). FitsBy (eqb at.asks 0) at (memory_in t)) (sym e) ended
