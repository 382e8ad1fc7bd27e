-- Where opening goes, the state goes on with what that stage waits for, or has the refusal; and it fits again.
use Prim.Native.Nat.{ℕ, ◌+◌, ◌≤◌, ◌<◌}
use native.Mathlib.Omega.{arith}
use mathlib.Core.Path.{◌≡◌, refl, sym, subst, ◌∙◌}
use mathlib.Core.Bool.{Bool, true, false, and-eq-true_iff}
use mathlib.Core.Logic.{inl, inr}
use mathlib.Core.List.{List}
use lib.ListN.{length, drop, length-drop}
use lib.Seq.{length-take-le, get_or-take}
use lib.Dec.{eqb, ltb}
use borrow.Author.Tests.{lt-ltb, leb-true}
use Rattle.answer.specs.Number.{refusal_number}
use Rattle.field.specs.Number.{le16}
use Rattle.field.proofs.Choosing.{clash}
use Rattle.walk.specs.Walk.{Seen}
use Rattle.checkpoint.specs.declared.Volume.{Volume}
use Rattle.checkpoint.specs.Volume.{journal_readable}
use Rattle.node.specs.Node.{bounds_of}
use Rattle.pull.specs.Walk.{pull_walk}
use Rattle.asking.specs.Asking.{Asking}
use Rattle.asking.specs.Table.{keeping, journal_in, KeptIn, asking}
use Rattle.asking.specs.Open.{Opens, journal_came}
use Rattle.asking.specs.Pull.{Ending, came, walk_ask}
use Rattle.ask_open.specs.declared.Stage.{Stage}
use Rattle.ask_open.specs.declared.Stage.TheVariants.{FirstCopy, SecondCopy, OneFirst, OneLast, TwoFirst, TwoLast, Journal, Refused}
use Rattle.ask_open.specs.declared.Keep.{Keep}
use Rattle.ask_open.specs.declared.Keep.TheVariants.{Nothing, First, Second, SecondAsFirst}
use Rattle.ask_open.specs.declared.Opening.{Opening}
use Rattle.ask_open.specs.Came.{open_came, stage_ask, first_after, second_after, open_goes, StageIn, OpeningIn}
use Rattle.reader_state.specs.declared.At.{At}
use Rattle.reader_state.specs.Resume.{Memory, memory, path_in, stage_of, block_came, ending_by, resume_by}
use Rattle.reader_state.specs.Decision.{refuses_at, opens_in, opens_at, memory_after, open_on, refuse_on}
use Rattle.reader_state.specs.Fits.{Sized, StateIn, Fits, EndIn, FitsBy, Form, Decided}

-- ---- what is left
module _ (at : At) (m : Memory) (s : Seen) (v : Volume) (b : ℕ) where
  stage_opened : (stage : Stage) → resume_by (opens_at at v b stage) m s
      ≡ stage_ask (walk_ask s (path_in at m) at.index) at.card_blocks v m.first m.held b stage
  unfolding resume_by block_came ending_by walk_ask
  stage_opened FirstCopy = refl
  stage_opened SecondCopy = refl
  stage_opened OneFirst = refl
  stage_opened OneLast = refl
  stage_opened (TwoFirst false) = refl
  stage_opened (TwoFirst true) = refl
  stage_opened (TwoLast false) = refl
  stage_opened (TwoLast true) = refl
  stage_opened Journal = refl
  stage_opened (Refused refusal) = refl

-- ---- the stages by their numbers

-- what is known in a stage
pub known_in : (v : Volume) (first second : List ℕ) (stage n : ℕ) → stage ≡ n → StageIn v first second (stage_of stage) → StageIn v first second (stage_of n)
known_in v first second stage n e h = subst (λ (k : ℕ). StageIn v first second (stage_of k)) e h

pub past_three : (n : ℕ) → (n ≡ 0 → ⊥) → (n ≡ 1 → ⊥) → (n ≡ 2 → ⊥) → (n ≡ 3 → ⊥) → 4 ≤ n
past_three n p q r s = omega arith

-- the last one before the journal's
pub last_stage : (n : ℕ) → n < 8 → 4 ≤ n → (n ≡ 4 → ⊥) → (n ≡ 5 → ⊥) → (n ≡ 6 → ⊥) → n ≡ 7
last_stage n l m p q r = omega arith

-- ---- what is kept has its length
pub keeps_sized : (m : Memory) (bytes journal : List ℕ) → Sized m → length bytes ≡ 4096 → length journal ≡ 512 → (keep : Keep)
    → Sized (memory m.path (first_after keep m.first m.held bytes) (second_after keep m.held bytes) journal)
keeps_sized m bytes journal h l j Nothing = record { path = h.path; first = h.first; held = h.held; journal = j }
keeps_sized m bytes journal h l j First = record { path = h.path; first = l; held = h.held; journal = j }
keeps_sized m bytes journal h l j Second = record { path = h.path; first = h.first; held = l; journal = j }
keeps_sized m bytes journal h l j SecondAsFirst = record { path = h.path; first = h.held; held = h.held; journal = j }

-- ---- in opening nothing is listed
abbrev NoCounts : At → Type 0
NoCounts at = (at.node_count ≡ 0) × (at.block_count ≡ 0)

module _ (at : At) (m : Memory) (fit : Fits at m) (l : at.stage < 9) where
  pub opening_state : StateIn true at m
  opening_state = rw (lt-ltb at.stage 9 l) at fit.state

  opening_counts : NoCounts at
  opening_counts = let t = opening_state in (t.1, t.2)

-- a refusal counts none
refused_counts : (at : At) (n : ℕ) → NoCounts at → ((refuses_at at n).node_count ≡ at.node_count) × ((refuses_at at n).block_count ≡ at.block_count)
refused_counts at n h = (sym h.0, sym h.1)

refused_in : (at : At) (n : ℕ) → EndIn (refuses_at at n)
refused_in at n = record { bytes = omega arith; counts = λ e. (refl, refl) }

-- ---- the state fits again
module _ (at : At) (m : Memory) (counts : NoCounts at) (sized : Sized m) (path : at.path_length ≤ 2048) (v : Volume) (b : ℕ) where
  in_stage : (stage : ℕ) → ltb stage 9 ≡ true → StageIn v m.first m.held (stage_of stage) → Fits (opens_in at v b stage) m
  in_stage stage l h = record { sized = sized; path = path; state = rw l (h, counts.0, counts.1) }

  abbrev StageFits : Stage → Type 0
  StageFits stage = StageIn v m.first m.held stage → FitsBy (eqb (opens_at at v b stage).asks 0) (opens_at at v b stage) m

  stage_fits : (stage : Stage) → StageFits stage
  stage_fits FirstCopy h = in_stage 0 refl h
  stage_fits SecondCopy h = in_stage 1 refl h
  stage_fits OneFirst h = in_stage 2 refl h
  stage_fits OneLast h = in_stage 3 refl h
  stage_fits (TwoFirst false) h = in_stage 4 refl h
  stage_fits (TwoFirst true) h = in_stage 5 refl h
  stage_fits (TwoLast false) h = in_stage 6 refl h
  stage_fits (TwoLast true) h = in_stage 7 refl h
  stage_fits Journal h = in_stage 8 refl h
  stage_fits (Refused refusal) h = refused_in at (refusal_number refusal)

stage_counts : (at : At) (v : Volume) (b : ℕ) → NoCounts at → (stage : Stage)
    → ((opens_at at v b stage).node_count ≡ at.node_count) × ((opens_at at v b stage).block_count ≡ at.block_count)
stage_counts at v b h FirstCopy = (refl, refl)
stage_counts at v b h SecondCopy = (refl, refl)
stage_counts at v b h OneFirst = (refl, refl)
stage_counts at v b h OneLast = (refl, refl)
stage_counts at v b h (TwoFirst passed) = (refl, refl)
stage_counts at v b h (TwoLast passed) = (refl, refl)
stage_counts at v b h Journal = (refl, refl)
stage_counts at v b h (Refused refusal) = refused_counts at (refusal_number refusal) h

stage_path : (at : At) (v : Volume) (b : ℕ) (stage : Stage) → (opens_at at v b stage).path_length ≡ at.path_length
stage_path at v b FirstCopy = refl
stage_path at v b SecondCopy = refl
stage_path at v b OneFirst = refl
stage_path at v b OneLast = refl
stage_path at v b (TwoFirst passed) = refl
stage_path at v b (TwoLast passed) = refl
stage_path at v b Journal = refl
stage_path at v b (Refused refusal) = refl

stage_form : (at : At) (v : Volume) (b : ℕ) (stage : Stage) → Form (opens_at at v b stage)
stage_form at v b FirstCopy = inr refl
stage_form at v b SecondCopy = inr refl
stage_form at v b OneFirst = inr refl
stage_form at v b OneLast = inr refl
stage_form at v b (TwoFirst passed) = inr refl
stage_form at v b (TwoLast passed) = inr refl
stage_form at v b Journal = inr refl
stage_form at v b (Refused refusal) = inl (refl, refl)

-- ---- a block of opening came
module _ (at : At) (m : Memory) (bytes : List ℕ) (fit : Fits at m) (l : at.stage < 9) (whole : length bytes ≡ 4096) where
  -- what the stage waits for
  abbrev waits : (Opens → Asking Ending) → Asking Ending
  waits k = open_came k at.card_blocks at.volume m.first m.held (stage_of at.stage) bytes

  waits_came : (s : Seen) → waits (walk_ask s (path_in at m) at.index) ≡ block_came at m s bytes
  unfolding block_came
  waits_came s = rw (lt-ltb at.stage 9 l)

  -- and opening goes on
  pub open_decided : (o : Opening)
      → ((k : Opens → Asking Ending) → open_goes k at.card_blocks m.first m.held bytes o ≡ waits k)
      → OpeningIn m.first m.held bytes o → Decided at m bytes (open_on at o)
  unfolding open_goes
  open_decided o goes known =
      let n = memory_after (open_on at o) m bytes in
      let counts = opening_counts at m fit l in
      record {
        same = λ s. stage_opened at n s o.volume o.block o.stage ∙ goes (walk_ask s (path_in at m) at.index) ∙ waits_came s;
        fit =
            stage_fits at n counts (keeps_sized m bytes m.journal fit.sized whole fit.sized.journal o.keep) fit.path
            o.volume o.block o.stage known;
        counts = stage_counts at o.volume o.block counts o.stage;
        path = stage_path at o.volume o.block o.stage;
        form = stage_form at o.volume o.block o.stage;
        lists = inl (refl, refl);
        journal = λ e. absurd (clash e refl);
      }

-- ---- the journal's block came
module _ (at : At) (m : Memory) (bytes : List ℕ) (fit : Fits at m) (stage : at.stage ≡ 8) where
  abbrev journal_read : Bool
  journal_read = journal_readable (drop at.volume.journal_at bytes)

  l : at.stage < 9
  l = omega arith

  -- it can't be searched
  pub refuse_decided : journal_read ≡ false → Decided at m bytes (refuse_on at)
  unfolding resume_by block_came ending_by open_came journal_came walk_ask
  refuse_decided e = record {
    same = λ s. rw (stage, e);
    fit = refused_in at 8;
    counts = refused_counts at 8 (opening_counts at m fit l);
    path = refl;
    form = inl (refl, refl);
    lists = inl (refl, refl);
    journal = λ f. absurd (clash f refl);
  }

  -- it can: the walk is begun
  pub journal_came_lem : (s : Seen) → journal_read ≡ true
      → asking (keeping at.volume m.first (journal_in at.volume.journal_at bytes)) came s
      (pull_walk (bounds_of at.volume) (path_in at m) at.index) ≡ block_came at m s bytes
  unfolding block_came open_came journal_came walk_ask
  journal_came_lem s e = rw (stage, e)

  journal_known : StageIn at.volume m.first m.held Journal
  journal_known = rw stage at (opening_state at m fit l).0

  pub journal_inside_lem : at.volume.journal_at ≤ 3584
  journal_inside_lem = journal_known.2

  pub journal_packs : at.volume.areas.checkpoint + 1024 < 4294967296
  journal_packs = journal_known.0.packs

  -- and what is kept of the card can be searched
  module _ (whole : length bytes ≡ 4096) where
    pub journal_kept : journal_read ≡ true → KeptIn (keeping at.volume m.first (journal_in at.volume.journal_at bytes))
    unfolding journal_readable le16
    journal_kept e =
        let known = journal_known in
        let a = at.volume.journal_at in
        let inside : 512 ≤ length (drop a bytes) = let d = length-drop a bytes in let i = known.2 in omega arith in
        let few : le16 (drop a bytes) 0 ≤ 38 = leb-true _ _ ((and-eq-true_iff _ _).0 e).0 in
        record {
          first_size = fit.sized.first;
          map_inside = known.1;
          table_ends = known.0.table_ends;
          nat_even = known.0.nat_even;
          journal_size = length-take-le 512 (drop a bytes) inside;
          journal_count = rw (get_or-take 512 (drop a bytes) 0 0 (omega arith), get_or-take 512 (drop a bytes) 1 0 (omega arith)) few;
        }
