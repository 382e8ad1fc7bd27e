-- `open_next` meets its contract: one arm for each stage.
use native.Mathlib.Omega.{arith}
use Prim.Native.Nat.{ℕ}
use mathlib.Core.Path.{◌≡◌}
use Rattle.ask_open.specs.Came.{open_came, StageIn}
use Rattle.reader_state.specs.Resume.{stage_of}
use Rattle.reader_state.specs.State.{bytes_in}
use Rattle.reader_state.proofs.States.{fit_of}
use Rattle.reader_state.proofs.Opened.{opening_state, known_in}
use Rattle.reader_state.proofs.state.State.open_next.Goals as goal
use Rattle.reader_state.proofs.state.State.open_next.Goals.{After-v-1, In_default}

-- what is known in the stage
known : (k : After-v-1) → (n : ℕ) → let a = k.args in a.self.at.stage ≡ n → StageIn a.self.at.volume a.self.first.now a.self.held.now (stage_of n)
known k n e =
    let s = k.args.self in
    known_in s.at.volume s.first.now s.held.now s.at.stage n e (opening_state s.at (bytes_in s) (fit_of s) (omega (arith, k.requires.0))).0

-- the last stage before the journal's
last : (k : In_default) → k.args.self.at.stage ≡ 7
last k = omega (arith, k.requires.0)

pub one_first_came-requires : goal.one_first_came-requires
one_first_came-requires c = (known (goal.at.one_first_came-requires c).After-v-1 2 c.in-2.is, c.requires.1)

pub one_last_came-requires : goal.one_last_came-requires
one_last_came-requires c =
    let h = known (goal.at.one_last_came-requires c).After-v-1 3 c.in-3.is in
    record { areas_fit = (h.0, h.1); first_len = (c.args.self.sized.first, c.requires.1) }

pub two_first_came-requires : goal.two_first_came-requires
two_first_came-requires c =
    record { areas_fit = known (goal.at.two_first_came-requires c).After-v-1 4 c.in-4.is; first_len = (c.args.self.sized.first, c.requires.1) }

pub two_first_came-requires-in-5 : goal.two_first_came-requires-in-5
two_first_came-requires-in-5 c =
    record { areas_fit = known (goal.at.two_first_came-requires-in-5 c).After-v-1 5 c.in-5.is; first_len = (c.args.self.sized.first, c.requires.1) }

pub two_last_came-requires : goal.two_last_came-requires
two_last_came-requires c =
    record {
      areas_fit = known (goal.at.two_last_came-requires c).After-v-1 6 c.in-6.is;
      first_len = (c.args.self.sized.first, c.args.self.sized.held, c.requires.1);
    }

pub two_last_came-requires-in_default : goal.two_last_came-requires-in_default
two_last_came-requires-in_default c =
    let stage = last (goal.at.two_last_came-requires-in_default c).In_default in
    record {
      areas_fit = known (goal.at.two_last_came-requires-in_default c).After-v-1 7 stage;
      first_len = (c.args.self.sized.first, c.args.self.sized.held, c.requires.1);
    }

pub returns-in-0 : goal.returns-in-0
unfolding open_came
returns-in-0 c =
    record { result_value = λ k. rw c.in-0.is (c.copy_came.ensures.result_value k _ _); opening_in = c.copy_came.ensures.by_index _ _ }

pub returns-in-1 : goal.returns-in-1
unfolding open_came
returns-in-1 c =
    record {
      result_value = λ k. rw c.in-1.is (c.copy_came-in-1.ensures.result_value k _ _);
      opening_in = c.copy_came-in-1.ensures.by_index _ _;
    }

pub returns-in-2 : goal.returns-in-2
unfolding open_came
returns-in-2 c =
    record {
      result_value = λ k. rw c.in-2.is (c.one_first_came.ensures.result_value k _ _ _);
      opening_in = c.one_first_came.ensures.by_index _ _;
    }

pub returns-in-3 : goal.returns-in-3
unfolding open_came
returns-in-3 c =
    record {
      result_value = λ k. rw c.in-3.is (c.one_last_came.ensures.result_value k _ _);
      opening_in = c.one_last_came.ensures.by_index _;
    }

pub returns-in-4 : goal.returns-in-4
unfolding open_came
returns-in-4 c =
    record {
      result_value = λ k. rw c.in-4.is (c.two_first_came.ensures.result_value k _ _);
      opening_in = c.two_first_came.ensures.by_index _;
    }

pub returns-in-5 : goal.returns-in-5
unfolding open_came
returns-in-5 c =
    record {
      result_value = λ k. rw c.in-5.is (c.two_first_came-in-5.ensures.result_value k _ _);
      opening_in = c.two_first_came-in-5.ensures.by_index _;
    }

pub returns-in-6 : goal.returns-in-6
unfolding open_came
returns-in-6 c =
    record { result_value = λ k. rw c.in-6.is (c.two_last_came.ensures.result_value k _); opening_in = c.two_last_came.ensures.opening_in }

pub returns-in_default : goal.returns-in_default
unfolding open_came
returns-in_default c =
    record {
      result_value = λ k. rw (last (goal.at.returns-in_default c).In_default) (c.two_last_came-in_default.ensures.result_value k _);
      opening_in = c.two_last_came-in_default.ensures.opening_in;
    }
