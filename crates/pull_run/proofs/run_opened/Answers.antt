-- `run_opened` meets its contract: what the walk left, and the buffer that it filled, is what is written.
use native.Mathlib.Omega.{arith}
use borrow.Author.Rules.{rules}
use mathlib.Core.Path.{◌≡◌, refl}
use Rattle.path.proofs.Counting.{parts_few}
use Rattle.file_run.specs.Standing.{ended}
use Rattle.pull_run.proofs.Results.{room_for, run_fits, run_counts, run_written_lem}
use Rattle.pull_run.proofs.run_opened.Goals as goal
use Rattle.pull_run.proofs.run_opened.Goals.{Joined-fill_from_path, in-Ok, in-Err}

-- 0, or the number of what ended the run
told : (k : Joined-fill_from_path) → k.match-fill_from_path.answer ≡ ended k.fill_from_path.result
told k =
    elim k.match-fill_from_path.branch [
      | in-Ok w ↦ rw (w.answer-is, w.in-Ok.is)
      | in-Err w ↦ rw (w.answer-is, w.number-answer.ensures, w.in-Err.is)
    ]

-- ---- the needs
pub fill_from_path-requires : goal.fill_from_path-requires
fill_from_path-requires c =
    record {
      fits = run_fits _ _ _ _ _ _ c.requires.blocks_value;
      room_for = room_for _ _ _ c.requires.blocks_value _ refl;
      none_stand = record { none = refl; no_last = refl };
    }

pub overflow_cast-result : goal.overflow_cast-result
overflow_cast-result c =
    let few = run_counts _ _ _ _ _ _ c.requires.blocks_value c.fill_from_path.ensures.filled in
    let most = parts_few _ c.requires.path_value in
    omega arith

pub overflow_cast-result-2 : goal.overflow_cast-result-2
overflow_cast-result-2 c =
    let few = run_counts _ _ _ _ _ _ c.requires.blocks_value c.fill_from_path.ensures.filled in
    let most = parts_few _ c.requires.path_value in
    omega arith

pub returns : goal.returns
returns c =
    let answer = told (goal.at.returns c).Joined-fill_from_path in
    let node-bytes = c.type_inv.nodes in
    let block-bytes = c.type_inv.blocks in
    run_written_lem _ _ _ _ _ _ c.requires.blocks_value c.fill_from_path.ensures.filled answer (search rules) (search rules) (search rules)
    (λ k. (node-bytes k).fits) (λ k. (block-bytes k).fits)
