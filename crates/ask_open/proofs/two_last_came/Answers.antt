-- The second pack is chosen if it passes, unless the first one does and the second is not newer.
use mathlib.Core.Path.{◌≡◌, refl, sym, ◌∙◌}
use mathlib.Core.Bool.{true}
use Rattle.checkpoint.specs.Checkpoint.{checkpoint_of}
use Rattle.checkpoint.specs.Pack.{last_passes, newer}
use Rattle.checkpoint.proofs.Negated.{fails, holds}
use Rattle.asking.specs.Open.{tried_by}
use Rattle.ask_open.proofs.Cases.{last_fails, first_stays, second_wins}
use Rattle.ask_open.proofs.two_last_came.Goals as goal
use Rattle.ask_open.proofs.two_last_came.Goals.{After-is_newer, After-last_passes}

-- the test is of the second pack's version
last_by : (k : After-last_passes) → let a = k.args in
    k.last_passes.result ≡ last_passes a.bytes.now (checkpoint_of a.second.now).checkpoint_ver
last_by k = rw k.checkpoint_of-two.ensures at k.last_passes.ensures

passes : (k : After-is_newer) → let a = k.args in
    last_passes a.bytes.now (checkpoint_of a.second.now).checkpoint_ver ≡ true
passes k =
    let last = rw k.checkpoint_of-two.ensures at k.last_passes.ensures in
    holds last k.if-not-last_passes.false

-- and this one of both packs' headers
newer_by : (k : After-is_newer) → let a = k.args in
    k.is_newer.result ≡ newer (checkpoint_of a.first.now) (checkpoint_of a.second.now)
newer_by k = rw (k.checkpoint_of-one.ensures, k.checkpoint_of-two.ensures) at k.is_newer.ensures

pub returns-then-not-last_passes : goal.returns-then-not-last_passes
returns-then-not-last_passes c =
    let a = c.args in
    let fails-here = fails (last_by (goal.at.returns-then-not-last_passes c).After-last_passes) c.if-not-last_passes.true in
    record {
      result_value = λ k blocks.
          c.choose_first.ensures.result_value k blocks a.second.now a.bytes.now
          ∙ sym (last_fails k a.v.areas a.first.now a.second.now (tried_by a.passed a.first.now) a.bytes.now fails-here);
      opening_in = c.choose_first.ensures.by_index a.second.now a.bytes.now;
    }

pub returns-then-passed-is_newer : goal.returns-then-passed-is_newer
returns-then-passed-is_newer c =
    let a = c.args in
    let stays = rw (newer_by (goal.at.returns-then-passed-is_newer c).After-is_newer) at c.if-passed-is_newer.true in
    record {
      result_value = λ k blocks.
          c.choose_first-then-passed-is_newer.ensures.result_value k blocks a.second.now a.bytes.now
          ∙ sym (first_stays k a.v.areas a.first.now a.second.now a.bytes.now
          (passes (goal.at.returns-then-passed-is_newer c).After-is_newer) a.passed stays);
      opening_in = c.choose_first-then-passed-is_newer.ensures.by_index a.second.now a.bytes.now;
    }

pub returns : goal.returns
returns c =
    let here = goal.at.returns c in
    let a = c.args in
    let first = a.first.now in
    let second = a.second.now in
    let bytes = a.bytes.now in
    let wins = rw (newer_by here.After-is_newer) at c.if-passed-is_newer.false in
    let start = rw c.second_pack-start.ensures at c.choose_pack.ensures.result_value in
    record {
      result_value = λ k blocks. start k blocks first second bytes refl
          ∙ sym (second_wins k a.v.areas first second bytes (passes here.After-is_newer) a.passed wins);
      opening_in = c.choose_pack.ensures.by_index first second bytes;
    }
