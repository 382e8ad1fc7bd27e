-- K14: "Pull a run of up to 512 blocks". Its meaning is that of single pulls, of one index after another, with their lists put together.
use Rattle.std.specs.Prelude.{ℕ, zero, suc, ◌+◌, ◌*◌, ◌/◌, Bool, ◌&&◌, List, [], length, eqb, leb}
use Rattle.field.specs.Card.{Card, card_of}
use Rattle.field.specs.Choice.{choose}
use Rattle.superblock.specs.Shape.{in_shape}
use Rattle.checkpoint.specs.declared.Volume.{Volume}
use Rattle.checkpoint.specs.Volume.{Opening, Opened, Refused, opened_image}
use Rattle.path.specs.Path.{part_count, is_path}
use Rattle.list.specs.Lists.{Listed, listing, over}
use Rattle.walk.specs.Walk.{Seen, empty, union_seen, Ran, ran, Outcome, ok, stop}
use Rattle.pull.specs.Walk.{Block}
use Rattle.pull.specs.Pull.{Lent, lending, Result, pull_run}
use Rattle.file_run.specs.Standing.{Standing, standing, before, last_count, standing_over}
use Rattle.pull_run.specs.declared.Run.{Run}

-- "the lists are the union, the last pull's included; the run stops at the first answer that isn't 0 or 1, answers it"
abbrev pub joined : Seen → Outcome Block → Ran Standing → Ran Standing
joined s (stop answer) rest = ran (standing answer []) s
joined s (ok b) rest = ran (before b rest.value) (union_seen s rest.seen)

-- n single pulls from an index on; none is left and none was refused: "(else 0)"
unfoldable pub pulls_from : (ℕ → Ran (Outcome Block)) → ℕ → ℕ → Ran Standing
pulls_from one zero index = ran (standing 0 []) empty
pulls_from one (suc n) index = joined (one index).seen (one index).value (pulls_from one n (index + 1))

-- the same on an opened card: `pull_run` is the single pull's
abbrev pub run_pulls : Card → Volume → List ℕ → ℕ → ℕ → Ran Standing
run_pulls card v path index n = pulls_from (pull_run card v path) n index

-- ---- the call

-- "a run of up to 512 blocks"
abbrev pub wanted_most : ℕ
wanted_most = 512

-- "With k names the lists need room for 175k + 6 and 233k + 518"
abbrev pub run_nodes_most : ℕ → ℕ
run_nodes_most k = 175 * k + 6

abbrev pub run_blocks_most : ℕ → ℕ
run_blocks_most k = 233 * k + 518

-- "A run of 0 or over 512 blocks, or a buffer not 4,096 bytes a block, is 4", and so are lists without that room for k names. The buffer is the
-- field `block` of what a run is lent
unfoldable pub run_in_shape : ℕ → ℕ → Lent → Bool
run_in_shape k wanted lent =
    leb 1 wanted && leb wanted wanted_most && eqb (length lent.block) (4096 * wanted)
    && leb (run_nodes_most k) (length lent.nodes / 4) && leb (run_blocks_most k) (length lent.blocks / 4)

-- 4, "call out of shape": the image, the path, how many blocks, and the lent memory
unfoldable pub run_call_in_shape : List ℕ → List ℕ → ℕ → Lent → Bool
run_call_in_shape image path wanted lent = in_shape (length image) && is_path path && run_in_shape (part_count path) wanted lent

-- a run's numbers, and the lent memory as it leaves it
pub record RunResult : Type 0 where
  pub numbers : Run
  pub memory : Lent

abbrev pub run_result : Run → Lent → RunResult
run_result numbers memory = record { numbers = numbers; memory = memory }

-- the lists and counts as a run left them
abbrev pub run_nodes_left : RunResult → Listed
run_nodes_left r = listing r.memory.nodes r.numbers.node_count

abbrev pub run_blocks_left : RunResult → Listed
run_blocks_left r = listing r.memory.blocks r.numbers.block_count

-- as 4: untouched, and counts 0
abbrev pub refused_run : ℕ → Lent → RunResult
refused_run answer lent =
    run_result (record { answer = answer; count = 0; byte_count = 0; node_count = 0; block_count = 0 }) lent

-- "answers it (else 0) with how many stand and the last one's byte count, and the buffer behind them stays"
abbrev pub run_written : Ran Standing → Lent → RunResult
run_written r lent =
    run_result
    (record {
      answer = r.value.answer;
      count = length r.value.stand;
      byte_count = last_count r.value.stand;
      node_count = length r.seen.nodes;
      block_count = length r.seen.blocks;
    })
    (lending (standing_over r.value.stand lent.block) (over r.seen.nodes lent.nodes) (over r.seen.blocks lent.blocks))

abbrev pub run_pulled_from : Card → Opening → List ℕ → ℕ → ℕ → Lent → RunResult
run_pulled_from card (Opened v) path index wanted lent = run_written (run_pulls card v path index wanted) lent
run_pulled_from card (Refused answer) path index wanted lent = refused_run answer lent

-- the order of checks is the pull's: 4, then 5 to 8 of opening, then the pulls
unfoldable pub run_pulled : List ℕ → List ℕ → ℕ → ℕ → Lent → RunResult
run_pulled image path index wanted lent =
    choose (run_call_in_shape image path wanted lent) (run_pulled_from (card_of image) (opened_image image) path index wanted lent) (refused_run 4 lent)

-- ---- one block

-- a single pull's result as that of a run: 0 and 1 are a block that stands, answered with 0
unfoldable pub as_run : Result → RunResult
as_run r =
    run_result
    (record {
      answer = choose (leb r.numbers.answer 1) 0 r.numbers.answer;
      count = choose (leb r.numbers.answer 1) 1 0;
      byte_count = r.numbers.byte_count;
      node_count = r.numbers.node_count;
      block_count = r.numbers.block_count;
    })
    r.memory
