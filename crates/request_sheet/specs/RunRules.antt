-- K14's rules, by number: what the definitions compute on both sides of each boundary, and what the request's sentence says. 1 is yes,
-- 0 no.
use Rattle.std.specs.Prelude.{◌≡◌, refl, true, false, List, [], ◌∷◌, ◌++◌, ℕ, length, replicate, eqb}
use mathlib.Core.List as List
use Rattle.field.specs.Choice.{choose}
use Rattle.list.specs.Lists.{insert, union}
use Rattle.walk.specs.Walk.{Seen, Ran, ran, Outcome, ok, stop}
use Rattle.node.specs.Block.{Fetched, hole, held}
use Rattle.pull.specs.Walk.{Block}
use Rattle.pull.specs.Pull.{Lent, lending}
use Rattle.file_run.specs.Standing.{last_count}
use Rattle.pull_run.specs.Run.{pulls_from, run_nodes_most, run_blocks_most, run_in_shape}
use Rattle.bench_sheet.specs.Line.{Line, ◌is◌, Holds, yes}

-- whether a call of k names takes so many blocks, with memory of these lengths in bytes
abbrev takes : ℕ → ℕ → ℕ → ℕ → ℕ → ℕ
takes k wanted buffer nodes blocks = yes (run_in_shape k wanted (lending (replicate buffer 0) (replicate nodes 0) (replicate blocks 0)))

-- ---- Single pulls, made up so that their lists can be told apart: a block, a hole, a last block with 7 bytes, and then 3
abbrev block : ℕ → Fetched → Outcome Block
block count content = ok (record { count = count; content = content })

abbrev saw : List ℕ → List ℕ → Seen
saw nodes blocks = record { nodes = nodes; blocks = blocks }

abbrev pull : ℕ → Ran (Outcome Block)
pull index =
    choose (eqb index 0) (ran (block 4096 (held [])) (saw (3 ∷ 4 ∷ []) (10 ∷ 20 ∷ [])))
    (choose (eqb index 1) (ran (block 4096 hole) (saw (3 ∷ 4 ∷ 5 ∷ []) (10 ∷ [])))
    (choose (eqb index 2) (ran (block 7 (held [])) (saw (3 ∷ 4 ∷ []) (10 ∷ 15 ∷ []))) (ran (stop 3) (saw (3 ∷ 6 ∷ []) (10 ∷ 30 ∷ [])))))

-- a run's answer, how many stand, the byte count, and how many nodes and blocks it lists, which follow
abbrev run : ℕ → ℕ → List ℕ
run index wanted =
    let r = pulls_from pull wanted index in
    (r.value.answer ∷ length r.value.stand ∷ last_count r.value.stand ∷ length r.seen.nodes ∷ length r.seen.blocks ∷ [])
    ++ (r.seen.nodes ++ r.seen.blocks)

abbrev run_rules : List Line
run_rules =
    -- "With k names the lists need room for 175k + 6 and 233k + 518"
    (List.map run_nodes_most (1 ∷ 2 ∷ 8 ∷ []) is (181 ∷ 356 ∷ 1406 ∷ []))
    ∷ (List.map run_blocks_most (1 ∷ 2 ∷ 8 ∷ []) is (751 ∷ 984 ∷ 2382 ∷ []))
    ∷ (List.map (λ n. takes 1 1 4096 n 3004) (723 ∷ 724 ∷ 727 ∷ []) is (0 ∷ 1 ∷ 1 ∷ []))
    ∷ (List.map (λ n. takes 1 1 4096 724 n) (3003 ∷ 3004 ∷ 3007 ∷ []) is (0 ∷ 1 ∷ 1 ∷ []))
    ∷ ((takes 2 1 4096 1423 3936 ∷ takes 2 1 4096 1424 3935 ∷ takes 2 1 4096 1424 3936 ∷ []) is (0 ∷ 0 ∷ 1 ∷ []))
    -- "A run of 0 .. blocks, or a buffer not 4,096 bytes a block, is 4"
    ∷ ((takes 1 0 0 724 3004 ∷ takes 1 0 4096 724 3004 ∷ []) is (0 ∷ 0 ∷ []))
    ∷ (List.map (λ n. takes 1 1 n 724 3004) (0 ∷ 4095 ∷ 4096 ∷ 4097 ∷ 8192 ∷ []) is (0 ∷ 0 ∷ 1 ∷ 0 ∷ 0 ∷ []))
    ∷ (List.map (λ n. takes 1 2 n 724 3004) (4096 ∷ 8191 ∷ 8192 ∷ 8193 ∷ []) is (0 ∷ 0 ∷ 1 ∷ 0 ∷ []))
    -- all stand, "holes not told apart", and "the lists are the union"
    ∷ (run 0 1 is (0 ∷ 1 ∷ 4096 ∷ 2 ∷ 2 ∷ 3 ∷ 4 ∷ 10 ∷ 20 ∷ []))
    ∷ (run 0 2 is (0 ∷ 2 ∷ 4096 ∷ 3 ∷ 2 ∷ 3 ∷ 4 ∷ 5 ∷ 10 ∷ 20 ∷ []))
    ∷ (run 0 3 is (0 ∷ 3 ∷ 7 ∷ 3 ∷ 3 ∷ 3 ∷ 4 ∷ 5 ∷ 10 ∷ 15 ∷ 20 ∷ []))
    -- "the run stops at the first answer that isn't 0 or 1, answers it .. with how many stand and the last one's byte count", "the last pull's
    -- [lists] included"
    ∷ (run 0 4 is (3 ∷ 3 ∷ 7 ∷ 4 ∷ 4 ∷ 3 ∷ 4 ∷ 5 ∷ 6 ∷ 10 ∷ 15 ∷ 20 ∷ 30 ∷ []))
    ∷ (run 2 512 is (3 ∷ 1 ∷ 7 ∷ 3 ∷ 3 ∷ 3 ∷ 4 ∷ 6 ∷ 10 ∷ 15 ∷ 30 ∷ []))
    -- none stands
    ∷ (run 3 1 is (3 ∷ 0 ∷ 0 ∷ 2 ∷ 2 ∷ 3 ∷ 6 ∷ 10 ∷ 30 ∷ []))
    ∷ []

pub run_rules_lem : Holds run_rules
unfolding insert union pulls_from run_in_shape
run_rules_lem = refl

-- "or over 512 blocks": 512 are taken and 513 aren't, with memory that has the right lengths
pub up_to_512 : (lent : Lent) → length lent.nodes ≡ 724 → length lent.blocks ≡ 3004
    → (length lent.block ≡ 2097152 → run_in_shape 1 512 lent ≡ true) × (length lent.block ≡ 2101248 → run_in_shape 1 513 lent ≡ false)
unfolding run_in_shape
up_to_512 lent nodes blocks = (λ whole. rw (whole, nodes, blocks) refl, λ _. refl)
