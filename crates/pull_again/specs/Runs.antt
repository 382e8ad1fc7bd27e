-- Demand 3's words for K14's runs of pulls.
use Rattle.std.specs.Prelude.{ℕ, ◌*◌, ◌≡◌, List, take}
use Rattle.list.specs.Lists.{entries}
use Rattle.compare.specs.declared.Compared.{Compared}
use Rattle.compare.specs.Compare.{compared}
use Rattle.pull_run.specs.Run.{RunResult, run_nodes_left, run_blocks_left}

-- what Compare says of a run's lists
abbrev pub said_of_run : List ℕ → List ℕ → RunResult → Compared
said_of_run kept fresh r = compared kept fresh (run_nodes_left r) (run_blocks_left r)

-- equal in both runs: the answer, how many blocks stand and the other counts, all list entries, and the bytes of the blocks that stand
pub record SameRun (r q : RunResult) : Type 0 where
  pub numbers : r.numbers ≡ q.numbers
  pub nodes : entries (run_nodes_left r) ≡ entries (run_nodes_left q)
  pub blocks : entries (run_blocks_left r) ≡ entries (run_blocks_left q)
  pub bytes : take (4096 * r.numbers.count) r.memory.block ≡ take (4096 * r.numbers.count) q.memory.block
