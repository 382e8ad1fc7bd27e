-- "walking the directory once": a run as one walk, the path's names once, the file's inode once, and then its blocks.
use Rattle.std.specs.Prelude.{ℕ, List}
use Rattle.walk.specs.Walk.{Walk, bind}
use Rattle.node.specs.Node.{Bounds}
use Rattle.path_lookup.specs.Lookup.{path_walk}
use Rattle.file_run.specs.Standing.{Standing, unless_stopped}
use Rattle.file_run.specs.Walks.{file_run_walk}

unfoldable pub run_walk : Bounds → List ℕ → ℕ → ℕ → Walk Standing
run_walk m path n index = bind (path_walk m path) (unless_stopped (file_run_walk m n index))
