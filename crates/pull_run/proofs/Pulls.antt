-- Single pulls one after another, their lists put together, are one walk over the same lists; and what they all begin with may be walked
-- once. So the meaning of a run, in which no tree is named, is the run of a tree.
use Prim.Native.Nat.{ℕ, zero, suc, ◌+◌}
use mathlib.Core.Path.{◌≡◌, refl, sym, ap, ◌∙◌}
use mathlib.Core.List.{List}
use Rattle.field.specs.Card.{Card}
use Rattle.checkpoint.specs.declared.Volume.{Volume}
use Rattle.walk.specs.Walk.{View, view_of, Seen, empty, Walk, done, run, Outcome, ok, stop, BothRise}
use Rattle.walk.proofs.Runs.{run_bind, run_rising}
use Rattle.walk.proofs.Again.{value_same, run_union}
use Rattle.node.specs.Node.{Bounds, bounds_of, inode_walk}
use Rattle.path_lookup.specs.Lookup.{path_walk}
use Rattle.pull.specs.Walk.{Block, at_file, file_walk, named_file_walk, pull_walk}
use Rattle.pull.specs.Pull.{pull_run}
use Rattle.file_run.specs.Standing.{Standing, before, after_one, many_walk, unless_stopped}
use Rattle.file_run.specs.Walks.{file_run_walk}
use Rattle.file_run.proofs.Once.{walk_once}
use Rattle.pull_run.specs.Run.{joined, pulls_from, run_pulls}
use Rattle.pull_run.specs.Walk.{run_walk}

-- ---- each by itself

-- what follows a single one that came to x and listed s
after_run : (v : View) (rest : Walk Standing) (x : Outcome Block) (s : Seen) → BothRise s → run v s (after_one rest x) ≡ joined s x (run v empty rest)
unfolding run
after_run v rest (stop answer) s r = refl
after_run v rest (ok b) s r =
    let values = value_same v s empty rest in
    let lists = run_union v s rest r in
    run_bind v s rest (λ q. done (before b q)) ∙ (λ i. record { value = before b (values i); seen = lists i })

pub many_run : (v : View) (one : ℕ → Walk (Outcome Block)) (n index : ℕ) → run v empty (many_walk one n index) ≡ pulls_from (λ j. run v empty (one j)) n index
unfolding run many_walk pulls_from
many_run v one zero index = refl
many_run v one (suc n) index =
    let first = run v empty (one index) in
    run_bind v empty (one index) (after_one (many_walk one n (index + 1)))
    ∙ after_run v (many_walk one n (index + 1)) first.value first.seen (run_rising v empty (one index) (tt, tt))
    ∙ ap (joined first.seen first.value) (many_run v one n (index + 1))

-- ---- "walking the directory once"
module _ (v : View) (m : Bounds) where
  inode_once : (n index ino : ℕ) (s : Seen) → BothRise s
      → run v s (many_walk (λ j. file_walk m j ino) (suc n) index) ≡ run v s (file_run_walk m (suc n) index ino)
  unfolding file_walk file_run_walk
  inode_once n index ino s r = walk_once v (inode_walk m ino) (λ j. at_file m j ino) n index s r

  path_once : (path : List ℕ) (n index : ℕ) → run v empty (many_walk (pull_walk m path) (suc n) index) ≡ run v empty (run_walk m path (suc n) index)
  unfolding pull_walk named_file_walk path_walk run_walk
  path_once path n index =
      walk_once v (path_walk m path) (λ j. file_walk m j) n index empty (tt, tt)
      ∙ run_bind v empty (path_walk m path) _
      ∙ go (run v empty (path_walk m path)).value
      ∙ sym (run_bind v empty (path_walk m path) _)
    where
      t : Seen
      t = (run v empty (path_walk m path)).seen

      go : (x : Outcome ℕ) → run v t (unless_stopped (λ ino. many_walk (λ j. file_walk m j ino) (suc n) index) x)
          ≡ run v t (unless_stopped (file_run_walk m (suc n) index) x)
      go (stop answer) = refl
      go (ok ino) = inode_once n index ino t (run_rising v empty (path_walk m path) (tt, tt))

-- ---- the definition that the contract cites
module _ (card : Card) (v : Volume) (path : List ℕ) (index : ℕ) where
  pub run_is : (n : ℕ) → run_pulls card v path index n ≡ run (view_of card v) empty (many_walk (pull_walk (bounds_of v) path) n index)
  unfolding pull_run
  run_is n = sym (many_run (view_of card v) (pull_walk (bounds_of v) path) n index)

  pub run_once : (n : ℕ) → run_pulls card v path index (suc n) ≡ run (view_of card v) empty (run_walk (bounds_of v) path (suc n) index)
  run_once n = run_is (suc n) ∙ path_once (view_of card v) (bounds_of v) path n index
