-- K14: a run of up to 512 pulls with k names lists at most 175k + 6 node numbers and 233k + 518 blocks, all of them in the main area.
use Prim.Native.Nat.{ℕ, ◌+◌, ◌*◌, ◌≤◌}
use native.Mathlib.Omega.{arith}
use mathlib.Core.Path.{◌≡◌}
use mathlib.Core.Bool.{true}
use mathlib.Core.List.{List, Memᴰ}
use lib.ListN.{length}
use Rattle.list.specs.Lists.{AllOf}
use Rattle.list.proofs.Rises.{all_mem}
use Rattle.list.proofs.Members.{rising_few}
use Rattle.walk.specs.Walk.{View, empty, Walk, run, Outcome}
use Rattle.walk.proofs.Asked.{AllAsked, asked_seen, blocks_exact}
use Rattle.walk.proofs.Runs.{run_rising}
use Rattle.walk.proofs.Sizes.{run_reads}
use Rattle.node.specs.Node.{Bounds, in_main}
use Rattle.path.specs.Path.{part_count}
use Rattle.path_lookup.specs.Lookup.{path_walk}
use Rattle.path_lookup.proofs.Sizes.{path_within}
use Rattle.pull.specs.Walk.{Block, file_walk, named_file_walk, pull_walk}
use Rattle.pull.proofs.Sizes.{pull_within}
use Rattle.file_run.specs.Standing.{Standing, many_walk}
use Rattle.file_run.proofs.Asked.{many_asked}
use Rattle.pull_run.specs.Run.{run_nodes_most, run_blocks_most}
use Rattle.pull_run.proofs.Families.{Family, family_then}
use Rattle.pull_run.proofs.Each.{Near}
use Rattle.pull_run.proofs.InFile.{in_files}

module _ (v : View) (m : Bounds) (path : List ℕ) (index n : ℕ) where
  -- the walk of a run
  abbrev whole : Walk Standing
  whole = many_walk (pull_walk m path) n index

  -- ---- how much it asks
  module _ (few : n ≤ 512) where
    abbrev files : Near index n → ℕ → Walk (Outcome Block)
    files j = file_walk m j.at

    by_path : Family v (run_nodes_most (part_count path)) (run_blocks_most (part_count path)) (λ (j : Near index n). pull_walk m path j.at)
    unfolding pull_walk named_file_walk path_walk
    by_path =
        let k = part_count path in
        let ns : 6 + 175 * k ≡ run_nodes_most k = omega arith in
        let bs : 518 + 233 * k ≡ run_blocks_most k = omega arith in
        rw (ns, bs) at (family_then v (175 * k) (233 * k) 6 518 (path_walk m path) files (path_within m path) (in_files v m index n few))

    pub run_few : (length (run v empty whole).seen.nodes ≤ 175 * part_count path + 6)
        × (length (run v empty whole).seen.blocks ≤ 233 * part_count path + 518)
    run_few =
        let f = by_path in
        let asked = many_asked _ _ v (pull_walk m path) n index (λ j p q. f.asks (record { at = j; from = p; below = q })) in
        let seen = asked_seen (λ k. Memᴰ k f.nodes) (λ b. Memᴰ b f.blocks) v empty whole (tt, tt) asked in
        let rises = run_rising v empty whole (tt, tt) in
        let a = rising_few (run v empty whole).seen.nodes f.nodes rises.0 seen.0 in
        let b = rising_few (run v empty whole).seen.blocks f.blocks rises.1 seen.1 in
        let c = f.few_nodes in
        let d = f.few_blocks in
        (omega arith, omega arith)

  -- ---- where it reads
  pull_inside : (j : ℕ) → AllAsked (λ _. Unit {0}) (λ b. in_main m b ≡ true) v (pull_walk m path j)
  pull_inside j =
      let inside = run_reads v empty (pull_walk m path j) (pull_within m path j) tt in
      (λ k q. tt, λ b q. all_mem (λ c. in_main m c ≡ true) _ inside ((blocks_exact v (pull_walk m path j) b).1 q))

  pub run_inside : AllOf (λ b. in_main m b ≡ true) (run v empty whole).seen.blocks
  run_inside = (asked_seen _ _ v empty whole (tt, tt) (many_asked _ _ v (pull_walk m path) n index (λ j p q. pull_inside j))).1
