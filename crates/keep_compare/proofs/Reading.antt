-- What is known of a keep file: its lists' entries, and that the listed blocks lie inside a new card with the same bounds.
use Prim.Native.Nat.{ℕ, ◌+◌, ◌≤◌, ◌<◌}
use native.Mathlib.Omega.{arith}
use mathlib.Core.Path.{◌≡◌, refl, subst}
use mathlib.Core.Bool.{true}
use mathlib.Core.List.{List, []}
use lib.ListN.{length}
use Rattle.field.specs.Card.{Card}
use Rattle.checkpoint.specs.declared.Volume.{Volume}
use Rattle.checkpoint.specs.Volume.{VolumeIn}
use Rattle.nat.specs.Table.{OutOfRange}
use Rattle.list.specs.Lists.{AllOf}
use Rattle.list.proofs.Rises.{all_map}
use Rattle.list.proofs.Columns.{Turn, turn_inside}
use Rattle.node.specs.Node.{Bounds, bounds_of, in_main}
use Rattle.node.proofs.Sizes.{in_card_lem}
use Rattle.compare.specs.declared.column.Column.{Column}
use Rattle.compare.specs.Column.{place_of, number_at}
use Rattle.compare.specs.Difference.{same_bounds}
use Rattle.compare.proofs.Sameness.{same_bounds_lem}
use Rattle.keep_file.specs.Keep.{numbers_of, kept_answer, kept_block}
use Rattle.keep_file.specs.Layout.{nodes_start, blocks_start}
use Rattle.keep_file.specs.Reading.{answer_at, bytes_at, path_length_in, node_count_in, block_count_in, keep_in, readable}
use Rattle.keep_file.specs.Readable.{Readable}
use Rattle.keep_file.specs.File.{Stands, NodesAt, BlocksAt}
use Rattle.keep_file.proofs.Refusing.{readable_exactly}
use Rattle.keep_file.proofs.Found.{found_at}

-- each entry of a list lies inside the file
pub entry_inside : {file : List ℕ} {start width n : ℕ} {c : Column} → Stands file start width n c → (i : ℕ) → i < c.count → place_of c i + width ≤ length file
entry_inside {c = c} s i h =
    let turn : Turn c.start c.width c.count i (place_of c i) = record { within = omega arith; stands = refl } in
    let fits = turn_inside turn h in
    let held = c.held.1 in
    rw (← s.bytes, ← s.wide) (omega arith)

module _ (file : List ℕ) (reads : readable file ≡ true) where
  taken : Readable file
  taken = (readable_exactly file).0 reads

  -- what is kept of a listed number is what stands behind it, since the numbers rise
  module _ {c : Column} where
    pub nodes_found : NodesAt file c → (i : ℕ) → i < c.count → kept_answer (keep_in file).nodes (number_at c i) ≡ answer_at file (place_of c i + 4)
    unfolding keep_in
    nodes_found s i h =
        let r = taken.nodes_rise in
        let l : i < node_count_in file = rw (← s.counted) h in
        rw (s.bytes, s.starts, s.wide) (found_at OutOfRange 16 answer_at file (nodes_start (path_length_in file)) (node_count_in file) i r l)

    pub blocks_found : BlocksAt file c → (i : ℕ) → i < c.count → kept_block (keep_in file).blocks (number_at c i) ≡ bytes_at file (place_of c i + 4)
    unfolding keep_in
    blocks_found s i h =
        let r = taken.blocks_rise in
        let l : i < block_count_in file = rw (← s.counted) h in
        let at : ℕ = blocks_start (path_length_in file) (node_count_in file) in
        rw (s.bytes, s.starts, s.wide) (found_at [] 4100 bytes_at file at (block_count_in file) i r l)

  -- equal bounds put each listed block inside the new card
  pub blocks_inside : {card : Card} {u : Volume} → VolumeIn card u → same_bounds (keep_in file).bounds (bounds_of u) ≡ true
      → AllOf (λ b. b < card.blocks) (numbers_of (keep_in file).blocks)
  blocks_inside {card} {u} known same =
      let e = same_bounds_lem (keep_in file).bounds (bounds_of u) same in
      all_map (λ b i. in_card_lem b (subst (λ (m : Bounds). in_main m b ≡ true) e i) known) (numbers_of (keep_in file).blocks) taken.inside
