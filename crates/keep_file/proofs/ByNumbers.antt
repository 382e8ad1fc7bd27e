-- What a function knows of a file by the numbers that it read from it.
use Prim.Native.Nat.{ℕ, ◌+◌, ◌-◌, ◌≤◌}
use native.Mathlib.Omega.{arith}
use mathlib.Core.Path.{◌≡◌, sym, ap, ap₂, ◌∙◌}
use mathlib.Core.Bool.{Bool, ◌&&◌}
use mathlib.Core.List.{List}
use lib.Dec.{leb}
use lib.ListN.{length}
use Rattle.field.specs.Number.{le32}
use Rattle.node.specs.Node.{Bounds}
use Rattle.compare.specs.declared.column.Column.{Column}
use Rattle.compare.specs.Column.{numbers_in}
use Rattle.keep_file.specs.Keep.{numbers_of}
use Rattle.compare.specs.Lists.{is_rising, all_in_main}
use Rattle.keep_file.specs.Layout.{path_start, block_start, nodes_start, blocks_start, file_end}
use Rattle.keep_file.specs.Reading.{kept_nodes_at, kept_blocks_at, are_answers, path_length_in}
use Rattle.keep_file.specs.Reading.{node_count_in, block_count_in, keep_in, lists_readable, fields_of}
use Rattle.keep_file.specs.Readable.{Measured}
use Rattle.keep_file.specs.File.{NodesAt, BlocksAt}
use Rattle.keep_file.proofs.Lengths.{path_length_lem, nodes_length, blocks_length, node_numbers, block_numbers}

-- the lists start behind the block's bytes
pub nodes_start_lem : (file : List ℕ) → Measured file → {at : ℕ} → at ≡ le32 file 12 → 4104 ≤ at
nodes_start_lem file m e = let start = m.nodes_offset in omega arith

-- ---- the lists
pub nodes_told : (file : List ℕ) {nodes : Column} → NodesAt file nodes → numbers_in nodes ≡ numbers_of (keep_in file).nodes
nodes_told file s = rw (s.bytes, s.starts, s.wide, s.counted) (sym (node_numbers file))

pub blocks_told : (file : List ℕ) {blocks : Column} → BlocksAt file blocks → numbers_in blocks ≡ numbers_of (keep_in file).blocks
blocks_told file s = rw (s.bytes, s.starts, s.wide, s.counted) (sym (block_numbers file))

module _ (file : List ℕ) {nodes blocks : Column} (ns : NodesAt file nodes) (bs : BlocksAt file blocks) where
  pub lists_tested : {m : Bounds} → m ≡ (keep_in file).bounds → {nodes_rise answers blocks_rise inside : Bool} → nodes_rise ≡ is_rising (numbers_in nodes)
      → answers ≡ are_answers file nodes.start nodes.count → blocks_rise ≡ is_rising (numbers_in blocks)
      → inside ≡ all_in_main m (numbers_in blocks)
      → (leb 1 nodes.count && nodes_rise && answers && blocks_rise && inside) ≡ lists_readable file
  unfolding lists_readable
  lists_tested e f g h i = rw (f, g, h, i, nodes_told file ns, blocks_told file bs, e, ns.starts, ns.counted)

-- ---- the bounds
pub bounds_placed : (file : List ℕ) {p main end : ℕ} → p ≡ path_length_in file → main ≡ le32 file (p + 4132) → end ≡ le32 file (p + 4136)
    → record { start = main; end = end } ≡ (keep_in file).bounds
unfolding keep_in
bounds_placed file path from to = rw (from, to, path)

-- ---- what code tests and hands out
module _ (file : List ℕ) {p n b : ℕ} (path : p ≡ path_length_in file) (nodes : n ≡ node_count_in file) (blocks : b ≡ block_count_in file) where
  pub sized : Measured file → length file ≡ file_end p n b
  sized m = rw (path, nodes, blocks) m.file_length

  -- what stands behind the path
  index_read : {x : ℕ} → x ≡ le32 file (p + 24) → x ≡ (keep_in file).index
  unfolding keep_in
  index_read e = rw (e, path)

  answer_read : {x : ℕ} → x ≡ le32 file (p + 28) → x ≡ (keep_in file).answer
  unfolding keep_in
  answer_read e = rw (e, path)

  count_read : {x : ℕ} → x ≡ le32 file (p + 32) → x ≡ (keep_in file).count
  unfolding keep_in
  count_read e = rw (e, path)

  module _ {main end : ℕ} (from : main ≡ le32 file (p + 4132)) (to : end ≡ le32 file (p + 4136)) where
    pub fields_read_lem : Measured file → {index answer count kept_nodes_at kept_blocks_at last : ℕ} → index ≡ le32 file (p + 24) → answer ≡ le32 file (p + 28)
        → count ≡ le32 file (p + 32) → kept_nodes_at ≡ le32 file 12 → kept_blocks_at ≡ le32 file 16 → last ≡ le32 file 20
        → record {
          answer = 0;
          path_len = p;
          index = index;
          pull_answer = answer;
          byte_count = count;
          main_start = main;
          main_end = end;
          node_count = n;
          block_count = b;
          path_at = path_start;
          block_at = kept_nodes_at - 4104;
          nodes_at = kept_nodes_at;
          blocks_at = kept_blocks_at;
          length = last;
        }
        ≡ fields_of (keep_in file)
    fields_read_lem m {index} {answer} {count} {kept_nodes_at} {kept_blocks_at} {last} x y z f g h =
        let lengths = path ∙ sym (path_length_lem file m) in
        let listed = nodes ∙ sym (nodes_length file) in
        let held = blocks ∙ sym (blocks_length file) in
        let i = index_read x in
        let a = answer_read y in
        let c = count_read z in
        let bounds = bounds_placed file path from to in
        let ns : kept_nodes_at ≡ nodes_start p = f ∙ m.nodes_offset ∙ ap nodes_start (sym path) in
        let block : kept_nodes_at - 4104 ≡ block_start p = omega arith in
        let bs : kept_blocks_at ≡ blocks_start p n = g ∙ m.blocks_offset ∙ ap₂ blocks_start (sym path) (sym nodes) in
        let end : last ≡ file_end p n b = h ∙ m.end_offset ∙ sym m.file_length ∙ sized m in
        λ t. record {
          answer = 0;
          path_len = lengths t;
          index = i t;
          pull_answer = a t;
          byte_count = c t;
          main_start = (bounds t).start;
          main_end = (bounds t).end;
          node_count = listed t;
          block_count = held t;
          path_at = path_start;
          block_at = (block ∙ ap block_start lengths) t;
          nodes_at = (ns ∙ ap nodes_start lengths) t;
          blocks_at = (bs ∙ ap₂ blocks_start lengths listed) t;
          length = (end ∙ (λ t. file_end (lengths t) (listed t) (held t))) t;
        }
