-- A keep laid out: how long the file is, and where each part of it stands.
use Prim.Native.Nat.{ℕ, ◌+◌, ◌*◌}
use native.Mathlib.Omega.{arith}
use mathlib.Core.Path.{◌≡◌, refl}
use mathlib.Core.List.{List, [], ◌∷◌, ◌++◌, append_assoc, append-nil}
use lib.ListN.{length, drop, length-append}
use Rattle.nat.specs.Table.{TableAnswer}
use Rattle.list.specs.Lists.{bytes_of}
use Rattle.list.proofs.Written.{length_bytes}
use Rattle.keep_file.specs.Keep.{Kept, Keep}
use Rattle.keep_file.specs.Layout.{nodes_start, blocks_start, file_end, answer_bytes, nodes_bytes, blocks_bytes, layout}
use Rattle.keep_file.specs.Readable.{Filled}
use Rattle.keep_file.proofs.Entries.{behind, Sized, length_entries}
use Rattle.keep_file.proofs.Values.{answer_size}

module _ (k : Keep) where
  -- ---- the parts that are numbers
  abbrev pub head_numbers : List ℕ
  head_numbers =
      let p : ℕ = length k.path in
      let n : ℕ = length k.nodes in
      let b : ℕ = length k.blocks in
      p ∷ n ∷ b ∷ nodes_start p ∷ blocks_start p n ∷ file_end p n b ∷ []

  abbrev pub result_numbers : List ℕ
  result_numbers = k.index ∷ k.answer ∷ k.count ∷ []

  abbrev pub bound_numbers : List ℕ
  bound_numbers = k.bounds.start ∷ k.bounds.end ∷ []

  -- ---- what stands behind a part
  abbrev pub behind_bounds : List ℕ
  behind_bounds = nodes_bytes k.nodes ++ blocks_bytes k.blocks

  abbrev pub behind_block : List ℕ
  behind_block = bytes_of bound_numbers ++ behind_bounds

  abbrev pub behind_result : List ℕ
  behind_result = k.block ++ behind_block

  abbrev pub behind_path : List ℕ
  behind_path = bytes_of result_numbers ++ behind_result

-- each part of k at its offset
pub record Laid (k : Keep) (file : List ℕ) : Type 0 where
  pub size : length file ≡ file_end (length k.path) (length k.nodes) (length k.blocks)
  pub head : drop 0 file ≡ bytes_of (head_numbers k) ++ (k.path ++ behind_path k)
  pub path : drop 24 file ≡ k.path ++ behind_path k
  pub result : drop (length k.path + 24) file ≡ bytes_of (result_numbers k) ++ behind_result k
  pub block : drop (length k.path + 36) file ≡ k.block ++ behind_block k
  pub bounds : drop (length k.path + 4132) file ≡ bytes_of (bound_numbers k) ++ behind_bounds k
  pub nodes : drop (nodes_start (length k.path)) file ≡ nodes_bytes k.nodes ++ blocks_bytes k.blocks
  pub blocks : drop (blocks_start (length k.path) (length k.nodes)) file ≡ blocks_bytes k.blocks ++ []

pub answers_sized : (ks : List (Kept TableAnswer)) → Sized 12 answer_bytes ks
answers_sized [] = tt
answers_sized (k ∷ ks) = (answer_size k.value, answers_sized ks)

module _ (k : Keep) (filled : Filled k) where
  abbrev p : ℕ
  p = length k.path

  abbrev n : ℕ
  n = length k.nodes

  abbrev file : List ℕ
  file = layout k

  nodes_long : length (nodes_bytes k.nodes) ≡ 16 * n
  nodes_long = length_entries 12 answer_bytes k.nodes (answers_sized k.nodes)

  blocks_long : length (blocks_bytes k.blocks) ≡ 4100 * length k.blocks
  blocks_long = length_entries 4096 (λ bytes. bytes) k.blocks filled.blocks

  pub layout_length : length (layout k) ≡ file_end (length k.path) (length k.nodes) (length k.blocks)
  unfolding layout
  layout_length =
      let head = length_bytes (head_numbers k) in
      let result = length_bytes (result_numbers k) in
      let bounds = length_bytes (bound_numbers k) in
      simp length-append (omega (arith, nodes_long, blocks_long, filled.block))

  at_head : drop 0 file ≡ bytes_of (head_numbers k) ++ (k.path ++ behind_path k)
  unfolding layout
  at_head = simp append_assoc

  pub laid_out_lem : Laid k (layout k)
  laid_out_lem =
      let path : drop 24 file ≡ k.path ++ behind_path k = behind file (bytes_of (head_numbers k)) 0 24 24 at_head (length_bytes (head_numbers k)) refl in
      let result : drop (p + 24) file ≡ behind_path k = behind file k.path 24 p (p + 24) path refl (omega arith) in
      let block : drop (p + 36) file ≡ behind_result k =
      behind file (bytes_of (result_numbers k)) (p + 24) 12 (p + 36) result (length_bytes (result_numbers k)) (omega arith) in
      let bounds : drop (p + 4132) file ≡ behind_block k = behind file k.block (p + 36) 4096 (p + 4132) block filled.block (omega arith) in
      let nodes : drop (p + 4140) file ≡ behind_bounds k =
      behind file (bytes_of (bound_numbers k)) (p + 4132) 8 (p + 4140) bounds (length_bytes (bound_numbers k)) (omega arith) in
      let blocks : drop (blocks_start p n) file ≡ blocks_bytes k.blocks =
      behind file (nodes_bytes k.nodes) (p + 4140) (16 * n) (blocks_start p n) nodes nodes_long refl in
      record {
        size = layout_length;
        head = at_head;
        path = path;
        result = result;
        block = block;
        bounds = bounds;
        nodes = nodes;
        blocks = rw append-nil blocks;
      }
