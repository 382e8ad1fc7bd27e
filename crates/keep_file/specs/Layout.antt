-- The bytes of a keep file: "a keep file of 32-bit numbers and bytes, without gaps".
use Rattle.std.specs.Prelude.{ℕ, ◌+◌, ◌*◌, List, [], ◌∷◌, ◌++◌, length}
use Rattle.nat.specs.Table.{TableAnswer, OutOfRange, Entry}
use Rattle.list.specs.Lists.{bytes_of}
use Rattle.keep_file.specs.Keep.{Kept, Keep}

-- "offsets of nodes, blocks and end", by "the first three numbers": the path's length p, the node count n and the block count b. The
-- header has 24 bytes; behind the path are index, answer and count, the block bytes and the bounds
abbrev pub path_start : ℕ
path_start = 24

abbrev pub block_start : ℕ → ℕ
block_start p = p + 36

abbrev pub nodes_start : ℕ → ℕ
nodes_start p = p + 4140

-- a node number and three numbers
abbrev pub blocks_start : ℕ → ℕ → ℕ
blocks_start p n = nodes_start p + 16 * n

-- a block's number and its bytes
abbrev pub file_end : ℕ → ℕ → ℕ → ℕ
file_end p n b = blocks_start p n + 4100 * b

-- "a header (name length, node count, block count, offsets of nodes, blocks and end)"
abbrev pub header : ℕ → ℕ → ℕ → List ℕ
header p n b = bytes_of (p ∷ n ∷ b ∷ nodes_start p ∷ blocks_start p n ∷ file_end p n b ∷ [])

-- "its table answer (9, 0, 0 or 0, inode, address)"
abbrev pub answer_bytes : TableAnswer → List ℕ
answer_bytes OutOfRange = bytes_of (9 ∷ 0 ∷ 0 ∷ [])
answer_bytes (Entry inode address) = bytes_of (0 ∷ inode ∷ address ∷ [])

-- "each listed [number] with" what is kept of it, as bytes
unfoldable pub kept_bytes : {A : Type 0} → (A → List ℕ) → List (Kept A) → List ℕ
kept_bytes bytes [] = []
kept_bytes bytes (k ∷ ks) = bytes_of (k.number ∷ []) ++ bytes k.value ++ kept_bytes bytes ks

-- "each listed node number with its table answer"
abbrev pub nodes_bytes : List (Kept TableAnswer) → List ℕ
nodes_bytes nodes = kept_bytes answer_bytes nodes

-- "each listed block's number with all its bytes"
abbrev pub blocks_bytes : List (Kept (List ℕ)) → List ℕ
blocks_bytes blocks = kept_bytes (λ (bytes : List ℕ). bytes) blocks

-- "a header .., then the name, index, answer and count, 4,096 block bytes .., main area bounds, each listed node number .., each listed
-- block's number .."
unfoldable pub layout : Keep → List ℕ
layout k =
    header (length k.path) (length k.nodes) (length k.blocks) ++ k.path ++ bytes_of (k.index ∷ k.answer ∷ k.count ∷ [])
    ++ k.block ++ bytes_of (k.bounds.start ∷ k.bounds.end ∷ []) ++ nodes_bytes k.nodes ++ blocks_bytes k.blocks
