-- K6's rules, by number: what the definitions compute on both sides of each boundary, and what the request's sentence says. 1 is yes,
-- 0 no.
use Rattle.std.specs.Prelude.{refl, List, [], ◌∷◌, ◌++◌, ℕ, ◌/◌, length, take, replicate, set}
use mathlib.Core.List as List
use Rattle.field.specs.Number.{le16, le32}
use Rattle.list.specs.Lists.{bytes_of}
use Rattle.list.specs.Search.{searched}
use Rattle.node.specs.Node.{in_main}
use Rattle.compare.specs.Lists.{rising_after, is_rising}
use Rattle.keep_file.specs.Keep.{numbers_of}
use Rattle.keep_file.specs.Layout.{header, nodes_start, blocks_start, file_end}
use Rattle.keep_file.specs.Reading.{answer_at, is_answer, bytes_at, kept_at, are_answers, keep_in, measured, lists_readable, readable}
use Rattle.keep.specs.Writing.{keep_most}
use Rattle.bench_sheet.specs.Line.{Line, ◌is◌, Holds, yes}

-- A file of the path "a", block 7, of which a pull answered 2, on a card whose main area is 4096 to 4607: a number and three more for each
-- node, and each listed block, all zeros.
abbrev front : ℕ → ℕ → List ℕ
front n b = header 1 n b ++ 97 ∷ [] ++ bytes_of (7 ∷ 2 ∷ 0 ∷ []) ++ replicate 4096 0 ++ bytes_of (4096 ∷ 4608 ∷ [])

abbrev block_bytes : List ℕ → List ℕ
block_bytes [] = []
block_bytes (b ∷ bs) = bytes_of (b ∷ []) ++ replicate 4096 0 ++ block_bytes bs

abbrev file : List ℕ → List ℕ → List ℕ
file nodes blocks = front (length nodes / 4) (length blocks) ++ bytes_of nodes ++ block_bytes blocks

-- one node, and no block
abbrev root : List ℕ
root = 3 ∷ 0 ∷ 3 ∷ 4096 ∷ []

abbrev smallest : List ℕ
smallest = file root []

abbrev reads : List ℕ → ℕ
reads f = yes (readable f)

abbrev keep_rules : List Line
keep_rules =
    -- "a header (name length, node count, block count, offsets of nodes, blocks and end), then the name, index, answer and count, 4,096 block
    -- bytes .., main area bounds"
    (List.map (le32 smallest) (0 ∷ 4 ∷ 8 ∷ 12 ∷ 16 ∷ 20 ∷ []) is (1 ∷ 1 ∷ 0 ∷ 4141 ∷ 4157 ∷ 4157 ∷ []))
    ∷ (List.map (le32 smallest) (25 ∷ 29 ∷ 33 ∷ 4133 ∷ 4137 ∷ 4141 ∷ []) is (7 ∷ 2 ∷ 0 ∷ 4096 ∷ 4608 ∷ 3 ∷ []))
    ∷ ((nodes_start 9 ∷ blocks_start 9 2 ∷ file_end 9 2 4 ∷ []) is (4149 ∷ 4181 ∷ 20581 ∷ []))
    -- "an offset or file length other than the first three numbers give"; fewer than 24 bytes are none
    ∷ ((reads smallest ∷ reads (smallest ++ 0 ∷ []) ∷ reads (take 4156 smallest) ∷ reads (take 23 smallest) ∷ reads [] ∷ []) is (1 ∷ 0 ∷ 0 ∷ 0 ∷ 0 ∷ []))
    ∷ (List.map (λ x. reads (set smallest 12 x)) (44 ∷ 45 ∷ 46 ∷ []) is (0 ∷ 1 ∷ 0 ∷ []))
    ∷ (List.map (λ x. reads (set smallest 16 x)) (60 ∷ 61 ∷ 62 ∷ []) is (0 ∷ 1 ∷ 0 ∷ []))
    ∷ (List.map (λ x. reads (set smallest 20 x)) (60 ∷ 61 ∷ 62 ∷ []) is (0 ∷ 1 ∷ 0 ∷ []))
    -- sums never wrap: 2^30 blocks have a multiple of 2^32 bytes
    ∷ ((reads (set smallest 11 64) ∷ []) is (0 ∷ []))
    ∷ (List.map (λ at. reads (set smallest at 2)) (0 ∷ 4 ∷ 8 ∷ []) is (0 ∷ 0 ∷ 0 ∷ []))
    -- name, index, answer, count and block bytes aren't tested, and the bounds only against listed blocks
    ∷ (List.map (λ at. reads (set smallest at 47)) (24 ∷ 25 ∷ 29 ∷ 33 ∷ 37 ∷ 4132 ∷ 4133 ∷ 4137 ∷ []) is (1 ∷ 1 ∷ 1 ∷ 1 ∷ 1 ∷ 1 ∷ 1 ∷ 1 ∷ []))
    -- "no node"
    ∷ ((reads (file [] []) ∷ []) is (0 ∷ []))
    -- "a list not strictly rising"
    ∷ ((reads (file (root ++ 4 ∷ 9 ∷ 0 ∷ 0 ∷ []) []) ∷ reads (file (root ++ root) []) ∷ reads (file (root ++ 2 ∷ 9 ∷ 0 ∷ 0 ∷ []) []) ∷ []) is (1 ∷ 0 ∷ 0 ∷ []))
    ∷ ((reads (file root (4096 ∷ 4097 ∷ [])) ∷ reads (file root (4096 ∷ 4096 ∷ [])) ∷ reads (file root (4097 ∷ 4096 ∷ [])) ∷ []) is (1 ∷ 0 ∷ 0 ∷ []))
    -- "a table answer of no such kind": (9, 0, 0 or 0, inode, address)
    ∷ ((reads (file (3 ∷ 9 ∷ 0 ∷ 0 ∷ []) []) ∷ reads (file (3 ∷ 9 ∷ 1 ∷ 0 ∷ []) []) ∷ reads (file (3 ∷ 9 ∷ 0 ∷ 1 ∷ []) []) ∷ []) is (1 ∷ 0 ∷ 0 ∷ []))
    ∷ ((reads (file (3 ∷ 0 ∷ 0 ∷ 0 ∷ []) []) ∷ reads (file (3 ∷ 1 ∷ 0 ∷ 0 ∷ []) []) ∷ reads (file (3 ∷ 8 ∷ 0 ∷ 0 ∷ []) []) ∷ []) is (1 ∷ 0 ∷ 0 ∷ []))
    -- "a block outside the bounds"
    ∷ (List.map (λ b. reads (file root (b ∷ []))) (4095 ∷ 4096 ∷ 4607 ∷ 4608 ∷ []) is (0 ∷ 1 ∷ 1 ∷ 0 ∷ []))
    -- the most that a path of k names needs
    ∷ (List.map keep_most (1 ∷ 2 ∷ 8 ∷ []) is (983059 ∷ 1941415 ∷ 7691551 ∷ []))
    ∷ []

pub keep_rules_lem : Holds keep_rules
unfolding le16 le32 bytes_of searched in_main rising_after is_rising numbers_of answer_at is_answer bytes_at kept_at are_answers keep_in measured
    lists_readable readable
keep_rules_lem = refl
