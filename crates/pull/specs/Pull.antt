-- What a pull answers, and every byte that it was lent as it leaves them.
use Rattle.std.specs.Prelude.{ℕ, ◌+◌, ◌-◌, ◌*◌, ◌/◌, Bool, ◌&&◌, List, ◌++◌, length, take, replicate, eqb, leb}
use Rattle.field.specs.Card.{Card, card_of}
use Rattle.field.specs.Choice.{choose}
use Rattle.superblock.specs.Shape.{in_shape}
use Rattle.checkpoint.specs.declared.Volume.{Volume}
use Rattle.checkpoint.specs.Volume.{Opening, Opened, Refused, opened_image}
use Rattle.path.specs.Path.{part_count, is_path}
use Rattle.list.specs.Lists.{Listed, listing, over}
use Rattle.walk.specs.Walk.{view_of, empty, Ran, run, Outcome, ok, stop}
use Rattle.node.specs.Node.{bounds_of}
use Rattle.node.specs.Block.{Fetched, hole, held}
use Rattle.pull.specs.declared.Pulled.{Pulled}
use Rattle.pull.specs.Walk.{Block, pull_walk}

-- K7: "With k names at most 175k + 4 node numbers and 233k + 5 blocks are listed"
abbrev pub nodes_most : ℕ → ℕ
nodes_most k = 175 * k + 4

abbrev pub blocks_most : ℕ → ℕ
blocks_most k = 233 * k + 5

-- the memory that a pull is lent: the block buffer, the node list and the block list
pub record Lent : Type 0 where
  pub block : List ℕ
  pub nodes : List ℕ
  pub blocks : List ℕ

abbrev pub lending : List ℕ → List ℕ → List ℕ → Lent
lending block nodes blocks = record { block = block; nodes = nodes; blocks = blocks }

-- a pull's numbers, and the lent memory as it leaves it
pub record Result : Type 0 where
  pub numbers : Pulled
  pub memory : Lent

abbrev pub result_in : Pulled → Lent → Result
result_in numbers memory = record { numbers = numbers; memory = memory }

-- "the lists and counts as that pull left them"
abbrev pub nodes_left : Result → Listed
nodes_left r = listing r.memory.nodes r.numbers.node_count

abbrev pub blocks_left : Result → Listed
blocks_left r = listing r.memory.blocks r.numbers.block_count

-- "a block buffer of exactly 4,096 bytes", and K7: "the lists lent must have that room", for k names
unfoldable pub lent_in_shape : ℕ → Lent → Bool
lent_in_shape k lent =
    eqb (length lent.block) 4096 && leb (nodes_most k) (length lent.nodes / 4) && leb (blocks_most k) (length lent.blocks / 4)

-- 4, "call out of shape": the image, the path and the lent memory
unfoldable pub call_in_shape : List ℕ → List ℕ → Lent → Bool
call_in_shape image path lent = in_shape (length image) && is_path path && lent_in_shape (part_count path) lent

-- 0 is "data", 1 "hole"; the others are the answer that ended the walk
abbrev pub content_answer : Fetched → ℕ
content_answer (held block) = 0
content_answer hole = 1

abbrev pub answer_of : Outcome Block → ℕ
answer_of (ok b) = content_answer b.content
answer_of (stop answer) = answer

-- "the byte count outside 0 and 1 .. is 0"
abbrev pub count_of : Outcome Block → ℕ
count_of (ok b) = b.count
count_of (stop answer) = 0

-- 0: "file bytes up to the count, then zeros"; 1: "all zeros"; else "untouched"
abbrev pub content_bytes : ℕ → Fetched → List ℕ
content_bytes count (held block) = take count block ++ replicate (4096 - count) 0
content_bytes count hole = replicate 4096 0

abbrev pub buffer_after : Outcome Block → List ℕ → List ℕ
buffer_after (ok b) buffer = content_bytes b.count b.content
buffer_after (stop answer) buffer = buffer

-- "as 4": untouched, and counts 0
abbrev pub refused_pull : ℕ → Lent → Result
refused_pull answer lent = result_in (record { answer = answer; byte_count = 0; node_count = 0; block_count = 0 }) lent

-- the numbers of a walk, and its lists written
abbrev pub written : Ran (Outcome Block) → Lent → Result
written r lent =
    result_in
    (record {
      answer = answer_of r.value;
      byte_count = count_of r.value;
      node_count = length r.seen.nodes;
      block_count = length r.seen.blocks;
    })
    (lending (buffer_after r.value lent.block) (over r.seen.nodes lent.nodes) (over r.seen.blocks lent.blocks))

-- the walk of a pull on an opened card
unfoldable pub pull_run : Card → Volume → List ℕ → ℕ → Ran (Outcome Block)
pull_run card v path index = run (view_of card v) empty (pull_walk (bounds_of v) path index)

abbrev pub pulled_from : Card → Opening → List ℕ → ℕ → Lent → Result
pulled_from card (Opened v) path index lent = written (pull_run card v path index) lent
pulled_from card (Refused answer) path index lent = refused_pull answer lent

-- "Pull checks 4, 5, 6, 7, 8 in that order, then walks the root, then the file": the path's names from the root on
unfoldable pub pulled : List ℕ → List ℕ → ℕ → Lent → Result
pulled image path index lent =
    choose (call_in_shape image path lent) (pulled_from (card_of image) (opened_image image) path index lent) (refused_pull 4 lent)
