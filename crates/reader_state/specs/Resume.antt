-- What a reader's state means: the tree that is left.
use Rattle.std.specs.Prelude.{ℕ, true, false, List, take, drop, eqb, ltb}
use Rattle.field.specs.Choice.{choose}
use Rattle.nat.specs.Table.{entry_in}
use Rattle.walk.specs.Walk.{Seen, ran, ok, stop, and_then}
use Rattle.inode.specs.Inode.{inline_start}
use Rattle.node.specs.Node.{bounds_of, at_block, at_entry}
use Rattle.node.specs.Block.{Fetched, hole, held}
use Rattle.asking.specs.Asking.{Asking, answer, ask}
use Rattle.asking.specs.Table.{keeping, asking}
use Rattle.asking.specs.Pull.{Ending, refused, came, walk_ask}
use Rattle.ask_directory.specs.Left.{Question, question, names_at, node_then, data_then}
use Rattle.ask_open.specs.declared.Stage.{Stage}
use Rattle.ask_open.specs.declared.Stage.TheVariants.{FirstCopy, SecondCopy, OneFirst, OneLast, TwoFirst, TwoLast, Journal}
use Rattle.ask_open.specs.Came.{open_came}
use Rattle.reader_state.specs.declared.At.{At}

-- the bytes that a reader holds: the path, in opening the two packs' first blocks, later the chosen pack's and the inode at hand or the answer's
-- block, and the NAT journal
pub record Memory : Type 0 where
  pub path : List ℕ
  pub first : List ℕ
  pub held : List ℕ
  pub journal : List ℕ

abbrev pub memory : List ℕ → List ℕ → List ℕ → List ℕ → Memory
memory path first block journal = record { path = path; first = first; held = block; journal = journal }

abbrev pub path_in : At → Memory → List ℕ
path_in at m = take at.path_length m.path

abbrev pub question_in : At → Memory → Question
question_in at m = question (keeping at.volume m.first m.journal) (path_in at m) at.index

-- ---- what is left when a block comes

-- the stages of opening, by their numbers
abbrev pub stage_of : ℕ → Stage
stage_of n =
    choose (eqb n 0) FirstCopy
    (choose (eqb n 1) SecondCopy
    (choose (eqb n 2) OneFirst
    (choose (eqb n 3) OneLast
    (choose (eqb n 4) (TwoFirst false)
    (choose (eqb n 5) (TwoFirst true)
    (choose (eqb n 6) (TwoLast false)
    (choose (eqb n 7) (TwoLast true) Journal)))))))

-- the target's table block came
abbrev pub table_then : At → Memory → Seen → List ℕ → Asking Ending
table_then at m s l =
    asking (question_in at m).kept came s
    (and_then (at_entry (bounds_of at.volume) at.target.number at.spot.ino at.target.place (entry_in l at.target.number))
    (node_then (question_in at m) at.spot m.held at.target.index at.target.hop))

-- its block came
abbrev pub target_then : At → Memory → Seen → List ℕ → Asking Ending
target_then at m s l =
    asking (question_in at m).kept came s
    (and_then (at_block at.target.number at.spot.ino at.target.place at.table_inode l)
    (node_then (question_in at m) at.spot m.held at.target.index at.target.hop))

-- a data block came
abbrev pub block_then : At → Memory → Seen → List ℕ → Asking Ending
block_then at m s l =
    asking (question_in at m).kept came s (data_then (question_in at m) at.spot m.held (names_at (question_in at m) at.spot) (held l))

-- in opening, stages 0 to 8, and in the walk: 9 a table block, 10 a node, 11 a data block
unfoldable pub block_came : At → Memory → Seen → List ℕ → Asking Ending
block_came at m s l =
    choose (ltb at.stage 9)
    (open_came (walk_ask s (path_in at m) at.index) at.card_blocks at.volume m.first m.held (stage_of at.stage) l)
    (choose (eqb at.stage 9) (table_then at m s l) (choose (eqb at.stage 10) (target_then at m s l) (block_then at m s l)))

-- ---- the answer

abbrev pub came_with : ℕ → Fetched → Seen → Ending
came_with count content s = came (ran (ok (record { count = count; content = content })) s)

-- 0: a refusal; 1: an answer that ended the walk; 2: a hole; 3: the block that is held; 4: what is in the inode that is held
unfoldable pub ending_by : At → Memory → Seen → Ending
ending_by at m s =
    choose (eqb at.stage 0) (refused at.answer)
    (choose (eqb at.stage 1) (came (ran (stop at.answer) s))
    (choose (eqb at.stage 2) (came_with at.byte_count hole s)
    (choose (eqb at.stage 3) (came_with at.byte_count (held m.held) s)
    (came_with at.byte_count (held (drop inline_start m.held)) s))))

-- What is left, with what was listed: K10: "Each step asks for one block or gives the answer".
unfoldable pub resume_by : At → Memory → Seen → Asking Ending
resume_by at m s = choose (eqb at.asks 0) (answer (ending_by at m s)) (ask at.block (block_came at m s))
