-- What a reader gives, once the answer is there.
use Rattle.std.specs.Prelude.{ℕ, ◌+◌, ◌/◌, Bool, ◌&&◌, ◌||◌, List, length, drop, eqb, leb, ltb}
use Rattle.field.specs.Choice.{choose}
use Rattle.inode.specs.Inode.{inline_start}
use Rattle.path.specs.Path.{name_count}
use Rattle.node.specs.Block.{hole, held}
use Rattle.pull.specs.declared.Pulled.{Pulled}
use Rattle.pull.specs.Pull.{nodes_most, blocks_most, Lent, Result, lent_in_shape, content_bytes, refused_pull}
use Rattle.asking.specs.Pull.{result_of}
use Rattle.reader_state.specs.declared.At.{At}
use Rattle.reader_state.specs.Resume.{ending_by}
use Rattle.reader.specs.declared.Reader.{Reader}
use Rattle.reader.specs.Reading.{memory_in, seen_by, path_of}

-- how many names its path has, and 0 of what is no path
abbrev pub names_in : Reader → ℕ
names_in r = name_count (path_of r)

-- where the answer's bytes start in the block that is held
abbrev pub start_by : ℕ → ℕ
start_by stage = choose (ltb 3 stage) inline_start 0

-- so many numbers: no more than eight names list, and no more than these bytes hold
abbrev pub list_fits : ℕ → ℕ → ℕ → Bool
list_fits count most bytes = leb count most && leb count (bytes / 4)

-- a number that refuses or ends a walk is an answer
abbrev pub answer_fits : ℕ → ℕ → Bool
answer_fits stage answer = ltb 1 stage || leb answer 14

-- the counts fit the lists, and the file's bytes the block that is held; the number is an answer
unfoldable pub counts_fit_in : At → ℕ → ℕ → Bool
counts_fit_in at nodes blocks =
    list_fits at.node_count (nodes_most 8) nodes && list_fits at.block_count (blocks_most 8) blocks
    && leb (at.byte_count + start_by at.stage) 4096 && answer_fits at.stage at.answer

-- the answer is there, and the memory has the shape that a pull takes
unfoldable pub readable : Reader → Lent → Bool
readable r lent =
    eqb r.at.asks 0 && leb r.at.path_length 2048 && lent_in_shape (names_in r) lent
    && counts_fit_in r.at (length lent.nodes) (length lent.blocks)

-- an answer's numbers, and the bytes of the block buffer, by the answer's kind
abbrev pub answer_by : ℕ → ℕ → ℕ
answer_by stage answer = choose (eqb stage 1) answer (choose (eqb stage 2) 1 0)

abbrev pub count_by : ℕ → ℕ → ℕ
count_by stage count = choose (eqb stage 1) 0 count

abbrev pub numbers_of : At → Pulled
numbers_of at =
    record {
      answer = answer_by at.stage at.answer;
      byte_count = count_by at.stage at.byte_count;
      node_count = at.node_count;
      block_count = at.block_count;
    }

abbrev pub bytes_by : ℕ → ℕ → List ℕ → List ℕ → List ℕ
bytes_by stage count block buffer =
    choose (eqb stage 1) buffer (choose (eqb stage 2) (content_bytes count hole) (content_bytes count (held (drop (start_by stage) block))))

-- as the pull; 4, with nothing written, for memory that a pull doesn't take, or before the answer is there
unfoldable pub read_out : Reader → Lent → Result
read_out r lent =
    choose (readable r lent) (result_of (ending_by r.at (memory_in r) (seen_by r.at r.nodes r.blocks)) lent) (refused_pull 4 lent)
