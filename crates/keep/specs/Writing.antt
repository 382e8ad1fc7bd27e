-- What the writer of keep files answers, and every byte of the room that it was lent as it leaves it.
use Rattle.std.specs.Prelude.{ℕ, ◌-◌, ◌*◌, ◌&&◌, List, ◌++◌, length, drop, replicate, leb}
use Rattle.field.specs.Card.{Card, card_of}
use Rattle.field.specs.Choice.{choose}
use Rattle.superblock.specs.Shape.{in_shape}
use Rattle.checkpoint.specs.declared.Volume.{Volume}
use Rattle.checkpoint.specs.Volume.{Opening, Opened, Refused, opened_image}
use Rattle.path.specs.Path.{is_path}
use Rattle.walk.specs.Walk.{view_of, Ran, Outcome}
use Rattle.node.specs.Node.{bounds_of}
use Rattle.pull.specs.Walk.{Block}
use Rattle.pull.specs.Pull.{nodes_most, blocks_most, answer_of, count_of, buffer_after, pull_run}
use Rattle.keep_file.specs.Keep.{kept_by, Keep}
use Rattle.keep_file.specs.Layout.{file_end, layout}
use Rattle.keep.specs.declared.Written.{Written}

-- "4,096 block bytes (zeros unless 0)": what a pull leaves in a buffer of zeros
abbrev pub zeros : List ℕ
zeros = replicate 4096 0

-- what is kept of a run of a pull's walk on an opened card: "each listed node number with its table answer .., each listed block's number
-- with all its bytes"
unfoldable pub keep_run : Card → Volume → List ℕ → ℕ → Ran (Outcome Block) → Keep
keep_run card v path index r = record {
  path = path;
  index = index;
  answer = answer_of r.value;
  count = count_of r.value;
  block = buffer_after r.value zeros;
  bounds = bounds_of v;
  nodes = kept_by (view_of card v).table r.seen.nodes;
  blocks = kept_by (view_of card v).block r.seen.blocks;
}

-- "The writer makes the pull itself"
abbrev pub keep_of : Card → Volume → List ℕ → ℕ → Keep
keep_of card v path index = keep_run card v path index (pull_run card v path index)

-- the file of it
abbrev pub file_from : Card → Volume → List ℕ → ℕ → List ℕ
file_from card v path index = layout (keep_of card v path index)

-- the most that a path of k names can need: it has at most 256k - 1 bytes, and its lists are the pull's
abbrev pub keep_most : ℕ → ℕ
keep_most k = file_end (256 * k - 1) (nodes_most k) (blocks_most k)

-- the writer's numbers, and the lent room as it leaves it
pub record Writing : Type 0 where
  pub numbers : Written
  pub room : List ℕ

abbrev pub writing : Written → List ℕ → Writing
writing numbers room = record { numbers = numbers; room = room }

-- "nothing is written"
abbrev pub refused_keep : ℕ → List ℕ → Writing
refused_keep answer room = writing (record { answer = answer; length = 0 }) room

-- "The lent room is refused as too small exactly if the file doesn't fit, with 17, and then nothing is written; else it answers 0 with
-- the length, and later bytes stay."
unfoldable pub file_written : List ℕ → List ℕ → Writing
file_written file room =
    choose (leb (length file) (length room))
    (writing (record { answer = 0; length = length file }) (file ++ drop (length file) room))
    (refused_keep 17 room)

abbrev pub keep_from : Card → Opening → List ℕ → ℕ → List ℕ → Writing
keep_from card (Opened v) path index room = file_written (file_from card v path index) room
keep_from card (Refused answer) path index room = refused_keep answer room

-- "4 to 8 come first": 4 for the image's length and the path
unfoldable pub keep_written : List ℕ → List ℕ → ℕ → List ℕ → Writing
keep_written image path index room =
    choose (in_shape (length image) && is_path path) (keep_from (card_of image) (opened_image image) path index room) (refused_keep 4 room)
