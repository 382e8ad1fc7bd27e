-- What the writer's functions lay, part by part, from what a pull left.
use Rattle.std.specs.Prelude.{ℕ, ◌*◌, ◌<◌, ◌≤◌, ◌≡◌, List, [], ◌∷◌, ◌++◌, length}
use Rattle.field.specs.Card.{Card}
use Rattle.checkpoint.specs.declared.Volume.{Volume}
use Rattle.checkpoint.specs.Volume.{VolumeIn}
use Rattle.nat.specs.Table.{table_answer}
use Rattle.list.specs.Lists.{AllOf, Listed, entries, bytes_of}
use Rattle.node.specs.Node.{bounds_of}
use Rattle.pull.specs.declared.Pulled.{Pulled}
use Rattle.pull.specs.Pull.{Result, lending, result_in, nodes_left, blocks_left}
use Rattle.checkpoint.specs.OpenImage.{card_in}
use Rattle.keep.specs.declared.KeptPull.{KeptPull}
use Rattle.keep_file.specs.Keep.{kept_by, Keep}
use Rattle.keep_file.specs.Layout.{file_end, header, answer_bytes, nodes_bytes, blocks_bytes}

-- a node number with its table answer, a block's number with its bytes
abbrev pub node_entry : Card → Volume → ℕ → List ℕ
node_entry card v n = bytes_of (n ∷ []) ++ answer_bytes (table_answer card v n)

abbrev pub block_entry : Card → ℕ → List ℕ
block_entry card b = bytes_of (b ∷ []) ++ card.block b

-- those of a whole list
abbrev pub nodes_of : Card → Volume → Listed → List ℕ
nodes_of card v nodes = nodes_bytes (kept_by (table_answer card v) (entries nodes))

abbrev pub blocks_of : Card → Listed → List ℕ
blocks_of card blocks = blocks_bytes (kept_by card.block (entries blocks))

-- all that stands before the lists
unfoldable pub front_of : Volume → List ℕ → ℕ → Pulled → List ℕ → List ℕ
front_of v path index p block =
    header (length path) p.node_count p.block_count ++ path ++ bytes_of (index ∷ p.answer ∷ p.byte_count ∷ []) ++ block
    ++ bytes_of (v.areas.main ∷ v.areas.main_end ∷ [])

-- what is kept of a pull's result
unfoldable pub keep_found : Card → Volume → List ℕ → ℕ → Result → Keep
keep_found card v path index r = record {
  path = path;
  index = index;
  answer = r.numbers.answer;
  count = r.numbers.byte_count;
  block = r.memory.block;
  bounds = bounds_of v;
  nodes = kept_by (table_answer card v) (entries (nodes_left r));
  blocks = kept_by card.block (entries (blocks_left r));
}

-- how long the file is then
abbrev pub end_found : List ℕ → Result → ℕ
end_found path r = file_end (length path) r.numbers.node_count r.numbers.block_count

-- a result that can be kept: its lists lie in their slices, its blocks in the card, and the file's length fits a number
pub record Keepable (card : Card) (v : Volume) (path : List ℕ) (r : Result) : Type 0 where
  pub volume : VolumeIn card v
  pub whole : length r.memory.block ≡ 4096
  pub nodes_in : 4 * r.numbers.node_count ≤ length r.memory.nodes
  pub blocks_in : 4 * r.numbers.block_count ≤ length r.memory.blocks
  pub inside : AllOf (λ b. b < card.blocks) (entries (blocks_left r))
  pub fits : end_found path r < 4294967296

-- what a pull left, as the code holds it, and what is kept of it
abbrev pub left_by : KeptPull → Result
left_by p = result_in p.pulled (lending p.block.now p.nodes.now p.blocks.now)

abbrev pub kept_from : KeptPull → Keep
kept_from p = keep_found (card_in p.card) p.card.volume p.path.now p.index (left_by p)

abbrev pub CanKeep : KeptPull → Type 0
CanKeep p = Keepable (card_in p.card) p.card.volume p.path.now (left_by p)
