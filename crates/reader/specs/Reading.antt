-- A reader that is fed one block at a time: what its state means.
use Rattle.std.specs.Prelude.{ℕ, ◌≤◌, ◌≡◌, Bool, true, false, ◌&&◌, ◌||◌, List, ◌⊎◌, length, eqb, leb, Option, Some, None}
use Rattle.field.specs.Choice.{choose}
use Rattle.list.specs.Lists.{Rising, insert, numbers}
use Rattle.compare.specs.Lists.{is_rising}
use Rattle.walk.specs.Walk.{Seen}
use Rattle.pull.specs.Pull.{nodes_most, blocks_most}
use Rattle.asking.specs.Asking.{Asking, answer}
use Rattle.asking.specs.Pull.{Ending, refused, start_in_shape, read_ask, fed_with}
use Rattle.reader_state.specs.declared.At.{At}
use Rattle.reader_state.specs.Resume.{Memory, memory, path_in, resume_by}
use Rattle.ask_open.specs.declared.Keep.TheVariants as k
use Rattle.reader_state.specs.declared.Decision.{Decision}
use Rattle.reader_state.specs.Decision.{refuses_at}
use Rattle.reader_state.specs.Fits.{fits, FitsBy, Form, Decided}
use Rattle.reader.specs.declared.Reader.{Reader}

abbrev pub memory_in : Reader → Memory
memory_in r = memory r.path r.first r.held r.journal

abbrev pub seen_by : At → List ℕ → List ℕ → Seen
seen_by at nodes blocks = record { nodes = numbers nodes 0 at.node_count; blocks = numbers blocks 0 at.block_count }

-- what a state has still to ask
abbrev pub resume : Reader → Asking Ending
resume r = resume_by r.at (memory_in r) (seen_by r.at r.nodes r.blocks)

-- the reader with other numbers
abbrev pub with_numbers : Reader → At → Reader
with_numbers r at =
    record { at = at; path = r.path; first = r.first; held = r.held; journal = r.journal; nodes = r.nodes; blocks = r.blocks }

-- ---- a state that a step goes on from

-- both lists have room for one number more and rise, and the numbers fit the bytes
unfoldable pub sound_by : At → Memory → List ℕ → List ℕ → Bool
sound_by at m nodes blocks =
    leb at.node_count (nodes_most 8) && leb at.block_count (blocks_most 8) && is_rising (numbers nodes 0 at.node_count)
    && is_rising (numbers blocks 0 at.block_count) && fits at m

abbrev pub is_sound : Reader → Bool
is_sound r = eqb r.at.asks 0 || sound_by r.at (memory_in r) r.nodes r.blocks

-- K10: "goes on by a step that hands the reader's state back": what is left is fed with these bytes. A state that doesn't fit, which neither
-- the start nor a step gave, is 4.
unfoldable pub stepped : Reader → List ℕ → Asking Ending
stepped r bytes = choose (is_sound r) (fed_with bytes (resume r)) (answer (refused 4))

-- the path that it was given
abbrev pub path_of : Reader → List ℕ
path_of r = path_in r.at (memory_in r)

-- what holds of each state that the start or a step gave: its lists rise, and its numbers fit its bytes
pub record Kept (r : Reader) : Type 0 where
  pub fit : FitsBy (eqb r.at.asks 0) r.at (memory_in r)
  pub path : r.at.path_length ≤ 2048
  pub form : Form r.at
  pub nodes_rise : Rising (numbers r.nodes 0 r.at.node_count)
  pub blocks_rise : Rising (numbers r.blocks 0 r.at.block_count)

-- a start: what is left is the whole tree
pub record Started (blocks : ℕ) (path : List ℕ) (index : ℕ) (r : Reader) : Type 0 where
  pub left : resume r ≡ read_ask blocks path index
  pub kept : Kept r
  pub given : start_in_shape blocks path ≡ true → path_of r ≡ path

-- a step: what is left is what was left, fed with these bytes. "a step after the answer repeats it whatever comes"
pub record Stepped (r : Reader) (bytes : List ℕ) (t : Reader) : Type 0 where
  pub left : resume t ≡ stepped r bytes
  pub kept : Kept r → Kept t
  pub path : path_of t ≡ path_of r
  pub repeats : r.at.asks ≡ 0 → t ≡ r

-- ---- what a step does, decided first

-- a list with a number more, if there is one to list
abbrev pub with_number : Option ℕ → List ℕ → List ℕ
with_number (Some x) l = insert x l
with_number None l = l

-- 4: nothing is kept or listed
abbrev pub refusal_on : At → Decision
refusal_on at = record { at = refuses_at at 4; keep = k.Nothing; journal = false; looked = None; read = None }

-- from a state that fits a block leads on, and all else to 4
abbrev pub GoesBy : At → Memory → List ℕ → List ℕ → List ℕ → Decision → Type 0
GoesBy at m nodes blocks bytes d =
    ((sound_by at m nodes blocks ≡ true) × (length bytes ≡ 4096) × Decided at m bytes d)
    ⊎ ((d ≡ refusal_on at) × ((length bytes ≡ 4096 → ⊥) ⊎ (sound_by at m nodes blocks ≡ false)))
