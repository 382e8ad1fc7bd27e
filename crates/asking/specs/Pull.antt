-- A pull that is fed one block at a time: opening, then the walk.
use Rattle.std.specs.Prelude.{ℕ, zero, suc, ◌≤◌, Bool, ◌&&◌, List, [], ◌∷◌, length, eqb, leb}
use Rattle.field.specs.Choice.{choose}
use Rattle.superblock.specs.Shape.{most_blocks}
use Rattle.path.specs.Path.{is_path}
use Rattle.walk.specs.Walk.{Seen, empty, Ran, Outcome, Ended, BothRise}
use Rattle.node.specs.Node.{bounds_of}
use Rattle.pull.specs.Walk.{Block, pull_walk}
use Rattle.pull.specs.Pull.{nodes_most, blocks_most, Lent, Result, written, refused_pull}
use Rattle.asking.specs.Asking.{Asking, answer, ask}
use Rattle.asking.specs.Table.{asking}
use Rattle.asking.specs.Open.{Opens, opens, refuses, open_ask}

-- what a reader comes to: a refusal, or what the walk came to
pub data Ending : Type 0 where
  refused : ℕ → Ending
  came : Ran (Outcome Block) → Ending

-- the walk, once the card is open, from what was seen
unfoldable pub walk_ask : Seen → List ℕ → ℕ → Opens → Asking Ending
walk_ask s path index (opens t) = asking t came s (pull_walk (bounds_of t.volume) path index)
walk_ask s path index (refuses n) = answer (refused n)

-- a card of so many blocks, and the path, are in shape
unfoldable pub start_in_shape : ℕ → List ℕ → Bool
start_in_shape blocks path = leb 2 blocks && leb blocks most_blocks && is_path path

-- K10: the reader "is given the card's block count, the path and index". What is out of shape is 4 at once.
unfoldable pub read_ask : ℕ → List ℕ → ℕ → Asking Ending
read_ask blocks path index = choose (start_in_shape blocks path) (open_ask (walk_ask empty path index) blocks) (answer (refused 4))

-- one step: it "takes 4,096 bytes"; "a step after the answer repeats it whatever comes. Before that, bytes of another length give 4."
unfoldable pub fed_with : List ℕ → Asking Ending → Asking Ending
fed_with bytes (answer a) = answer a
fed_with bytes (ask b k) = choose (eqb (length bytes) 4096) (k bytes) (answer (refused 4))

-- steps, one after another, with whatever comes
unfoldable pub steps : List (List ℕ) → Asking Ending → Asking Ending
steps [] a = a
steps (l ∷ ls) a = steps ls (fed_with l a)

-- so many steps, each fed the block that was asked for
unfoldable pub driven : (ℕ → List ℕ) → ℕ → Asking Ending → Asking Ending
driven block zero a = a
driven block (suc n) (answer x) = answer x
driven block (suc n) (ask b k) = driven block n (fed_with (block b) (ask b k))

-- What is known of a walk's end, with k names, whatever bytes came. K7: "With k names at most 175k + 4 node numbers and 233k + 5 blocks are
-- listed"; "rising, each once"; "a byte count 1 to 4,096", or an answer that can end a walk
pub record CameIn (k : ℕ) (r : Ran (Outcome Block)) : Type 0 where
  pub nodes_fit : length r.seen.nodes ≤ nodes_most k
  pub blocks_fit : length r.seen.blocks ≤ blocks_most k
  pub rise : BothRise r.seen
  pub ended : Ended (λ b. (1 ≤ b.count) × (b.count ≤ 4096)) r.value

-- and of a reader's. "Fed other bytes it still answers": one of 4 to 8, or what a walk comes to
abbrev pub EndingIn : ℕ → Ending → Type 0
EndingIn k (refused n) = (4 ≤ n) × (n ≤ 8)
EndingIn k (came r) = CameIn k r

-- an ending as a pull's numbers and lent memory
abbrev pub result_of : Ending → Lent → Result
result_of (came r) lent = written r lent
result_of (refused n) lent = refused_pull n lent
