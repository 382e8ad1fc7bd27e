-- The words of demand 3, over the definitions that the contracts of Pull and Compare cite.
use Rattle.std.specs.Prelude.{ℕ, ◌<◌, ◌≤◌, ◌≡◌, List, ◌⊎◌, true}
use Rattle.field.specs.Card.{card_of}
use Rattle.checkpoint.specs.declared.Volume.{Volume}
use Rattle.nat.specs.Table.{table_answer}
use Rattle.list.specs.Lists.{AllOf, entries}
use Rattle.node.specs.Node.{bounds_of}
use Rattle.path.specs.Path.{part_count}
use Rattle.pull.specs.Pull.{Lent, Result, result_in, lent_in_shape, nodes_left, blocks_left, pulled}
use Rattle.compare.specs.declared.Compared.{Compared}
use Rattle.compare.specs.Compare.{compared}
use Rattle.pull_again.specs.declared.Again.{Again}

-- "A pull got past opening if its answer isn't 4 to 8."
abbrev pub PastOpening : Result → Type 0
PastOpening r = (r.numbers.answer < 4) ⊎ (8 < r.numbers.answer)

-- what Compare says of a pull's lists: "the first image as the kept one, the second as the new one"
abbrev pub said : List ℕ → List ℕ → Result → Compared
said kept fresh r = compared kept fresh (nodes_left r) (blocks_left r)

-- "both images have the same main area bounds, each listed node number has the same table answer in both, and each listed block the
-- same 4,096 bytes in both"
pub record SameOn (kept : List ℕ) (v : Volume) (fresh : List ℕ) (u : Volume) (nodes blocks : List ℕ) : Type 0 where
  pub bounds : bounds_of v ≡ bounds_of u
  pub tables : AllOf (λ n. table_answer (card_of kept) v n ≡ table_answer (card_of fresh) u n) nodes
  pub bytes : AllOf (λ b. (card_of kept).block b ≡ (card_of fresh).block b) blocks

-- "Equal in both pulls are the result number, the byte count, both list counts, all list entries up to them and, with 0 and 1, all
-- 4,096 bytes of the block buffer."
pub record SamePull (r q : Result) : Type 0 where
  pub numbers : r.numbers ≡ q.numbers
  pub nodes : entries (nodes_left r) ≡ entries (nodes_left q)
  pub blocks : entries (blocks_left r) ≡ entries (blocks_left q)
  pub block : r.numbers.answer ≤ 1 → r.memory.block ≡ q.memory.block

-- What a host that pulls, compares and pulls again has in hand, over the memory that it lent to the first pull and to the second:
-- both pulls are the definition's, Compare says what it says of the first one's lists, and where that is "same" the pulls are the same.
pub record PulledAgain (kept fresh path : List ℕ) (index : ℕ) (lent lent' left left' : Lent) (r : Again) : Type 0 where
  pub first : result_in r.first left ≡ pulled kept path index lent
  pub compared : r.compared ≡ said kept fresh (pulled kept path index lent)
  pub second : result_in r.second left' ≡ pulled fresh path index lent'
  pub same : lent_in_shape (part_count path) lent' ≡ true → r.compared.answer ≡ 15 → SamePull (result_in r.first left) (result_in r.second left')
