-- The words of K6 over what a host does: it writes a keep file, and when a new image comes it compares the file with it.
use Rattle.std.specs.Prelude.{ℕ, ◌≤◌, ◌≡◌, List, true, take}
use Rattle.list.specs.Lists.{entries}
use Rattle.path.specs.Path.{part_count}
use Rattle.pull.specs.Pull.{Lent, Result, result_in, lent_in_shape, nodes_left, blocks_left, pulled}
use Rattle.keep_file.specs.Keep.{numbers_of, Keep}
use Rattle.keep_file.specs.Reading.{kept, read_keep}
use Rattle.keep.specs.Writing.{Writing, writing, keep_written}
use Rattle.keep_compare.specs.Compare.{keep_compared}
use Rattle.keep_again.specs.declared.Again.{Again}

-- "keep files so written": the bytes that the writer put into the room, as many as it says. After a refusal there are none. K9: "claimed for
-- keep files written since": a writer that doesn't refuse what K9 refuses is another one
abbrev pub file_of : Writing → List ℕ
file_of w = take w.numbers.length w.room

-- a pull gives what is kept: the answer, the byte count, both lists and, with 0 and 1, all 4,096 bytes of the block
pub record GivesKept (k : Keep) (r : Result) : Type 0 where
  pub answer : r.numbers.answer ≡ k.answer
  pub count : r.numbers.byte_count ≡ k.count
  pub nodes : entries (nodes_left r) ≡ numbers_of k.nodes
  pub blocks : entries (blocks_left r) ≡ numbers_of k.blocks
  pub block : k.answer ≤ 1 → r.memory.block ≡ k.block

-- What a host that keeps a file, compares it and pulls again has in hand: the file is the writer's, the comparison is the definition's of
-- that file, and where it says "same" the file holds what the pull on the new image gives.
pub record KeptAgain (image fresh path : List ℕ) (index : ℕ) (room room' : List ℕ) (lent left : Lent) (r : Again) : Type 0 where
  pub wrote : writing r.kept room' ≡ keep_written image path index room
  pub compared : r.compared ≡ keep_compared (file_of (writing r.kept room')) fresh
  pub second : result_in r.second left ≡ pulled fresh path index lent
  pub same : lent_in_shape (part_count path) lent ≡ true → r.compared.answer ≡ 15
      → (k : Keep) × (read_keep (file_of (writing r.kept room')) ≡ kept k) × (k.path ≡ path) × (k.index ≡ index) × GivesKept k (result_in r.second left)
