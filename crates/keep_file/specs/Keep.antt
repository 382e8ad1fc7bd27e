-- K6: "a keep file", a term of the paper: an answer, and all that it rested on.
use Rattle.std.specs.Prelude.{ℕ, List, [], ◌∷◌, eqb}
use Rattle.field.specs.Choice.{choose}
use Rattle.nat.specs.Table.{TableAnswer, OutOfRange}
use Rattle.walk.specs.Walk.{View}
use Rattle.node.specs.Node.{Bounds}

-- a listed number, and what is kept of it
pub record Kept (A : Type 0) : Type 0 where
  pub number : ℕ
  pub value : A

-- the numbers alone
unfoldable pub numbers_of : {A : Type 0} → List (Kept A) → List ℕ
numbers_of [] = []
numbers_of (k ∷ ks) = k.number ∷ numbers_of ks

-- each number of a list, with what f says of it
unfoldable pub kept_by : {A : Type 0} → (ℕ → A) → List ℕ → List (Kept A)
kept_by f [] = []
kept_by f (n ∷ ns) = record { number = n; value = f n } ∷ kept_by f ns

-- what is kept of a number; `other` if it isn't listed
unfoldable pub kept_of : {A : Type 0} → A → List (Kept A) → ℕ → A
kept_of other [] n = other
kept_of other (k ∷ ks) n = choose (eqb k.number n) k.value (kept_of other ks n)

-- what a keep file holds: "the name [K7: the path], index, answer and count, 4,096 block bytes (zeros unless 0), main area bounds, each
-- listed node number with its table answer .., each listed block's number with all its bytes"
pub record Keep : Type 0 where
  pub path : List ℕ
  pub index : ℕ
  pub answer : ℕ
  pub count : ℕ
  pub block : List ℕ
  pub bounds : Bounds
  pub nodes : List (Kept TableAnswer)
  pub blocks : List (Kept (List ℕ))

-- The card as far as it is kept: its table answers and its blocks' bytes. Of a number that isn't listed nothing is asked.
abbrev pub kept_answer : List (Kept TableAnswer) → ℕ → TableAnswer
kept_answer nodes = kept_of OutOfRange nodes

abbrev pub kept_block : List (Kept (List ℕ)) → ℕ → List ℕ
kept_block blocks = kept_of [] blocks

abbrev pub kept_view : Keep → View
kept_view k = record { table = kept_answer k.nodes; block = kept_block k.blocks }
