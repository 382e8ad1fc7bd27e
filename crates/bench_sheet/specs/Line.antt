-- A table over the definitions: in each line the numbers that they compute, and the numbers that document 01, or a request, states.
use Rattle.std.specs.Prelude.{◌≡◌, List, Bool, ℕ}
use mathlib.Core.List as List
use Rattle.field.specs.Choice.{choose}

pub record Line : Type 0 where
  pub computed : List ℕ
  pub stated : List ℕ

infixl 20 ◌is◌
abbrev pub ◌is◌ : List ℕ → List ℕ → Line
xs is ys = record { computed = xs; stated = ys }

-- every line's two sides are equal
abbrev pub Holds : List Line → Type 0
Holds table = List.map (λ l. l.computed) table ≡ List.map (λ l. l.stated) table

-- a rule's answer as a number: 1 yes, 0 no
abbrev pub yes : Bool → ℕ
yes rule = choose rule 1 0
