-- The main area's bounds, and numbers that stand a width apart, as the code has them.
use Rattle.std.specs.Prelude.{◌≡◌, ℕ, ◌+◌, ◌*◌, Bool, true, false, List, Option, Some, None, Result, Ok, Err}
use Rattle.field.specs.Number.{le32}
use Rattle.list.specs.Lists.{Listed, column, entries, count_fits}
use Rattle.node.specs.Node.{Bounds}
use Rattle.list.specs.Search.{searched}
use Rattle.compare.specs.declared.Bounds as c
use Rattle.compare.specs.declared.column.Column.{Column}

abbrev pub bounds_in : c.Bounds → Bounds
bounds_in b = record { start = b.start; end = b.end }

abbrev pub numbers_in : Column → List ℕ
numbers_in l = column l.width l.bytes.now l.start l.count

-- where number i stands, and the number
abbrev pub place_of : Column → ℕ → ℕ
place_of l i = l.start + l.width * i

abbrev pub number_at : Column → ℕ → ℕ
number_at l i = le32 l.bytes.now (place_of l i)

-- a list as it comes, or none where its count exceeds its slice
abbrev pub ListedIn : Listed → Option Column → Type 0
ListedIn l (Some c) = (count_fits l ≡ true) × (numbers_in c ≡ entries l) × (c.count ≡ l.count)
ListedIn l None = count_fits l ≡ false

-- Ok if all numbers pass a test, else the first that doesn't
abbrev pub all_pass : (ℕ → Bool) → List ℕ → Result (Unit {0}) ℕ
all_pass passes l = searched passes Err (Ok tt) l
