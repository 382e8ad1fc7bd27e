-- Rising lists of numbers, and such a list at the front of lent bytes: "a list is a byte slice, four bytes a number".
-- Inside, bytes are only read as numbers, so nothing asks that a byte is below 256 or a number below 2 ^ 32. `over`, at the end,
-- says for public contracts what the bytes are.
use Rattle.std.specs.Prelude.{ℕ, zero, suc, ◌+◌, ◌*◌, ◌/◌, ◌%◌, ◌<◌, ◌≤◌, ◌≡◌, List, [], ◌∷◌, ◌++◌, length, drop, Bool, ltb, leb, eqb}
use Rattle.field.specs.Number.{le32}
use Rattle.field.specs.Choice.{choose}

-- x in its place in a rising list, once
unfoldable pub insert : ℕ → List ℕ → List ℕ
insert x [] = x ∷ []
insert x (y ∷ ys) = choose (ltb x y) (x ∷ y ∷ ys) (choose (eqb x y) (y ∷ ys) (y ∷ insert x ys))

-- K14: "the lists are the union": the numbers of both rising lists, each once
unfoldable pub union : List ℕ → List ℕ → List ℕ
union [] b = b
union (x ∷ a) b = insert x (union a b)

-- P holds of each element
abbrev pub AllOf : (ℕ → Type 0) → List ℕ → Type 0
AllOf P [] = Unit {0}
AllOf P (x ∷ xs) = P x × AllOf P xs

-- "rising, each once": each element is below all that follow it
abbrev pub Rising : List ℕ → Type 0
Rising [] = Unit {0}
Rising (x ∷ xs) = AllOf (λ y. x < y) xs × Rising xs

-- k numbers of lent bytes, from entry i on
unfoldable pub numbers : List ℕ → ℕ → ℕ → List ℕ
numbers l i zero = []
numbers l i (suc k) = le32 l (4 * i) ∷ numbers l (i + 1) k

-- the numbers that stand `width` bytes apart: k of them, the first at an offset
unfoldable pub column : ℕ → List ℕ → ℕ → ℕ → List ℕ
column width l at zero = []
column width l at (suc k) = le32 l at ∷ column width l (at + width) k

-- a list as it comes: "a byte slice, four bytes a number", and how many of its numbers count
pub record Listed : Type 0 where
  pub bytes : List ℕ
  pub count : ℕ

abbrev pub listing : List ℕ → ℕ → Listed
listing bytes count = record { bytes = bytes; count = count }

-- its numbers, up to the count
abbrev pub entries : Listed → List ℕ
entries l = numbers l.bytes 0 l.count

-- not "a count exceeds its slice"; "a remainder isn't used"
abbrev pub count_fits : Listed → Bool
count_fits l = leb l.count (length l.bytes / 4)

-- the first n numbers of l rise, and with x among them they fit
pub record Holds (x : ℕ) (l : List ℕ) (n : ℕ) : Type 0 where
  pub room : 4 * length (insert x (numbers l 0 n)) ≤ length l
  pub rising : Rising (numbers l 0 n)

-- of d the first n entries were listed; now l is there, n' entries of it are listed, no fewer, and the later ones are untouched
pub record Grown (d : List ℕ) (n : ℕ) (l : List ℕ) (n' : ℕ) : Type 0 where
  pub more : n ≤ n'
  pub rest : drop (4 * n') l ≡ drop (4 * n') d
  pub size : length l ≡ length d

-- what an insertion of x among the first n numbers of d leaves: l, of which the first n' are listed
pub record HasInserted (d : List ℕ) (n x : ℕ) (l : List ℕ) (n' : ℕ) : Type 0 where
  pub list : numbers l 0 n' ≡ insert x (numbers d 0 n)
  pub grown : Grown d n l n'

-- numbers as bytes, the lowest byte first
unfoldable pub bytes_of : List ℕ → List ℕ
bytes_of [] = []
bytes_of (x ∷ xs) = x % 256 ∷ x / 256 % 256 ∷ x / 65536 % 256 ∷ x / 16777216 ∷ bytes_of xs

-- "Written: the first entries, as many as the count, rising, each once; later entries untouched": ns written into d
unfoldable pub over : List ℕ → List ℕ → List ℕ
over ns d = bytes_of ns ++ drop (4 * length ns) d
