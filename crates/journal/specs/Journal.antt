-- A journal in a checkpoint pack: a 16-bit count, then entries of one width, each of them a number and what is said of it. For a
-- search, the NAT journal and the SIT journal differ in the width alone.
use Rattle.std.specs.Prelude.{List, Bool, false, ◌||◌, ℕ, zero, suc, ◌+◌, ◌*◌, eqb, leb, Option, Some, None, is_some}
use Rattle.field.specs.Number.{le16, le32}
use Rattle.field.specs.Choice.{choose}

-- "at most 38 (else 8)", "at most 6; more is 8": a journal counts at most so many entries
abbrev pub count_within : ℕ → List ℕ → Bool
count_within most journal = leb (le16 journal 0) most

-- where entry i starts, and where the journal ends if i is its count
abbrev pub entry_start : ℕ → ℕ → ℕ
entry_start width i = 2 + width * i

-- the number that entry i is of
abbrev pub number_of : ℕ → List ℕ → ℕ → ℕ
number_of width journal i = le32 journal (entry_start width i)

-- where the first entry with the number starts, of k entries from entry i on
unfoldable pub search_from : ℕ → List ℕ → ℕ → ℕ → ℕ → Option ℕ
search_from width journal number zero i = None
search_from width journal number (suc k) i =
    choose (eqb (number_of width journal i) number) (Some (entry_start width i)) (search_from width journal number k (i + 1))

-- K1: "the first of equals decides": where it starts. A NAT journal that is read has no equals, by K9 (`only_entry` in proofs/Once)
unfoldable pub journal_find : ℕ → List ℕ → ℕ → Option ℕ
journal_find width journal number = search_from width journal number (le16 journal 0) 0

-- one of the entries before entry i has its number
abbrev pub named_before : ℕ → List ℕ → ℕ → Bool
named_before width journal i = is_some (search_from width journal (number_of width journal i) i 0)

-- one of the first k entries has a number that one before it has
unfoldable pub twice_among : ℕ → List ℕ → ℕ → Bool
twice_among width journal zero = false
twice_among width journal (suc k) = twice_among width journal k || named_before width journal k

-- K9: the journal "names one number twice", whatever the number and whatever it says of it; what is behind the count is no entry
unfoldable pub names_twice : ℕ → List ℕ → Bool
names_twice width journal = twice_among width journal (le16 journal 0)
