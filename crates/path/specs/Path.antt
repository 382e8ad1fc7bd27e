-- How a path parts into names. K7: "one to eight names parted by single slashes; an empty part or a ninth is 4".
use Rattle.std.specs.Prelude.{ℕ, Bool, true, ◌&&◌, List, [], ◌∷◌, length, eqb, leb}
use Rattle.field.specs.Choice.{choose}
use Rattle.name_hash.specs.Name.{is_name}

-- the slash, as a byte
abbrev pub slash : ℕ
slash = 47

-- "one to eight"
abbrev pub names_most : ℕ
names_most = 8

-- the bytes before the first slash, all if there is none: what the code goes by
unfoldable pub first_part : List ℕ → List ℕ
first_part [] = []
first_part (b ∷ path) = choose (eqb b slash) [] (b ∷ first_part path)

-- a byte at the front of the first of some parts; a path has always one, so the first case doesn't come up
abbrev pub on_first : ℕ → List (List ℕ) → List (List ℕ)
on_first b [] = (b ∷ []) ∷ []
on_first b (part ∷ parts) = (b ∷ part) ∷ parts

-- what stands before, between and behind a path's slashes; a part may be empty
unfoldable pub parts_of : List ℕ → List (List ℕ)
parts_of [] = [] ∷ []
parts_of (b ∷ path) = choose (eqb b slash) ([] ∷ parts_of path) (on_first b (parts_of path))

-- "k names"
unfoldable pub part_count : List ℕ → ℕ
part_count path = length (parts_of path)

unfoldable pub are_names : List (List ℕ) → Bool
are_names [] = true
are_names (part ∷ parts) = is_name part && are_names parts

-- A path has at most eight parts, and each of them is a name. There is always a first part, and an empty one is no name.
unfoldable pub is_path : List ℕ → Bool
is_path path = leb (part_count path) names_most && are_names (parts_of path)

-- how many names a path has, and 0 of what is no path
unfoldable pub name_count : List ℕ → ℕ
name_count path = choose (is_path path) (part_count path) 0
