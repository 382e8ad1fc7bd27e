-- What the name hash call answers: its cases. Their numbers are given where they cross, in the crate harptimber.
use Rattle.std.specs.Prelude.{ℕ, List, Option, Some, None}
use Rattle.field.specs.Choice.{choose}
use Rattle.name_hash.specs.Name.{is_name}
use Rattle.name_hash.specs.Hash.{hash_of}

-- "Name hash (name): 4 for a bad name, else 0 and the hash."
abbrev pub hashed : List ℕ → Option ℕ
hashed name = choose (is_name name) (Some (hash_of name)) None
