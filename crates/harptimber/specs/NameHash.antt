-- Name hash as it crosses: "4 for a bad name, else 0 and the hash".
use Rattle.std.specs.Prelude.{ℕ, Option, Some, None}
use Rattle.harptimber.specs.declared.NameHash.{NameHash}

-- the numbers of each case
abbrev pub name_hash : Option ℕ → NameHash
name_hash (Some h) = record { answer = 0; hash = h }
name_hash None = record { answer = 4; hash = 0 }
