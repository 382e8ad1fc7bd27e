-- Which byte strings are names.
use Rattle.std.specs.Prelude.{ℕ, Bool, true, not, ◌&&◌, ◌||◌, List, [], ◌∷◌, length, ◌==◌, nat_le}

-- "none of them 0 or 47 (the slash)"
abbrev pub name_byte : ℕ → Bool
name_byte x = not (x == 0 || x == 47)

unfoldable pub name_bytes : List ℕ → Bool
name_bytes [] = true
name_bytes (x ∷ xs) = name_byte x && name_bytes xs

-- "1 to 255 bytes"
abbrev pub name_length : ℕ → Bool
name_length n = nat_le 1 n && nat_le n 255

-- "A name has 1 to 255 bytes, none of them 0 or 47 (the slash)."
abbrev pub is_name : List ℕ → Bool
is_name name = name_length (length name) && name_bytes name
