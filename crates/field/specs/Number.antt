-- "Numbers are little-endian": the number in two, four or eight bytes that start at an offset.
-- A byte past the end counts as 0, so that every offset has a meaning.
use Rattle.std.specs.Prelude.{List, ℕ, ◌+◌, ◌*◌, ◌/◌, ◌%◌, get_or, set}

unfoldable pub le16 : List ℕ → ℕ → ℕ
le16 bytes at = get_or bytes at 0 + 256 * get_or bytes (at + 1) 0

unfoldable pub le32 : List ℕ → ℕ → ℕ
le32 bytes at = le16 bytes at + 65536 * le16 bytes (at + 2)

unfoldable pub le64 : List ℕ → ℕ → ℕ
le64 bytes at = le32 bytes at + 4294967296 * le32 bytes (at + 4)

-- bytes in which x was stored at an offset
unfoldable pub put32_at : List ℕ → ℕ → ℕ → List ℕ
put32_at l at x = set (set (set (set l at (x % 256)) (at + 1) (x / 256 % 256)) (at + 2) (x / 65536 % 256)) (at + 3) (x / 16777216)
