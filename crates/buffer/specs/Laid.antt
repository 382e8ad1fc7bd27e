-- Bytes laid into others at an offset.
use Rattle.std.specs.Prelude.{ℕ, ◌+◌, List, ◌++◌, length, take, drop}

-- the bytes from an offset on are the piece's; those before it and behind it stay
unfoldable pub laid_at : ℕ → List ℕ → List ℕ → List ℕ
laid_at at piece d = take at d ++ piece ++ drop (at + length piece) d
