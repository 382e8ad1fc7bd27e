-- The bytes of a list's numbers, laid at the front of lent ones, are the numbers written.
use Prim.Native.Nat.{ℕ, ◌+◌, ◌*◌, ◌≤◌, ◌<◌}
use native.Mathlib.Omega.{arith}
use mathlib.Core.Path.{◌≡◌, ◌∙◌}
use mathlib.Core.List.{List}
use lib.ListN.{length, get_or, take}
use lib.Seq.{length-take-le}
use Rattle.list.specs.Lists.{numbers, column, bytes_of, over}
use Rattle.list.proofs.Entries.{length_numbers}
use Rattle.list.proofs.Written.{column_numbers, bytes_column}
use Rattle.buffer.specs.Laid.{laid_at}
use Rattle.buffer.proofs.Laying.{laid_first}

module _ (l : List ℕ) (n : ℕ) (fits : 4 * n ≤ length l) where
  pub front_length : length (take (4 * n) l) ≡ 4 * n
  front_length = length-take-le (4 * n) l fits

  front_bytes : ((k : ℕ) → get_or l k 0 < 256) → bytes_of (numbers l 0 n) ≡ take (4 * n) l
  front_bytes f =
      let e : 0 + 4 * 0 ≡ 0 = omega arith in
      let c : column 4 l 0 n ≡ numbers l 0 n = rw e at (column_numbers l 0 0 n) in
      rw (← c) (bytes_column l f 0 n (omega arith))

  pub copied : ((k : ℕ) → get_or l k 0 < 256) → (d : List ℕ) → laid_at 0 (take (4 * n) l) d ≡ over (numbers l 0 n) d
  unfolding over
  copied f d = laid_first (take (4 * n) l) d ∙ rw (front_bytes f, front_length, length_numbers l 0 n)
