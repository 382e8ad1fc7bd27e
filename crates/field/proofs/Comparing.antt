-- A comparison of a part of the bytes with a byte string, element by element.
use mathlib.Core.Path.{◌≡◌, refl, ap}
use mathlib.Core.List.{List, [], ◌∷◌}
use mathlib.Core.Bool.{◌&&◌}
use Prim.Native.Nat.{ℕ, suc, ◌+◌, ◌-◌, ◌≤◌}
use native.Mathlib.Omega.{arith}
use native.Mathlib.Numerals.{add-one}
use lib.Dec.{eqb}
use lib.ListN.{length, get_or, take, drop}
use lib.Seq.{drop-cons}
use Rattle.std.specs.Cmp.Lexicographic.{pointwise}
use Rattle.field.specs.Bytes.{same_at}

same_drop : (bytes : List ℕ) (at : ℕ) (string : List ℕ) → at + length string ≤ length bytes
    → pointwise eqb (take (length string) (drop at bytes)) string ≡ same_at bytes at string
unfolding same_at
same_drop bytes at [] h = refl
same_drop bytes at (x ∷ xs) h =
    rw (drop-cons bytes at 0 (omega arith)) (rw add-one (ap (λ t. eqb (get_or bytes at 0) x && t) (same_drop bytes (suc at) xs (omega arith))))

pub same_is : (bytes : List ℕ) (at : ℕ) (string : List ℕ) → at + length string ≤ length bytes
    → pointwise eqb (take (at + length string - at) (drop at bytes)) string ≡ same_at bytes at string
same_is bytes at string h = let n : at + length string - at ≡ length string = omega arith in rw n (same_drop bytes at string h)
