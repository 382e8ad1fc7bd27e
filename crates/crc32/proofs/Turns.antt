-- What a turn of a loop over bytes goes by, and its end.
use mathlib.Core.Path.{◌≡◌, refl, sym, ap, ◌∙◌}
use mathlib.Core.List.{List, [], ◌∷◌, ◌++◌}
use Prim.Native.Nat.{ℕ, ◌+◌, ◌<◌, ◌≤◌}
use native.Mathlib.Numerals.{add-one}
use lib.ListN.{length, get_or, take, drop, drop_of_length-le, take-append-drop}
use lib.Seq.{drop-cons, drop-drop}
use Rattle.crc32.specs.Checksum.{crc_byte, crc_from}

-- For the loop byte by byte: one byte.
pub turn : (c at : ℕ) (bytes : List ℕ) → at < length bytes →
    crc_from c (drop at bytes) ≡ crc_from (crc_byte c (get_or bytes at 0)) (drop (at + 1) bytes)
unfolding crc_from
turn c at bytes h = rw (drop-cons bytes at 0 h, add-one at)

-- For its end: no byte is left.
pub end : (c at : ℕ) (bytes : List ℕ) → length bytes ≤ at → crc_from c (drop at bytes) ≡ c
unfolding crc_from
end c at bytes h = rw (drop_of_length-le bytes h)

-- For `group_turn`: two lists, one after the other.
from_append : (c : ℕ) (xs ys : List ℕ) → crc_from c (xs ++ ys) ≡ crc_from (crc_from c xs) ys
unfolding crc_from
from_append c [] ys = refl
from_append c (x ∷ xs) ys = from_append (crc_byte c x) xs ys

-- For the loop over groups: n bytes at once.
pub group_turn : (n c at : ℕ) (bytes : List ℕ) →
    crc_from c (drop at bytes) ≡ crc_from (crc_from c (take n (drop at bytes))) (drop (at + n) bytes)
group_turn n c at bytes =
    ap (crc_from c) (sym (take-append-drop n (drop at bytes)))
    ∙ from_append c (take n (drop at bytes)) (drop n (drop at bytes))
    ∙ ap (crc_from (crc_from c (take n (drop at bytes)))) (drop-drop n at bytes)
