-- Worked names, computed. The numbers are those of the published Linux code (fs/f2fs/hash.c: str2hashbuf and
-- TEA_transform), written again as a small program apart from this crate and run on the same names.
use Rattle.std.specs.Prelude.{◌≡◌, true, false, [], ◌∷◌, replicate, refl}
use Rattle.name_hash.specs.Name.{name_bytes, is_name}
use Rattle.name_hash.specs.Hash.{half_round, round, rounds, tea, push_all, key_of, absorb, hash_of}

-- "." and ".."
dots : (hash_of (46 ∷ []) ≡ 0) × (hash_of (46 ∷ 46 ∷ []) ≡ 0)
unfolding hash_of
dots = (refl, refl)

-- "hello.txt"
short : hash_of (104 ∷ 101 ∷ 108 ∷ 108 ∷ 111 ∷ 46 ∷ 116 ∷ 120 ∷ 116 ∷ []) ≡ 1359463411
unfolding half_round round rounds tea push_all key_of absorb hash_of
short = refl

-- "é", two bytes over 127
high_bytes : hash_of (195 ∷ 169 ∷ []) ≡ 1840217089
unfolding half_round round rounds tea push_all key_of absorb hash_of
high_bytes = refl

-- "0123456789abcdef": sixteen bytes are one turn
sixteen : hash_of (48 ∷ 49 ∷ 50 ∷ 51 ∷ 52 ∷ 53 ∷ 54 ∷ 55 ∷ 56 ∷ 57 ∷ 97 ∷ 98 ∷ 99 ∷ 100 ∷ 101 ∷ 102 ∷ []) ≡ 1510443186
unfolding half_round round rounds tea push_all key_of absorb hash_of
sixteen = refl

-- "0123456789abcdefg": seventeen are two
seventeen : hash_of (48 ∷ 49 ∷ 50 ∷ 51 ∷ 52 ∷ 53 ∷ 54 ∷ 55 ∷ 56 ∷ 57 ∷ 97 ∷ 98 ∷ 99 ∷ 100 ∷ 101 ∷ 102 ∷ 103 ∷ []) ≡ 4212794348
unfolding half_round round rounds tea push_all key_of absorb hash_of
seventeen = refl

-- 255 times "x"
longest : hash_of (replicate 255 120) ≡ 1816920302
unfolding half_round round rounds tea push_all key_of absorb hash_of
longest = refl

-- the bounds of a name's shape
shapes : (is_name [] ≡ false) × (is_name (replicate 255 120) ≡ true) × (is_name (replicate 256 120) ≡ false)
    × (is_name (97 ∷ 47 ∷ []) ≡ false) × (is_name (97 ∷ 0 ∷ []) ≡ false)
unfolding name_bytes
shapes = (refl, refl, refl, refl, refl)
