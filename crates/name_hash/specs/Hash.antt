-- The hash of a name: TEA (the tiny encryption algorithm), keyed by the name's words, sixteen bytes a time.
use Rattle.std.specs.Prelude.{ℕ, zero, suc, ◌+◌, ◌*◌, ◌/◌, ◌%◌, ◌^◌, Bool, ◌&&◌, ◌||◌, List, [], ◌∷◌, length, take, drop, ◌==◌, bit_xor, nat_lt, slice_index}
use Rattle.field.specs.Choice.{choose}
use Rattle.name_hash.specs.declared.State.{State}
use Rattle.name_hash.specs.declared.Key.{Key}

-- "All sums wrap."
abbrev pub add32 : ℕ → ℕ → ℕ
add32 x y = (x + y) % 2 ^ 32

-- a 32-bit number shifted left: what leaves the top is lost
abbrev pub shl32 : ℕ → ℕ → ℕ
shl32 x k = x * 2 ^ k % 2 ^ 32

-- "delta 9E3779B9"
abbrev pub delta : ℕ
delta = 0x9E3779B9

-- TEA's half round, ((x << 4) + k) ^ (x + sum) ^ ((x >> 5) + l): what one word of the state adds to the other
unfoldable pub half_round : ℕ → ℕ → ℕ → ℕ → ℕ
half_round x sum k l = bit_xor (bit_xor (add32 (shl32 x 4) k) (add32 x sum)) (add32 (x / 2 ^ 5) l)

-- TEA's round, "with key words a to d": the first word changes by the second, then the second by the new first
unfoldable pub round : Key → ℕ → State → State
round k sum s =
    let x : ℕ = add32 s.first (half_round s.second sum k.a k.b) in
    record { first = x; second = add32 s.second (half_round x sum k.c k.d) }

-- n rounds: the sum grows by delta before each
unfoldable pub rounds : ℕ → ℕ → Key → State → State
rounds zero sum k s = s
rounds (suc n) sum k s = rounds n (add32 sum delta) k (round k (add32 sum delta) s)

-- "Then 16 rounds of TEA (delta 9E3779B9) with key words a to d, both results added to the state."
unfoldable pub tea : Key → State → State
tea k s =
    let r : State = rounds 16 0 k s in
    record { first = add32 s.first r.first; second = add32 s.second r.second }

-- "pad word is the remaining length's low byte four times"
abbrev pub pad_word : ℕ → ℕ
pad_word n = n % 256 * 0x1010101

-- "for each byte shift left 8 and add"
abbrev pub push : ℕ → ℕ → ℕ
push w x = add32 (shl32 w 8) x

unfoldable pub push_all : ℕ → List ℕ → ℕ
push_all w [] = w
push_all w (x ∷ xs) = push_all (push w x) xs

-- "Words: start at pad, .. four bytes a word; a started or next word keeps its pad, the rest are pad."
abbrev pub key_word : ℕ → List ℕ → ℕ → ℕ
key_word pad rest at = push_all pad (take 4 (drop at rest))

-- "Per round take up to 16 bytes": the four words of the rest of a name
unfoldable pub key_of : List ℕ → Key
key_of rest =
    let pad : ℕ = pad_word (length rest) in
    record { a = key_word pad rest 0; b = key_word pad rest 4; c = key_word pad rest 8; d = key_word pad rest 12 }

-- "Go on while over 16 bytes remained." Each turn takes 16 bytes of the rest, so the rest's length is more than enough
-- for n, which is there only so that the recursion ends.
unfoldable pub absorb : ℕ → List ℕ → State → State
absorb zero rest s = tea (key_of rest) s
absorb (suc n) rest s =
    choose (nat_lt 16 (length rest)) (absorb n (drop 16 rest) (tea (key_of rest) s)) (tea (key_of rest) s)

-- "Else state 67452301, EFCDAB89 (hex)."
abbrev pub start_state : State
start_state = record { first = 0x67452301; second = 0xEFCDAB89 }

-- the names "." and ".."; the dot is byte 46
abbrev pub is_dots : List ℕ → Bool
is_dots name =
    ((length name) == 1 && (slice_index name 0) == 46)
    || ((length name) == 2 && ((slice_index name 0) == 46 && (slice_index name 1) == 46))

-- "." and ".." have 0; for every other name, "the result is the first state word"
unfoldable pub hash_of : List ℕ → ℕ
hash_of name = choose (is_dots name) 0 (absorb (length name) name start_state).first
