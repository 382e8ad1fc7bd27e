-- A group of bytes as one number: its steps by one entry for each byte, and that they are those of the bytes one by one.
use mathlib.Core.Path.{◌≡◌, refl, sym, ap, ◌∙◌}
use mathlib.Core.List.{List}
use Prim.Native.Nat.{ℕ, zero, suc, ◌+◌, ◌-◌, ◌*◌, ◌/◌, ◌%◌, ◌^◌, ◌<◌, ◌≤◌}
use native.Mathlib.Nat.{add_assoc, mul-suc, pow-suc}
use native.Mathlib.Omega.{arith}
use lib.ListN.{length, get_or, take, drop}
use lib.Pow.{shr-shr}
use lib.Seq.{drop-cons, drop-drop}
use lib.Bits.{bit_xor, xor_assoc, xor_comm, xor_zero_r, xor_shifted}
use Rattle.field.specs.Number.{le16, le32, le64}
use Rattle.std.specs.Int.{w64, from_le_bytes}
use Rattle.std.specs.Simd.{first_chunks}
use Rattle.crc32.specs.Checksum.{crc_bits, crc_byte, crc_from}
use Rattle.field.proofs.Endian.{le64_read}
use Rattle.crc32.proofs.Turns.{group_turn}
use Rattle.crc32.proofs.Linear.{bits_xor, bits_shifted, bits_add, low_byte}

-- The sum of the entries of n bytes, the lowest byte first.
unfoldable pub entries : ℕ → ℕ → ℕ
entries zero v = 0
entries (suc n) v = bit_xor (crc_bits (8 * suc n) (v % 256)) (entries n (v / 256))

-- For `by_entries`: no step.
no_bits : (v : ℕ) → crc_bits 0 v ≡ v
unfolding crc_bits
no_bits v = refl

-- For the code's sum of eight entries: it is the steps of the whole number.
pub by_entries : (n v : ℕ) → v < 256 ^ n → crc_bits (8 * n) v ≡ entries n v
unfolding entries
by_entries zero v h = no_bits v ∙ omega arith
by_entries (suc n) v h =
    let e : 8 * suc n ≡ 8 + 8 * n = omega arith in
    rw e (low_byte (8 * n) v ∙ ap (bit_xor (crc_bits (8 + 8 * n) (v % 256))) (by_entries n (v / 256) (omega (arith, rw pow-suc at h))))

-- For a turn over the rows: one entry more, of the byte below those that are in.
pub entry_more : (v row : ℕ) → row < 8 → entries (row + 1) (v / 2 ^ (64 - 8 * (row + 1)))
    ≡ bit_xor (entries row (v / 2 ^ (64 - 8 * row))) (crc_bits (8 * (row + 1)) (v / 2 ^ (56 - 8 * row) % 256))
unfolding entries
entry_more v row h =
    let e : row + 1 ≡ suc row = omega arith in
    let p : 64 - 8 * suc row ≡ 56 - 8 * row = omega arith in
    let q : 56 - 8 * row + 8 ≡ 64 - 8 * row = omega arith in
    let above : v / 2 ^ (56 - 8 * row) / 256 ≡ v / 2 ^ (64 - 8 * row) = shr-shr v (56 - 8 * row) 8 ∙ ap (λ (k : ℕ). v / 2 ^ k) q in
    rw (e, p, above) (xor_comm (crc_bits (8 * suc row) (v / 2 ^ (56 - 8 * row) % 256)) (entries row (v / 2 ^ (64 - 8 * row))))

-- And their end.
pub all_entries : (v row sum : ℕ) → v < 2 ^ 64 → row ≡ 8 → sum ≡ entries row (v / 2 ^ (64 - 8 * row)) → sum ≡ crc_bits 64 v
all_entries v row sum h e s =
    let whole : v / 2 ^ (64 - 8 * 8) ≡ v = omega arith in
    s ∙ rw (e, whole) (sym (by_entries 8 v h))

-- The number in n bytes at an offset, lowest first: `le64` for any count.
unfoldable pub le_n : ℕ → List ℕ → ℕ → ℕ
le_n zero bytes at = 0
le_n (suc n) bytes at = get_or bytes at 0 + 256 * le_n n bytes (at + 1)

-- For what the code reads.
pub le64_is : (bytes : List ℕ) (at : ℕ) → le64 bytes at ≡ le_n 8 bytes at
unfolding le_n le16 le32 le64
le64_is bytes at = simp add_assoc (omega arith)

-- For `group`: a byte below a number l.
byte_below : (c x l : ℕ) → x < 256 → crc_bits 8 (bit_xor c (x + 256 * l)) ≡ bit_xor (crc_byte c x) l
byte_below c x l h =
    let e : x + 256 * l ≡ l * 2 ^ 8 + x = omega arith in
    ap (λ (y : ℕ). crc_bits 8 (bit_xor c y)) (e ∙ sym (xor_shifted l 8 x h) ∙ xor_comm (l * 2 ^ 8) x)
    ∙ ap (crc_bits 8) (sym (xor_assoc c x (l * 2 ^ 8)))
    ∙ bits_xor 8 (bit_xor c x) (l * 2 ^ 8)
    ∙ ap (bit_xor (crc_byte c x)) (bits_shifted 8 l)

-- For a turn over eight bytes: n bytes one by one are 8 n steps of their number.
pub group : (bytes : List ℕ) → ((i : ℕ) → get_or bytes i 0 < 256) → (n c at : ℕ) → at + n ≤ length bytes →
    crc_from c (take n (drop at bytes)) ≡ crc_bits (8 * n) (bit_xor c (le_n n bytes at))
unfolding crc_from le_n
group bytes small zero c at h = sym (no_bits (bit_xor c 0) ∙ xor_zero_r c)
group bytes small (suc n) c at h =
    let l : at < length bytes = omega arith in
    let x : ℕ = get_or bytes at 0 in
    let e : 8 * suc n ≡ 8 + 8 * n = omega arith in
    let q : suc at ≡ at + 1 = omega arith in
    rw (drop-cons bytes at 0 l, q, e)
    (group bytes small n (crc_byte c x) (at + 1) (omega arith)
    ∙ ap (crc_bits (8 * n)) (sym (byte_below c x (le_n n bytes (at + 1)) (small at)))
    ∙ sym (bits_add 8 (8 * n) (bit_xor c (x + 256 * le_n n bytes (at + 1)))))

-- For `word_turn`: the group at a place.
group_at : (n k : ℕ) (bytes : List ℕ) (d : List ℕ) (i : ℕ) → i < k → get_or (first_chunks n k bytes) i d ≡ take n (drop (n * i) bytes)
group_at n zero bytes d i h = absurd (omega arith)
group_at n (suc k) bytes d zero h = let e : n * 0 ≡ 0 = omega arith in rw e
group_at n (suc k) bytes d (suc i) h =
    let e : n * suc i ≡ n + n * i = rw mul-suc (omega arith) in
    group_at n k (drop n bytes) d i (omega arith) ∙ ap (take n) (drop-drop (n * i) n bytes ∙ ap (λ (j : ℕ). drop j bytes) (sym e))

-- For the loop over the groups: one turn.
pub word_turn : (bytes : List ℕ) → ((i : ℕ) → get_or bytes i 0 < 256) → (groups : List (List ℕ)) (d : List ℕ) (k c word next : ℕ)
    → groups ≡ first_chunks 8 (length bytes / 8) bytes → k < length bytes / 8
    → word ≡ from_le_bytes w64 (get_or groups k d) → next ≡ crc_bits 64 (bit_xor c word)
    → crc_from c (drop (8 * k) bytes) ≡ crc_from next (drop (8 * (k + 1)) bytes)
word_turn bytes small groups d k c word next g h w e =
    let group_is : get_or groups k d ≡ take 8 (drop (8 * k) bytes) = rw g (group_at 8 (length bytes / 8) bytes d k h) in
    let read : word ≡ le_n 8 bytes (8 * k) = w ∙ ap (from_le_bytes w64) group_is ∙ le64_read bytes (8 * k) ∙ le64_is bytes (8 * k) in
    let one : crc_from c (take 8 (drop (8 * k) bytes)) ≡ next =
    group bytes small 8 c (8 * k) (omega arith) ∙ ap (λ (x : ℕ). crc_bits 64 (bit_xor c x)) (sym read) ∙ sym e in
    let on : 8 * (k + 1) ≡ 8 * k + 8 = omega arith in
    group_turn 8 c (8 * k) bytes ∙ rw (one, on)
