-- Numbers that are read and stored by their own methods, in the bytes that start at an offset.
use mathlib.Core.Path.{◌≡◌, sym, ◌∙◌}
use mathlib.Core.List.{List, [], ◌∷◌, append_assoc}
use Prim.Native.Nat.{ℕ, suc, ◌+◌, ◌-◌, ◌/◌, ◌%◌, ◌^◌, ◌≤◌, ◌<◌}
use native.Mathlib.Omega.{arith}
use lib.ListN.{length, get_or, take, drop}
use lib.Seq.{drop-drop, sets-eq}
use borrow.Rule.Slice.PartMut.{put_mid}
use Rattle.std.specs.Int.{w16, w32, w64, from_le_bytes, to_le_bytes}
use Rattle.std.proofs.lemmas.List.{get_or-take, get_or-drop}
use Rattle.field.specs.Number.{le16, le32, le64, put32_at}

module _ (bytes : List ℕ) (at : ℕ) where
  taken : (n i : ℕ) → i < n → get_or (take n (drop at bytes)) i 0 ≡ get_or bytes (at + i) 0
  taken n i h = get_or-take n (drop at bytes) i 0 h ∙ get_or-drop at bytes i 0

  pub le16_read : from_le_bytes w16 (take 2 (drop at bytes)) ≡ le16 bytes at
  unfolding le16
  le16_read = rw (taken 2 0 (omega arith), taken 2 1 (omega arith)) (grind arith)

  pub le32_read : from_le_bytes w32 (take 4 (drop at bytes)) ≡ le32 bytes at
  unfolding le32 le16
  le32_read = rw (taken 4 0 (omega arith), taken 4 1 (omega arith), taken 4 2 (omega arith), taken 4 3 (omega arith)) (grind arith)

  pub le64_read : from_le_bytes w64 (take 8 (drop at bytes)) ≡ le64 bytes at
  unfolding le64 le32 le16
  le64_read =
      rw (taken 8 0 (omega arith), taken 8 1 (omega arith), taken 8 2 (omega arith), taken 8 3 (omega arith))
      (rw (taken 8 4 (omega arith), taken 8 5 (omega arith), taken 8 6 (omega arith), taken 8 7 (omega arith)) (grind arith))

-- the four bytes at an offset, lent as a slice and written
pub put32_written : (bytes : List ℕ) (at x : ℕ) → at + 4 ≤ length bytes → x < 2 ^ 32 → {left : List ℕ} → left ≡ to_le_bytes w32 x
    → put_mid at (at + 4 - at) bytes left ≡ put32_at bytes at x
unfolding put32_at
put32_written bytes at x h fits e =
    let n : at + 4 - at ≡ 4 = omega arith in
    let top : x / 16777216 % 256 ≡ x / 16777216 = omega arith in
    let p : at + 1 ≡ suc at = omega arith in
    let q : at + 2 ≡ suc (suc at) = omega arith in
    let r : at + 3 ≡ suc (suc (suc at)) = omega arith in
    let stored : List ℕ = x % 256 ∷ x / 256 % 256 ∷ x / 65536 % 256 ∷ x / 16777216 ∷ [] in
    rw (n, e, drop-drop 4 at bytes, top, p, q, r) (sym (append_assoc (take at bytes) stored (drop (at + 4) bytes)) ∙ sym (sets-eq stored bytes at h))
