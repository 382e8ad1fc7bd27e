-- Lists of entries in a file, whatever is kept of a number: how long they are, that what was written is read, and that what was read
-- is written so again.
use Prim.Native.Nat.{ℕ, zero, suc, ◌+◌, ◌*◌, ◌≤◌, ◌<◌}
use native.Mathlib.Nat.{mul-zero, mul-suc}
use native.Mathlib.Omega.{arith}
use mathlib.Core.Path.{◌≡◌, refl, sym, ◌∙◌}
use mathlib.Core.List.{List, [], ◌∷◌, ◌++◌, append_assoc}
use lib.ListN.{length, get_or, take, drop, length-append}
use lib.Seq.{drop_at, drop-drop, take-add}
use Rattle.field.specs.Number.{le32}
use Rattle.list.specs.Lists.{column, bytes_of}
use Rattle.list.proofs.Written.{length_bytes, column_bytes, bytes_column}
use Rattle.keep_file.specs.Keep.{Kept}
use Rattle.keep_file.specs.Layout.{kept_bytes}
use Rattle.keep_file.specs.Reading.{kept_at}
use Rattle.keep_file.specs.Readable.{AllKept}
use Rattle.keep_file.proofs.Places.{Each, each_first, each_rest, each_cons}

-- ---- parts of a file

-- what follows a part
pub behind : (file a : List ℕ) {b : List ℕ} (at n next : ℕ) → drop at file ≡ a ++ b → length a ≡ n → at + n ≡ next → drop next file ≡ b
behind file a {b = b} at n next e l h = rw (← h, ← drop-drop n at file, e) (drop_at a b n l)

abbrev pub part : List ℕ → ℕ → ℕ → List ℕ
part file at n = take n (drop at file)

-- a part and the next one
pub part_on : (file : List ℕ) (at n next m : ℕ) → at + n ≡ next → part file at n ++ part file next m ≡ part file at (n + m)
part_on file at n next m h = rw (← h, ← drop-drop n at file) (sym (take-add n m (drop at file)))

-- a number at an offset
number_at : (file : List ℕ) (at x : ℕ) (r : List ℕ) → drop at file ≡ bytes_of (x ∷ []) ++ r → le32 file at ≡ x
unfolding column
number_at file at x r e = let h = column_bytes file at (x ∷ []) r e in cc

-- ---- entries, whose values have v bytes
module _ {A : Type 0} (v : ℕ) (bytes : A → List ℕ) where
  abbrev pub Sized : List (Kept A) → Type 0
  Sized ks = AllKept (λ k. length (bytes k.value) ≡ v) ks

  pub length_entries : (ks : List (Kept A)) → Sized ks → length (kept_bytes bytes ks) ≡ (4 + v) * length ks
  unfolding kept_bytes
  length_entries [] s = sym (mul-zero (4 + v))
  length_entries (k ∷ ks) s =
      let number : List ℕ = bytes_of (k.number ∷ []) in
      let rest = length_entries ks s.1 in
      let long = length_bytes (k.number ∷ []) in
      rw (mul-suc (4 + v) (length ks), length-append (number ++ bytes k.value) (kept_bytes bytes ks), length-append number (bytes k.value)) (
      omega (arith, s.0)
      )

  -- ---- what was written is read
  module _ (file : List ℕ) where
    -- the first entry's three parts
    module _ (at : ℕ) (k : Kept A) (ks : List (Kept A)) (r : List ℕ) (l : length (bytes k.value) ≡ v)
        (e : drop at file ≡ kept_bytes bytes (k ∷ ks) ++ r) where
      at_number : drop at file ≡ bytes_of (k.number ∷ []) ++ (bytes k.value ++ (kept_bytes bytes ks ++ r))
      unfolding kept_bytes
      at_number = e ∙ simp append_assoc

      at_value : drop (at + 4) file ≡ bytes k.value ++ (kept_bytes bytes ks ++ r)
      at_value = behind file (bytes_of (k.number ∷ [])) at 4 (at + 4) at_number (length_bytes (k.number ∷ [])) refl

      at_rest : drop (at + (4 + v)) file ≡ kept_bytes bytes ks ++ r
      at_rest = behind file (bytes k.value) (at + 4) v (at + (4 + v)) at_value l (omega arith)

    -- what stands at each value
    pub each_value : (P : ℕ → Type 0) → ((at : ℕ) (a : A) (r : List ℕ) → drop at file ≡ bytes a ++ r → P at)
        → (at : ℕ) (ks : List (Kept A)) (r : List ℕ) → Sized ks → drop at file ≡ kept_bytes bytes ks ++ r
        → Each (λ a. P (a + 4)) (4 + v) at (length ks)
    each_value P f at [] r s e = λ i l. absurd (omega arith)
    each_value P f at (k ∷ ks) r s e =
        each_cons (λ a. P (a + 4)) (4 + v) at (length ks)
        (f (at + 4) k.value (kept_bytes bytes ks ++ r) (at_value at k ks r s.0 e))
        (each_value P f (at + (4 + v)) ks r s.1 (at_rest at k ks r s.0 e))

    pub entries_read : (value : List ℕ → ℕ → A)
        → ((at : ℕ) (a : A) (r : List ℕ) → length (bytes a) ≡ v → drop at file ≡ bytes a ++ r → value file at ≡ a)
        → (at : ℕ) (ks : List (Kept A)) (r : List ℕ) → Sized ks → drop at file ≡ kept_bytes bytes ks ++ r
        → kept_at (4 + v) value file at (length ks) ≡ ks
    unfolding kept_at
    entries_read value f at [] r s e = refl
    entries_read value f at (k ∷ ks) r s e =
        let number : le32 file at ≡ k.number = number_at file at k.number _ (at_number at k ks r s.0 e) in
        let read : value file (at + 4) ≡ k.value = f (at + 4) k.value _ s.0 (at_value at k ks r s.0 e) in
        let rest : kept_at (4 + v) value file (at + (4 + v)) (length ks) ≡ ks = entries_read value f (at + (4 + v)) ks r s.1 (at_rest at k ks r s.0 e) in
        λ i. record { number = number i; value = read i } ∷ rest i

  -- ---- what was read is written so again
  module _ (file : List ℕ) (small : (i : ℕ) → get_or file i 0 < 256) (value : List ℕ → ℕ → A) where
    -- the value's bytes are those that stand there
    abbrev pub Again : ℕ → Type 0
    Again at = bytes (value file (at + 4)) ≡ part file (at + 4) v

    number_again : (at : ℕ) → at + 4 ≤ length file → bytes_of (le32 file at ∷ []) ≡ part file at 4
    unfolding column
    number_again at h = bytes_column file small at 1 h

    pub entries_again : (at n : ℕ) → at + (4 + v) * n ≤ length file → Each Again (4 + v) at n
        → kept_bytes bytes (kept_at (4 + v) value file at n) ≡ part file at ((4 + v) * n)
    unfolding kept_bytes kept_at
    entries_again at zero h f = rw (mul-zero (4 + v))
    entries_again at (suc n) h f =
        let m = mul-suc (4 + v) n in
        let count : 4 + v + (4 + v) * n ≡ (4 + v) * suc n = omega arith in
        let rest = entries_again (at + (4 + v)) n (omega arith) (each_rest Again (4 + v) at n f) in
        rw (number_again at (omega arith), each_first Again (4 + v) at n f, rest, part_on file at 4 (at + 4) v refl) (
        part_on file at (4 + v) (at + (4 + v)) ((4 + v) * n) refl ∙ rw count
        )
