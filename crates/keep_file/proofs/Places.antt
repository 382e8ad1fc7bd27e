-- Places that stand a width apart, and the entries that are read there.
use Prim.Native.Nat.{ℕ, zero, suc, ◌+◌, ◌*◌, ◌<◌}
use native.Mathlib.Nat.{mul-zero, mul-suc}
use native.Mathlib.Omega.{arith}
use mathlib.Core.Path.{◌≡◌, refl, ap}
use mathlib.Core.List.{List, ◌∷◌}
use lib.ListN.{length}
use Rattle.field.specs.Number.{le32}
use Rattle.list.specs.Lists.{column}
use Rattle.keep_file.specs.Keep.{Kept, numbers_of}
use Rattle.keep_file.specs.Reading.{kept_at}
use Rattle.keep_file.specs.Readable.{AllKept}

-- P holds of each of n places, the first at an offset
abbrev pub Each : (ℕ → Type 0) → ℕ → ℕ → ℕ → Type 0
Each P width at n = (i : ℕ) → i < n → P (at + width * i)

module _ (P : ℕ → Type 0) (width at n : ℕ) where
  first_place : at + width * 0 ≡ at
  first_place = rw (mul-zero width) (omega arith)

  next_place : (i : ℕ) → at + width * suc i ≡ at + width + width * i
  next_place i = rw (mul-suc width i) (omega arith)

  pub each_first : Each P width at (suc n) → P at
  each_first f = rw first_place at (f 0 (omega arith))

  pub each_rest : Each P width at (suc n) → Each P width (at + width) n
  each_rest f i h = rw (next_place i) at (f (suc i) (omega arith))

  pub each_cons : P at → Each P width (at + width) n → Each P width at (suc n)
  each_cons p f zero h = rw first_place p
  each_cons p f (suc i) h = rw (next_place i) (f i (omega arith))

-- the entry at a place
abbrev pub entry_at : {A : Type 0} → (List ℕ → ℕ → A) → List ℕ → ℕ → Kept A
entry_at value file at = record { number = le32 file at; value = value file (at + 4) }

module _ {A : Type 0} (width : ℕ) (value : List ℕ → ℕ → A) (file : List ℕ) where
  pub length_kept : (at n : ℕ) → length (kept_at width value file at n) ≡ n
  unfolding kept_at
  length_kept at zero = refl
  length_kept at (suc n) = ap suc (length_kept (at + width) n)

  pub numbers_kept : (at n : ℕ) → numbers_of (kept_at width value file at n) ≡ column width file at n
  unfolding numbers_of kept_at column
  numbers_kept at zero = refl
  numbers_kept at (suc n) = ap (λ (l : List ℕ). le32 file at ∷ l) (numbers_kept (at + width) n)

  -- what holds of each entry, place by place
  pub kept_each : (P : Kept A → Type 0) (at n : ℕ) → AllKept P (kept_at width value file at n) → Each (λ a. P (entry_at value file a)) width at n
  unfolding kept_at
  kept_each P at zero h = λ i l. absurd (omega arith)
  kept_each P at (suc n) h = each_cons (λ a. P (entry_at value file a)) width at n h.0 (kept_each P (at + width) n h.1)
