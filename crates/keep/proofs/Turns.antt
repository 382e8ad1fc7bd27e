-- The loops over listed numbers turn by turn: what is left, laid from here into what is there now, is the whole laid at the start into
-- what was there.
use Prim.Native.Nat.{ℕ, ◌+◌, ◌-◌, ◌*◌, ◌≤◌, ◌<◌}
use native.Mathlib.Omega.{arith}
use mathlib.Core.Path.{◌≡◌}
use mathlib.Core.List.{List, [], ◌∷◌, ◌++◌}
use lib.ListN.{length}
use Rattle.field.specs.Number.{le32}
use Rattle.list.specs.Lists.{AllOf, numbers, bytes_of}
use Rattle.list.proofs.Entries.{numbers_cons, numbers_nil}
use Rattle.buffer.specs.Laid.{laid_at}
use Rattle.buffer.proofs.Laying.{laid_none, laid_behind}
use Rattle.keep_file.specs.Keep.{kept_by}
use Rattle.keep_file.specs.Layout.{kept_bytes}

-- what holds of all listed, before the first turn
pub listed_left : (P : ℕ → Type 0) (l : List ℕ) (n : ℕ) → AllOf P (numbers l 0 n) → AllOf P (numbers l 0 (n - 0))
listed_left P l n a = let e : n - 0 ≡ n = omega arith in rw e a

-- what holds of all that are left, at a turn: of the number x that is read there, and of all left then
pub listed_next : (P : ℕ → Type 0) (l : List ℕ) (i n : ℕ) → i < n → {x : ℕ} → x ≡ le32 l (4 * i) → AllOf P (numbers l i (n - i))
    → P x × AllOf P (numbers l (i + 1) (n - (i + 1)))
listed_next P l i n h is a = rw is (rw (numbers_cons l i n h) at a)

module _ {A : Type 0} (bytes : A → List ℕ) (f : ℕ → A) (l : List ℕ) where
  -- the entries from entry i of n on
  abbrev pub left : ℕ → ℕ → List ℕ
  left i n = kept_bytes bytes (kept_by f (numbers l i (n - i)))

  -- all of them
  abbrev pub all : ℕ → List ℕ
  all n = kept_bytes bytes (kept_by f (numbers l 0 n))

  pub turns_start : (n at place : ℕ) (d : List ℕ) → place ≡ at → laid_at place (left 0 n) d ≡ laid_at at (all n) d
  turns_start n at place d h = let e : n - 0 ≡ n = omega arith in rw (e, h)

  pub turns_over : (i n place : ℕ) (d : List ℕ) → n ≤ i → laid_at place (left i n) d ≡ d
  unfolding kept_bytes kept_by
  turns_over i n place d h = rw (numbers_nil l i n h) (laid_none place d)

  -- entry i, of the number x, was laid
  pub turn : (i n : ℕ) → i < n → {x : ℕ} → x ≡ le32 l (4 * i) → (place size : ℕ) (d : List ℕ) {e : List ℕ}
      → length (bytes_of (x ∷ []) ++ bytes (f x)) ≡ size → place + size ≤ length d → e ≡ laid_at place (bytes_of (x ∷ []) ++ bytes (f x)) d
      → laid_at (place + size) (left (i + 1) n) e ≡ laid_at place (left i n) d
  unfolding kept_bytes kept_by
  turn i n h {x} is place size d long room put =
      rw (numbers_cons l i n h, ← is, put, ← long) (laid_behind place (bytes_of (x ∷ []) ++ bytes (f x)) d (omega arith) (left (i + 1) n))
