-- What is kept of a listed number is found: in a rising list by the entry's own number, and of numbers with what a function says of them.
use Prim.Native.Nat.{ℕ, suc, ◌+◌, ◌*◌, ◌<◌}
use native.Mathlib.Omega.{arith}
use mathlib.Core.Path.{◌≡◌, refl, ap, ◌∙◌}
use mathlib.Core.List.{List, [], ◌∷◌}
use mathlib.Core.Logic.{⊎_elim}
use lib.ListN.{length}
use lib.Dec.{eqb}
use borrow.Author.Tests.{eq-eqb, ne_eqb, eqb-true}
use Rattle.field.specs.Number.{le32}
use Rattle.field.proofs.Choosing.{either}
use Rattle.list.specs.Lists.{AllOf, Rising}
use Rattle.list.proofs.Rises.{all_map}
use Rattle.keep_file.specs.Keep.{Kept, numbers_of, kept_by, kept_of}
use Rattle.keep_file.specs.Reading.{kept_at}
use Rattle.keep_file.specs.Readable.{AllKept}
use Rattle.keep_file.proofs.Places.{kept_each}

module _ {A : Type 0} where
  -- ---- what holds of each entry
  kept_with : {P Q R : Kept A → Type 0} → ((k : Kept A) → P k → Q k → R k) → (ks : List (Kept A)) → AllKept P ks → AllKept Q ks → AllKept R ks
  kept_with f [] g h = tt
  kept_with f (k ∷ ks) g h = (f k g.0 h.0, kept_with f ks g.1 h.1)

  -- what holds of each number
  kept_numbers : (P : ℕ → Type 0) (ks : List (Kept A)) → AllOf P (numbers_of ks) → AllKept (λ k. P k.number) ks
  unfolding numbers_of
  kept_numbers P [] h = tt
  kept_numbers P (k ∷ ks) h = (h.0, kept_numbers P ks h.1)

  -- ---- the search
  module _ (other : A) where
    found_here : (k : Kept A) (ks : List (Kept A)) {n : ℕ} → k.number ≡ n → kept_of other (k ∷ ks) n ≡ k.value
    unfolding kept_of
    found_here k ks {n = n} e = rw (eq-eqb k.number n e)

    found_later : (k : Kept A) (ks : List (Kept A)) {n : ℕ} → (k.number ≡ n → ⊥) → kept_of other (k ∷ ks) n ≡ kept_of other ks n
    unfolding kept_of
    found_later k ks {n = n} e = rw (ne_eqb k.number n e)

    -- each entry of a rising list
    found_each : (ks : List (Kept A)) → Rising (numbers_of ks) → AllKept (λ k. kept_of other ks k.number ≡ k.value) ks
    unfolding numbers_of
    found_each [] r = tt
    found_each (k ∷ ks) r = (found_here k ks refl, kept_with later ks above (found_each ks r.1))
      where
        above : AllKept (λ j. k.number < j.number) ks
        above = kept_numbers (λ n. k.number < n) ks r.0

        later : (j : Kept A) → k.number < j.number → kept_of other ks j.number ≡ j.value → kept_of other (k ∷ ks) j.number ≡ j.value
        later j l e = found_later k ks (λ q. omega arith) ∙ e

    -- entry i of a rising list in a file
    pub found_at : (width : ℕ) (value : List ℕ → ℕ → A) (file : List ℕ) (at n i : ℕ) → Rising (numbers_of (kept_at width value file at n)) → i < n
        → kept_of other (kept_at width value file at n) (le32 file (at + width * i)) ≡ value file (at + width * i + 4)
    found_at width value file at n i r h =
        let ks : List (Kept A) = kept_at width value file at n in
        kept_each width value file (λ k. kept_of other ks k.number ≡ k.value) at n (found_each ks r) i h

    -- each number of a list by a function
    by_more : (f : ℕ → A) (n : ℕ) (ns : List ℕ) (m : ℕ) → kept_of other (kept_by f ns) m ≡ f m → kept_of other (kept_by f (n ∷ ns)) m ≡ f m
    unfolding kept_of kept_by
    by_more f n ns m e = ⊎_elim (λ t. rw t (ap f (eqb-true n m t))) (λ t. rw t e) (either (eqb n m))

    pub found_by : (f : ℕ → A) (ns : List ℕ) → AllOf (λ n. kept_of other (kept_by f ns) n ≡ f n) ns
    unfolding kept_by
    found_by f [] = tt
    found_by f (n ∷ ns) =
        (found_here (record { number = n; value = f n }) (kept_by f ns) refl, all_map (by_more f n ns) ns (found_by f ns))

  pub numbers_by : (f : ℕ → A) (ns : List ℕ) → numbers_of (kept_by f ns) ≡ ns
  unfolding numbers_of kept_by
  numbers_by f [] = refl
  numbers_by f (n ∷ ns) = ap (λ (l : List ℕ). n ∷ l) (numbers_by f ns)

  pub length_by : (f : ℕ → A) (ns : List ℕ) → length (kept_by f ns) ≡ length ns
  unfolding kept_by
  length_by f [] = refl
  length_by f (n ∷ ns) = ap suc (length_by f ns)

  -- what holds of each number holds of its entry
  pub all_by : (P : Kept A → Type 0) (f : ℕ → A) (ns : List ℕ) → AllOf (λ n. P (record { number = n; value = f n })) ns → AllKept P (kept_by f ns)
  unfolding kept_by
  all_by P f [] h = tt
  all_by P f (n ∷ ns) h = (h.0, all_by P f ns h.1)
