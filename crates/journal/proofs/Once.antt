-- What "names one number twice" comes to: two entries with one number. In a journal that names none twice every entry with a number is
-- the same one, so that it may be searched in any order.
use mathlib.Core.Path.{◌≡◌, refl, sym, ◌∙◌, ap}
use mathlib.Core.List.{List}
use mathlib.Core.Logic.{⊎_elim}
use mathlib.Core.Bool.{true, false, or-true}
use Rattle.std.specs.Prelude.{Option, Some, None, is_some}
use Prim.Native.Nat.{ℕ, zero, suc, ◌+◌, ◌<◌}
use native.Mathlib.Omega.{arith}
use native.Mathlib.Numerals.{add-one}
use lib.Dec.{leb}
use borrow.Author.Tests.{leb-true, leb-false}
use Rattle.field.specs.Number.{le16}
use Rattle.field.proofs.Choosing.{either, clash}
use Rattle.journal.specs.Journal.{entry_start, number_of, search_from, journal_find, named_before, twice_among, names_twice}
use Rattle.journal.proofs.Searching.{found_entry, absent_entry}

module _ (width : ℕ) (journal : List ℕ) where
  -- ---- entry by entry, as the code goes
  pub once_starts : twice_among width journal 0 ≡ false
  unfolding twice_among
  once_starts = refl

  pub once_further : (i : ℕ) → twice_among width journal i ≡ false → named_before width journal i ≡ false → twice_among width journal (i + 1) ≡ false
  unfolding twice_among
  once_further i h n = ap (twice_among width journal) (add-one i) ∙ rw (h, n)

  pub once_over : (i : ℕ) → twice_among width journal i ≡ false → i ≡ le16 journal 0 → names_twice width journal ≡ false
  unfolding names_twice
  once_over i h e = ap (twice_among width journal) (sym e) ∙ h

  -- what is twice among some entries is twice among more
  twice_more : (i n : ℕ) → i < n → named_before width journal i ≡ true → twice_among width journal n ≡ true
  unfolding twice_among
  twice_more i zero l h = absurd (omega arith)
  twice_more i (suc n) l h =
      ⊎_elim (λ (t : leb (suc i) n ≡ true). rw (twice_more i n (leb-true _ _ t) h))
      (λ (t : leb (suc i) n ≡ false).
      let last : i ≡ n = let g : n < suc i = leb-false _ _ t in omega arith in
      let here : named_before width journal n ≡ true = rw (← last) h in
      rw (here, or-true))
      (either (leb (suc i) n))

  pub twice_found : (i : ℕ) → i < le16 journal 0 → named_before width journal i ≡ true → names_twice width journal ≡ true
  unfolding names_twice
  twice_found i l h = twice_more i (le16 journal 0) l h

  -- ---- by its entries
  named_by : (i j : ℕ) → i < j → number_of width journal i ≡ number_of width journal j → named_before width journal j ≡ true
  named_by i j l e = go (search_from width journal (number_of width journal j) j 0) refl
    where
      go : (s : Option ℕ) → search_from width journal (number_of width journal j) j 0 ≡ s → is_some s ≡ true
      go (Some at) f = refl
      go None f = absurd (absent_entry width journal (number_of width journal j) j 0 f i (omega arith) (omega arith) e)

  -- two entries that have one number make it
  pub twice : (i j : ℕ) → i < j → j < le16 journal 0 → number_of width journal i ≡ number_of width journal j → names_twice width journal ≡ true
  twice i j l m e = twice_found j m (named_by i j l e)

  -- nothing else does
  pub record Two (k : ℕ) : Type 0 where
    pub one : ℕ
    pub other : ℕ
    pub before : one < other
    pub counted : other < k
    pub same : number_of width journal one ≡ number_of width journal other

  two_named : (j : ℕ) → named_before width journal j ≡ true → Two (j + 1)
  two_named j h = go (search_from width journal (number_of width journal j) j 0) refl h
    where
      go : (s : Option ℕ) → search_from width journal (number_of width journal j) j 0 ≡ s → is_some s ≡ true → Two (j + 1)
      go (Some at) f t =
          let w = found_entry width journal (number_of width journal j) j 0 at f in
          record { one = w.entry; other = j; before = omega (arith, w.below); counted = omega arith; same = w.named }
      go None f t = absurd (clash t refl)

  two_among : (k : ℕ) → twice_among width journal k ≡ true → Two k
  unfolding twice_among
  two_among zero h = absurd (clash h refl)
  two_among (suc k) h =
      ⊎_elim (λ (t : twice_among width journal k ≡ true). further (two_among k t))
      (λ (t : twice_among width journal k ≡ false). rw add-one at (two_named k (rw t at h)))
      (either (twice_among width journal k))
    where
      further : Two k → Two (suc k)
      further w = record { one = w.one; other = w.other; before = w.before; counted = omega (arith, w.counted); same = w.same }

  pub two_entries : names_twice width journal ≡ true → Two (le16 journal 0)
  unfolding names_twice
  two_entries h = two_among (le16 journal 0) h

  -- without an entry that has the number, the search finds none
  pub no_entry : (number : ℕ) → ((i : ℕ) → i < le16 journal 0 → number_of width journal i ≡ number → ⊥) → journal_find width journal number ≡ None
  unfolding journal_find
  no_entry number none = go (search_from width journal number (le16 journal 0) 0) refl
    where
      go : (s : Option ℕ) → search_from width journal number (le16 journal 0) 0 ≡ s → s ≡ None
      go (Some at) f =
          let w = found_entry width journal number (le16 journal 0) 0 at f in
          absurd (none w.entry (omega (arith, w.below)) w.named)
      go None f = refl

  module _ (once : names_twice width journal ≡ false) where
    -- "every entry with the number is the same one"
    pub same_entry : (i j : ℕ) → i < le16 journal 0 → j < le16 journal 0 → number_of width journal i ≡ number_of width journal j → i ≡ j
    same_entry i j l m e =
        let below : i < j → ⊥ = λ h. clash (twice i j h m e) once in
        let above : j < i → ⊥ = λ h. clash (twice j i h l (sym e)) once in
        omega arith

    -- and the search finds it
    pub only_entry : (i number : ℕ) → i < le16 journal 0 → number_of width journal i ≡ number
        → journal_find width journal number ≡ Some (entry_start width i)
    unfolding journal_find
    only_entry i number l e = go (search_from width journal number (le16 journal 0) 0) refl
      where
        go : (s : Option ℕ) → search_from width journal number (le16 journal 0) 0 ≡ s → s ≡ Some (entry_start width i)
        go (Some at) f =
            let w = found_entry width journal number (le16 journal 0) 0 at f in
            let same : w.entry ≡ i = same_entry w.entry i (omega (arith, w.below)) l (w.named ∙ sym e) in
            ap Some (w.starts ∙ ap (entry_start width) same)
        go None f = absurd (absent_entry width journal number (le16 journal 0) 0 f i (omega arith) (omega arith) e)

-- what an entry more makes of it
pub ruleset once_steps = (once_starts, once_further, once_over, twice_found)
