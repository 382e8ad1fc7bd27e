-- A journal that can be searched lies in its first 512 bytes: kept without the others, it says the same.
use Prim.Native.Nat.{ℕ, zero, suc, ◌+◌, ◌≤◌}
use native.Mathlib.Omega.{arith}
use mathlib.Core.Path.{◌≡◌, refl, ap, ◌∙◌}
use mathlib.Core.List.{List}
use Rattle.std.proofs.Common.{Option, Some, None}
use lib.ListN.{take}
use lib.Seq.{get_or-take}
use Rattle.field.specs.Number.{le16, le32}
use Rattle.journal.specs.Journal.{entry_start, search_from, journal_find}
use Rattle.journal.proofs.Searching.{found_inside}
use Rattle.nat.specs.Entry.{held_at, in_journal}

module _ (l : List ℕ) where
  short16 : (at : ℕ) → at + 2 ≤ 512 → le16 (take 512 l) at ≡ le16 l at
  unfolding le16
  short16 at h = rw (get_or-take 512 l at 0 (omega arith), get_or-take 512 l (at + 1) 0 (omega arith))

  short32 : (at : ℕ) → at + 4 ≤ 512 → le32 (take 512 l) at ≡ le32 l at
  unfolding le32
  short32 at h = rw (short16 at (omega arith), short16 (at + 2) (omega arith))

  short_search : (n k i : ℕ) → i + k ≤ 38 → search_from 13 (take 512 l) n k i ≡ search_from 13 l n k i
  unfolding search_from
  short_search n zero i h = refl
  short_search n (suc k) i h = rw (short32 (entry_start 13 i) (omega arith), short_search n k (i + 1) (omega arith))

  module _ (few : le16 l 0 ≤ 38) where
    short_find : (n : ℕ) → journal_find 13 (take 512 l) n ≡ journal_find 13 l n
    unfolding journal_find
    short_find n = rw (short16 0 (omega arith)) (short_search n (le16 l 0) 0 (omega arith))

    -- an entry's two numbers
    short_held : (n : ℕ) (s : Option ℕ) → journal_find 13 l n ≡ s → held_at (take 512 l) s ≡ held_at l s
    short_held n (Some at) e =
        let inside : at + 13 ≤ entry_start 13 (le16 l 0) = found_inside 13 l n at e in
        rw (short32 (at + 4 + 1) (omega arith), short32 (at + 4 + 5) (omega arith))
    short_held n None e = refl

    pub short_journal : (n : ℕ) → in_journal (take 512 l) n ≡ in_journal l n
    unfolding in_journal
    short_journal n = ap (held_at (take 512 l)) (short_find n) ∙ short_held n (journal_find 13 l n) refl
