-- Which of two packs wins by its version: the laws of the rule, for versions of 64 bits. `ahead` and `behind` decide every pair: 1 to
-- 2 ^ 63 - 1 versions on, wrapped, wins from either side. Less than 2 ^ 63 apart as numbers, the greater wins.
use Rattle.std.proofs.Common.{◌≡◌, ℕ, ◌+◌, ◌%◌, ◌^◌, ◌<◌, ◌≤◌, Bool, true, false, ◌&&◌, ltb, List, get_or, ⊎_elim, arith, ltb-false, ltb-true, le-ltb, lt-ltb}
use mathlib.Core.Bool.{and-false}
use Rattle.field.specs.Card.{Card}
use Rattle.field.proofs.Choosing.{either, needed}
use Rattle.field.proofs.Widths.{le64_fits}
use Rattle.checkpoint.specs.declared.Checkpoint.{Checkpoint}
use Rattle.std.specs.Prelude.{Some}
use Rattle.checkpoint.specs.Checkpoint.{checkpoint_of, header_of}
use Rattle.checkpoint.specs.Pack.{pack_passes, wrapped_difference, above_zero, newer, second_pack, chosen}
use Rattle.checkpoint.proofs.Choosing.{chosen_first, chosen_second}

-- ---- above zero is 1 to 2 ^ 63 - 1

one_fails : (a b : Bool) → b ≡ false → (a && b) ≡ false
one_fails a b p = rw (p, and-false)

not_above : (d : ℕ) → (0 < d → 2 ^ 63 ≤ d) → above_zero d ≡ false
not_above d far =
    ⊎_elim
    (λ (l : ltb 0 d ≡ true). let h : 2 ^ 63 ≤ d = far (ltb-true 0 d l) in search (one_fails, le-ltb))
    (λ (l : ltb 0 d ≡ false). rw l)
    (either (ltb 0 d))

above : (d : ℕ) → 0 < d → d < 2 ^ 63 → above_zero d ≡ true
above d l h = rw (lt-ltb 0 d l, lt-ltb d (2 ^ 63) h)

is_above : (d : ℕ) → above_zero d ≡ true → (0 < d) × (d < 2 ^ 63)
is_above d h = (ltb-true 0 d (needed (λ l. rw l) h), ltb-true d (2 ^ 63) (needed (λ l. rw (l, and-false)) h))

-- ---- the rule

module _ (first second : Checkpoint) where
  abbrev v : ℕ
  v = first.checkpoint_ver

  abbrev w : ℕ
  w = second.checkpoint_ver

  -- the second is newer if it is 1 to 2 ^ 63 - 1 versions ahead, wrapped
  pub ahead : (k : ℕ) → 0 < k → k < 2 ^ 63 → v < 2 ^ 64 → w ≡ (v + k) % 2 ^ 64 → newer first second ≡ true
  unfolding newer
  ahead k l h b e = above (wrapped_difference v w) (omega arith) (omega arith)

  -- it isn't if it is 0 to 2 ^ 63 behind
  pub behind : (k : ℕ) → k ≤ 2 ^ 63 → v ≡ (w + k) % 2 ^ 64 → newer first second ≡ false
  unfolding newer
  behind k h e = not_above (wrapped_difference v w) (omega arith)

  -- K12's "version one higher, wrapped", as second and as first
  pub next_second : v < 2 ^ 64 → w ≡ (v + 1) % 2 ^ 64 → newer first second ≡ true
  next_second = ahead 1 (omega arith) (omega arith)

  pub next_first : v ≡ (w + 1) % 2 ^ 64 → newer first second ≡ false
  next_first = behind 1 (omega arith)

  -- of two with one version neither is newer
  pub same_version : v ≡ w → newer first second ≡ false
  unfolding newer
  same_version e = not_above (wrapped_difference v w) (omega arith)

  -- "A difference of exactly 2^63 keeps the first pack": neither is newer
  pub half_apart : w ≡ (v + 2 ^ 63) % 2 ^ 64 → (newer first second ≡ false) × (newer second first ≡ false)
  unfolding newer
  half_apart e = (not_above (wrapped_difference v w) (omega arith), not_above (wrapped_difference w v) (omega arith))

  -- not both of two are newer than each other
  pub not_both : newer first second ≡ true → newer second first ≡ false
  unfolding newer
  not_both n = let d = is_above (wrapped_difference v w) n in not_above (wrapped_difference w v) (omega arith)

  -- less than 2 ^ 63 apart, the greater version wins
  pub greater_wins : v < w + 2 ^ 63 → w < v + 2 ^ 63 → newer first second ≡ ltb v w
  unfolding newer
  greater_wins b c =
      ⊎_elim
      (λ (l : ltb v w ≡ true). let less : v < w = ltb-true v w l in rw l (above (wrapped_difference v w) (omega arith) (omega arith)))
      (λ (l : ltb v w ≡ false). let more : w ≤ v = ltb-false v w l in rw l (not_above (wrapped_difference v w) (omega arith)))
      (either (ltb v w))

-- ---- the choice: a pack that passes and wins by its version is chosen, whatever the other holds

-- what `ahead` asks of the first version holds of every block of bytes
pub version_fits : (block : List ℕ) → ((i : ℕ) → get_or block i 0 < 256) → (checkpoint_of block).checkpoint_ver < 2 ^ 64
unfolding checkpoint_of
version_fits block bytes = le64_fits block bytes 0

module _ (card : Card) (address : ℕ) where
  abbrev one : Checkpoint
  one = header_of card address

  abbrev two : Checkpoint
  two = header_of card (second_pack address)

  pub next_second_chosen : pack_passes card (second_pack address) ≡ true → one.checkpoint_ver < 2 ^ 64
      → two.checkpoint_ver ≡ (one.checkpoint_ver + 1) % 2 ^ 64
      → chosen card address ≡ Some (second_pack address)
  next_second_chosen p b e = chosen_second card address p (next_second one two b e)

  pub next_first_chosen : pack_passes card address ≡ true
      → one.checkpoint_ver ≡ (two.checkpoint_ver + 1) % 2 ^ 64
      → chosen card address ≡ Some address
  next_first_chosen p e = chosen_first card address p (next_first one two e)

  pub half_apart_chosen : pack_passes card address ≡ true
      → two.checkpoint_ver ≡ (one.checkpoint_ver + 2 ^ 63) % 2 ^ 64
      → chosen card address ≡ Some address
  half_apart_chosen p e = chosen_first card address p (half_apart one two e).0
