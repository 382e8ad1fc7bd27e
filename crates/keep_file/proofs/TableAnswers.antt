-- The test of the table answers turn by turn: entry i of n is the next.
use Prim.Native.Nat.{ℕ, suc, ◌+◌, ◌-◌, ◌*◌, ◌≤◌, ◌<◌}
use native.Mathlib.Omega.{arith}
use mathlib.Core.Path.{◌≡◌, ap, ap₂, ◌∙◌}
use mathlib.Core.Bool.{Bool, true, false, ◌&&◌}
use mathlib.Core.List.{List}
use Rattle.keep_file.specs.Reading.{is_answer, are_answers}

module _ (file : List ℕ) (start : ℕ) where
  -- whether all that are left are answers
  abbrev pub Left : ℕ → ℕ → Bool
  Left i n = are_answers file (start + 16 * i) (n - i)

  pub answers_start : (n : ℕ) → are_answers file start n ≡ Left 0 n
  answers_start n = let e : start ≡ start + 16 * 0 = omega arith in let f : n ≡ n - 0 = omega arith in ap₂ (are_answers file) e f

  pub answers_over : (i n : ℕ) → n ≤ i → Left i n ≡ true
  unfolding are_answers
  answers_over i n h = let e : n - i ≡ 0 = omega arith in ap (are_answers file (start + 16 * i)) e

  module _ (i n : ℕ) (h : i < n) where
    next : Left i n ≡ is_answer file (start + 16 * i + 4) && Left (i + 1) n
    unfolding are_answers
    next =
        let e : n - i ≡ suc (n - (i + 1)) = omega arith in
        let f : start + 16 * i + 16 ≡ start + 16 * (i + 1) = omega arith in
        ap (are_answers file (start + 16 * i)) e ∙ rw f

    module _ {r : Bool} (t : r ≡ is_answer file (start + 16 * i + 4)) where
      pub answers_on : r ≡ true → Left i n ≡ Left (i + 1) n
      answers_on p = next ∙ rw (← t, p)

      pub answers_stop : r ≡ false → Left i n ≡ false
      answers_stop p = next ∙ rw (← t, p)
