-- The hash from a place of the name on: what one turn of the loop over it goes by, and the hash by whether the
-- name is dots.
use Rattle.std.proofs.Common.{◌≡◌, ℕ, zero, suc, ◌-◌, ◌<◌, ◌≤◌, true, false, ◌∙◌}
use Rattle.std.proofs.Common.{List, length, take, drop, refl, ap, arith, length-drop, take_all, le-ltb, lt-ltb}
use mathlib.Core.Logic.{⊎_elim}
use native.Mathlib.Nat.{eq-zero-or-pos}
use Rattle.name_hash.specs.declared.State.{State}
use Rattle.name_hash.specs.Hash.{tea, key_of, absorb, start_state, is_dots, hash_of}

-- as many turns as there are, whatever n is left for them
absorb_enough : (n m : ℕ) (rest : List ℕ) (s : State) → length rest ≤ n → length rest ≤ m → absorb n rest s ≡ absorb m rest s
unfolding absorb
absorb_enough zero zero rest s h l = refl
absorb_enough zero (suc m) rest s h l = rw (le-ltb 16 (length rest) (omega arith))
absorb_enough (suc n) zero rest s h l = rw (le-ltb 16 (length rest) (omega arith))
absorb_enough (suc n) (suc m) rest s h l =
    let k = length-drop 16 rest in
    ⊎_elim (λ z. rw (le-ltb 16 (length rest) (omega arith)))
    (λ z. rw (lt-ltb 16 (length rest) (omega arith)) (absorb_enough n m (drop 16 rest) (tea (key_of rest) s) (omega arith) (omega arith)))
    (eq-zero-or-pos (length rest - 16))

pub absorb_next : (rest : List ℕ) (s : State) → 16 < length rest
    → absorb (length rest) rest s ≡ absorb (length (drop 16 rest)) (drop 16 rest) (tea (key_of rest) s)
unfolding absorb
absorb_next rest s h =
    let e : length rest ≡ suc (length rest - 1) = omega arith in
    let k = length-drop 16 rest in
    ap (λ (n : ℕ). absorb n rest s) e
    ∙ rw (lt-ltb _ _ h) (absorb_enough (length rest - 1) (length (drop 16 rest)) (drop 16 rest) (tea (key_of rest) s) (omega arith) (omega arith))

-- a last turn, whatever n is left for it
pub absorb_last : (n : ℕ) (rest : List ℕ) (s : State) → length rest ≤ 16 → absorb n rest s ≡ tea (key_of rest) s
unfolding absorb
absorb_last zero rest s h = refl
absorb_last (suc n) rest s h = rw (le-ltb _ _ h)

-- a part that runs to the end, as the code hands it over
pub rest_part : (rest : List ℕ) (at : ℕ) → take (length rest - at) (drop at rest) ≡ drop at rest
rest_part rest at = take_all (length rest - at) (drop at rest) (omega (arith, length-drop at rest))

pub hash_dots : (name : List ℕ) → is_dots name ≡ true → hash_of name ≡ 0
unfolding hash_of
hash_dots name e = rw e

pub hash_other : (name : List ℕ) → is_dots name ≡ false → hash_of name ≡ (absorb (length name) name start_state).first
unfolding hash_of
hash_other name e = rw e
