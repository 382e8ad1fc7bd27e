-- A reader comes to its answer in as many steps as its tree may ask for blocks, whatever comes; fed the blocks that it asks for, it comes
-- to what its tree comes to.
use Prim.Native.Nat.{ℕ, zero, suc, ◌+◌}
use native.Mathlib.Omega.{arith}
use mathlib.Core.Path.{◌≡◌, refl}
use mathlib.Core.List.{List, [], ◌∷◌}
use lib.ListN.{length}
use lib.Dec.{eqb}
use borrow.Author.Tests.{eq-eqb, ne_eqb}
use Rattle.asking.specs.Asking.{Asking, answer, ask, fed, Few, ends, asks}
use Rattle.asking.specs.Pull.{Ending, refused, fed_with, steps, driven}
use Rattle.asking.proofs.Sizes.{few_if}

-- ---- one step

-- "a step after the answer repeats it whatever comes"
pub answer_stays : (l : List ℕ) (x : Ending) → fed_with l (answer x) ≡ answer x
unfolding fed_with
answer_stays l x = refl

module _ (l : List ℕ) (b : ℕ) (k : List ℕ → Asking Ending) where
  -- "Before that, bytes of another length give 4."
  pub wrong_length : (length l ≡ 4096 → ⊥) → fed_with l (ask b k) ≡ answer (refused 4)
  unfolding fed_with
  wrong_length n = rw (ne_eqb (length l) 4096 n)

  pub goes_on_lem : length l ≡ 4096 → fed_with l (ask b k) ≡ k l
  unfolding fed_with
  goes_on_lem e = rw (eq-eqb (length l) 4096 e)

module _ {P : ℕ → Type 0} {Q : Ending → Type 0} where
  -- one step leaves a tree that asks for one block fewer
  pub few_fed : {n : ℕ} {a : Asking Ending} (l : List ℕ) → Q (refused 4) → Few P Q (suc n) a → Few P Q n (fed_with l a)
  unfolding fed_with
  few_fed l four (ends q) = ends q
  few_fed l four (asks p h) = few_if (eqb (length l) 4096) (λ _. h l) (λ _. ends four)

  -- ---- many steps, with whatever comes
  pub few_steps : {n : ℕ} {a : Asking Ending} (ls : List (List ℕ)) → Q (refused 4) → Few P Q (length ls + n) a → Few P Q n (steps ls a)
  unfolding steps
  few_steps {n = n} [] four h = let e : 0 + n ≡ n = omega arith in rw e at h
  few_steps {n = n} {a = a} (l ∷ ls) four h =
      let e : length (l ∷ ls) + n ≡ suc (length ls + n) = omega arith in
      few_steps {a = fed_with l a} ls four (few_fed l four (rw e at h))

  at_once : {n : ℕ} {a : Asking Ending} → Few P Q n a → n ≡ 0 → (x : Ending) × (a ≡ answer x) × Q x
  at_once (ends {a = x} q) e = (x, refl, q)
  at_once (asks p h) e = absurd (omega arith)

  -- as many steps as there may be blocks asked for lead to an answer
  pub steps_end : {a : Asking Ending} (ls : List (List ℕ)) → Q (refused 4) → Few P Q (length ls) a → (x : Ending) × (steps ls a ≡ answer x) × Q x
  steps_end ls four h = let e : length ls ≡ length ls + 0 = omega arith in at_once (few_steps ls four (rw e at h)) refl

  -- ---- fed the blocks that are asked for
  pub driven_ends : {n : ℕ} {a : Asking Ending} (block : ℕ → List ℕ) → ((b : ℕ) → P b → length (block b) ≡ 4096) → Few P Q n a
      → driven block n a ≡ answer (fed block a)
  unfolding driven fed
  driven_ends {n = zero} block whole (ends q) = refl
  driven_ends {n = suc n} block whole (ends q) = refl
  driven_ends block whole (asks {b = b} {k = k} p h) = rw (goes_on_lem (block b) b k (whole b p)) (driven_ends block whole (h (block b)))
