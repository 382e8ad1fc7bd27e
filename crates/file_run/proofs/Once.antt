-- Walks one behind the other over the same lists: what they all begin with may be walked once.
use Prim.Native.Nat.{ℕ, zero, suc, ◌+◌}
use mathlib.Core.Path.{◌≡◌, refl, sym, ap, ◌∙◌}
use Rattle.walk.specs.Walk.{View, Seen, empty, Walk, done, Ran, ran, run, bind, Outcome, ok, stop, and_then, BothRise}
use Rattle.walk.proofs.Runs.{run_bind, run_rising, run_then, run_stop}
use Rattle.walk.proofs.Again.{Knows, value_same, run_again, knows_own, knows_more}
use Rattle.pull.specs.Walk.{Block}
use Rattle.file_run.specs.Standing.{Standing, before, after_one, many_walk, unless_stopped}

after_same : (v : View) (t : Seen) (w q : Walk Standing) (x : Outcome Block) → run v t w ≡ run v t q → run v t (after_one w x) ≡ run v t (after_one q x)
after_same v t w q (stop answer) e = refl
after_same v t w q (ok b) e =
    run_bind v t w (λ r. done (before b r))
    ∙ ap (λ (o : Ran Standing). run v o.seen (done (before b o.value))) e
    ∙ sym (run_bind v t q (λ r. done (before b r)))

-- two that run alike, and then rests that run alike
step_same : (v : View) (s t : Seen) (w q : Walk (Outcome Block)) (rest more : Walk Standing) → run v s w ≡ run v t q
    → run v (run v t q).seen rest ≡ run v (run v t q).seen more → run v s (bind w (after_one rest)) ≡ run v t (bind q (after_one more))
step_same v s t w q rest more e f =
    run_bind v s w (after_one rest)
    ∙ ap (λ (o : Ran (Outcome Block)). run v o.seen (after_one rest o.value)) e
    ∙ after_same v (run v t q).seen rest more (run v t q).value f
    ∙ sym (run_bind v t q (after_one more))

module _ {A : Type 0} (v : View) (p : Walk (Outcome A)) (f : ℕ → A → Walk (Outcome Block)) where
  abbrev each : ℕ → Walk (Outcome Block)
  each j = and_then p (f j)

  -- where the beginning is listed already
  skip : (a : A) → (run v empty p).value ≡ ok a → (n index : ℕ) (s : Seen) → BothRise s → Knows v s p
      → run v s (many_walk each n index) ≡ run v s (many_walk (λ j. f j a) n index)
  unfolding many_walk
  skip a e zero index s r k = refl
  skip a e (suc n) index s r k =
      let t = (run v s (f index a)).seen in
      step_same v s s (each index) (f index a) _ _ (run_then v s p (f index) (run_again v s empty p r k ∙ ap (λ (x : Outcome A). ran x s) e))
      (skip a e n (index + 1) t (run_rising v s (f index a) r) (knows_more v s (f index a) p k))

  pub walk_once : (n index : ℕ) (s : Seen) → BothRise s
      → run v s (many_walk each (suc n) index) ≡ run v s (bind p (unless_stopped (λ a. many_walk (λ j. f j a) (suc n) index)))
  unfolding many_walk run
  walk_once n index s r = go (run v s p).value refl ∙ sym (run_bind v s p _)
    where
      t : Seen
      t = (run v s p).seen

      go : (x : Outcome A) → (run v s p).value ≡ x
          → run v s (many_walk each (suc n) index) ≡ run v t (unless_stopped (λ a. many_walk (λ j. f j a) (suc n) index) x)
      go (stop answer) e =
          run_bind v s (each index) _
          ∙ ap (λ (o : Ran (Outcome Block)). run v o.seen (after_one (many_walk each n (index + 1)) o.value))
          (run_stop v s p (f index) (ap (λ (x : Outcome A). ran x t) e))
      go (ok a) e =
          let u = (run v t (f index a)).seen in
          step_same v s t (each index) (f index a) _ _ (run_then v s p (f index) (ap (λ (x : Outcome A). ran x t) e))
          (skip a (value_same v empty s p ∙ e) n (index + 1) u (run_rising v t (f index a) (run_rising v s p r))
          (knows_more v t (f index a) p (knows_own v s p)))
