-- The loop over the blocks of a run, for any walk to a single block: what is left is the run from block k on, behind those that stand.
use Prim.Native.Nat.{ℕ, suc, ◌+◌, ◌-◌, ◌≤◌, ◌<◌}
use native.Mathlib.Omega.{arith}
use mathlib.Core.Path.{◌≡◌, refl, sym, ap, ◌∙◌}
use mathlib.Core.List.{List, [], ◌∷◌, ◌++◌, append-nil, append_assoc}
use lib.ListN.{length, length-append}
use Rattle.walk.specs.Walk.{View, Walk, done, look, read, bind, Outcome, ok, stop, Lists, Walked, Fits}
use Rattle.walk.proofs.Trees.{bind_bind}
use Rattle.walk.proofs.Reached.{Reached, reached_start, reached_to, reached_bind, reached_done}
use Rattle.walk.proofs.Fits.{fits_part, fits_at}
use Rattle.pull.specs.Walk.{Block}
use Rattle.file_run.specs.Standing.{Standing, standing, before, after_one, many_walk}

-- those that stand, and then the rest
abbrev behind : List Block → Standing → Standing
behind stood r = standing r.answer (stood ++ r.stand)

abbrev left : (ℕ → Walk (Outcome Block)) → List Block → ℕ → ℕ → Walk Standing
left one stood n index = bind (many_walk one n index) (λ r. done (behind stood r))

bind_done : {A : Type 0} (w : Walk A) → bind w (λ a. done a) ≡ w
unfolding bind
bind_done (done a) = refl
bind_done (look n k) = λ i. look n (λ t. bind_done (k t) i)
bind_done (read b k) = λ i. read b (λ l. bind_done (k l) i)

-- ---- one step of the tree
module _ (one : ℕ → Walk (Outcome Block)) (stood : List Block) where
  after : ℕ → ℕ → Outcome Block → Walk Standing
  after n index x = bind (after_one (many_walk one n (index + 1)) x) (λ r. done (behind stood r))

  left_step : (n index : ℕ) → left one stood (suc n) index ≡ bind (one index) (after n index)
  unfolding many_walk after
  left_step n index = bind_bind (one index) (after_one (many_walk one n (index + 1))) (λ r. done (behind stood r))

  after_stop : (n index answer : ℕ) → after n index (stop answer) ≡ done (standing answer stood)
  unfolding after bind
  after_stop n index answer = ap (λ (l : List Block). done (standing answer l)) (append-nil stood)

  after_ok : (n index : ℕ) (b : Block) → after n index (ok b) ≡ left one (stood ++ (b ∷ [])) n (index + 1)
  unfolding after bind
  after_ok n index b =
      bind_bind (many_walk one n (index + 1)) (λ r. done (before b r)) (λ r. done (behind stood r))
      ∙ (λ i. bind (many_walk one n (index + 1)) (λ r. done (standing r.answer (sym (append_assoc stood (b ∷ []) r.stand) i))))

-- ---- k blocks stand
pub record Filling (v : View) (one : ℕ → Walk (Outcome Block)) (n index : ℕ) (s : Lists) (k : ℕ) (stood : List Block) (t : Lists) : Type 0 where
  pub many : length stood ≡ k
  pub within : k ≤ n
  pub here : Reached v (many_walk one n index) s (left one stood (n - k) (index + k)) t

pub filling_start : {v : View} (one : ℕ → Walk (Outcome Block)) (n index : ℕ) {s : Lists} → Filling v one n index s 0 [] s
filling_start {v = v} one n index {s} =
    let p : n - 0 ≡ n = omega arith in
    let q : index + 0 ≡ index = omega arith in
    let e : many_walk one n index ≡ left one [] (n - 0) (index + 0) = rw (p, q) (sym (bind_done (many_walk one n index))) in
    record { many = refl; within = omega arith; here = reached_to (reached_start v (many_walk one n index) s) e }

module _ {v : View} {one : ℕ → Walk (Outcome Block)} {n index : ℕ} {s : Lists} {k : ℕ} {stood : List Block} {t : Lists}
    (go : Filling v one n index s k stood t) where
  pub filling_end : n ≤ k → Walked v (many_walk one n index) s (standing 0 stood) t
  unfolding many_walk bind
  filling_end h =
      let p : n - k ≡ 0 = omega arith in
      reached_done (reached_to go.here (ap (λ (j : ℕ). left one stood j (index + k)) p ∙ ap (λ (l : List Block). done (standing 0 l)) (append-nil stood)))

  module _ (h : k < n) where
    abbrev then' : Outcome Block → Walk Standing
    then' = after one stood (n - (k + 1)) (index + k)

    at_next : Reached v (many_walk one n index) s (bind (one (index + k)) then') t
    at_next =
        let p : n - k ≡ suc (n - (k + 1)) = omega arith in
        reached_to go.here (ap (λ (j : ℕ). left one stood j (index + k)) p ∙ left_step one stood (n - (k + 1)) (index + k))

    -- the next single walk fits
    pub filling_fits : Fits v (many_walk one n index) s → Fits v (one (index + k)) t
    filling_fits fits = fits_part (one (index + k)) then' (fits_at fits at_next)

    module _ {x : Outcome Block} {u : Lists} (step : Walked v (one (index + k)) t x u) where
      pub filling_stop : {answer : ℕ} → x ≡ stop answer → Walked v (many_walk one n index) s (standing answer stood) u
      filling_stop {answer = answer} e =
          reached_done (reached_to (reached_bind then' at_next step) (ap then' e ∙ after_stop one stood (n - (k + 1)) (index + k) answer))

      pub filling_next : {b : Block} → x ≡ ok b → Filling v one n index s (k + 1) (stood ++ (b ∷ [])) u
      filling_next {b = b} e =
          let q : index + k + 1 ≡ index + (k + 1) = omega arith in
          let many = go.many in
          let f = ap then' e ∙ after_ok one stood (n - (k + 1)) (index + k) b ∙ ap (left one (stood ++ (b ∷ [])) (n - (k + 1))) q in
          record {
            many = length-append stood (b ∷ []) ∙ ap (λ (j : ℕ). j + 1) many;
            within = omega arith;
            here = reached_to (reached_bind then' at_next step) f;
          }
