-- What a walk comes to on one card, where that depends on what the card holds: a tree's size (`Within`) speaks of any bytes that a block
-- may have.
use mathlib.Core.Path.{◌≡◌, sym, refl, subst}
use mathlib.Core.Bool.{Bool, true, false}
use Rattle.field.specs.Choice.{choose}
use mathlib.Core.List.{List}
use Prim.Native.Nat.{ℕ}
use Rattle.nat.specs.Table.{TableAnswer}
use Rattle.walk.specs.Walk.{View, Seen, saw_node, saw_block, Walk, done, look, read, Ran, run, Outcome, ok, stop, onward, and_then}
use Rattle.walk.proofs.Runs.{run_bind}

-- Q of the value, unless an answer ended the walk
abbrev pub IfOk : {A : Type 0} → (A → Type 0) → Outcome A → Type 0
IfOk Q (ok a) = Q a
IfOk Q (stop answer) = Unit {0}

-- whatever was listed before, the walk comes to such a value
pub record Comes {A : Type 0} (v : View) (Q : A → Type 0) (w : Walk (Outcome A)) : Type 0 where
  pub value : (s : Seen) → IfOk Q (run v s w).value

module _ {v : View} where
  pub comes_done : {A : Type 0} {Q : A → Type 0} (o : Outcome A) → IfOk Q o → Comes v Q (done o)
  unfolding run
  comes_done o q = record { value = λ s. q }

  pub comes_stop : {A : Type 0} {Q : A → Type 0} (answer : ℕ) → Comes v Q (done (stop answer))
  comes_stop answer = comes_done (stop answer) tt

  pub comes_look : {A : Type 0} {Q : A → Type 0} (n : ℕ) (k : TableAnswer → Walk (Outcome A)) → Comes v Q (k (v.table n)) → Comes v Q (look n k)
  unfolding run
  comes_look n k h = record { value = λ s. h.value (saw_node n s) }

  pub comes_read : {A : Type 0} {Q : A → Type 0} (b : ℕ) (k : List ℕ → Walk (Outcome A)) → Comes v Q (k (v.block b)) → Comes v Q (read b k)
  unfolding run
  comes_read b k h = record { value = λ s. h.value (saw_block b s) }

  pub comes_if : {A : Type 0} {Q : A → Type 0} (t : Bool) {x y : Walk (Outcome A)} → (t ≡ true → Comes v Q x) → (t ≡ false → Comes v Q y)
      → Comes v Q (choose t x y)
  comes_if true f g = f refl
  comes_if false f g = g refl

  pub comes_then : {A B : Type 0} {Q : A → Type 0} {R : B → Type 0} {w : Walk (Outcome A)} (f : A → Walk (Outcome B))
      → Comes v Q w → ((a : A) → Q a → Comes v R (f a)) → Comes v R (and_then w f)
  unfolding and_then onward run
  comes_then {A} {B} {Q} {R} {w} f h g = record {
    value = λ s. subst (λ (r : Ran (Outcome B)). IfOk R r.value) (sym (run_bind v s w (onward f))) (go s (run v s w).value (h.value s));
  }
    where
      go : (s : Seen) (o : Outcome A) → IfOk Q o → IfOk R (run v (run v s w).seen (onward f o)).value
      go s (ok a) q = (g a q).value (run v s w).seen
      go s (stop answer) q = tt

  -- of any value nothing is said
  pub comes_any : {A : Type 0} (w : Walk (Outcome A)) → Comes v (λ _. Unit {0}) w
  comes_any {A} w = record { value = λ s. go (run v s w).value }
    where
      go : (o : Outcome A) → IfOk (λ _. Unit {0}) o
      go (ok a) = tt
      go (stop answer) = tt

  -- a value of which less is said
  pub comes_map : {A : Type 0} {Q R : A → Type 0} {w : Walk (Outcome A)} → ((a : A) → Q a → R a) → Comes v Q w → Comes v R w
  comes_map {A} {Q} {R} {w} f h = record { value = λ s. go (run v s w).value (h.value s) }
    where
      go : (o : Outcome A) → IfOk Q o → IfOk R o
      go (ok a) q = f a q
      go (stop answer) q = tt
