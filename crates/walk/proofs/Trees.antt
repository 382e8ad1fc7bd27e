-- Three walks one behind another are the same tree by their first two or by their last two.
use mathlib.Core.Path.{◌≡◌, refl, ◌∙◌}
use Rattle.walk.specs.Walk.{Walk, done, look, read, bind, Outcome, ok, stop, onward, and_then}

pub bind_bind : {A B C : Type 0} (w : Walk A) (f : A → Walk B) (g : B → Walk C) → bind (bind w f) g ≡ bind w (λ a. bind (f a) g)
unfolding bind
bind_bind (done a) f g = refl
bind_bind (look n k) f g = λ i. look n (λ t. bind_bind (k t) f g i)
bind_bind (read b k) f g = λ i. read b (λ l. bind_bind (k l) f g i)

onward_onward : {A B C : Type 0} (f : A → Walk (Outcome B)) (g : B → Walk (Outcome C)) (x : Outcome A)
    → bind (onward f x) (onward g) ≡ onward (λ a. bind (f a) (onward g)) x
unfolding bind onward
onward_onward f g (ok a) = refl
onward_onward f g (stop answer) = refl

pub then_then : {A B C : Type 0} (w : Walk (Outcome A)) (f : A → Walk (Outcome B)) (g : B → Walk (Outcome C))
    → and_then (and_then w f) g ≡ and_then w (λ a. and_then (f a) g)
unfolding and_then
then_then w f g = bind_bind w (onward f) (onward g) ∙ (λ i. bind w (λ x. onward_onward f g x i))

-- the first has nothing to ask
pub then_ok : {A B : Type 0} (a : A) (f : A → Walk (Outcome B)) → and_then (done (ok a)) f ≡ f a
unfolding and_then bind onward
then_ok a f = refl
