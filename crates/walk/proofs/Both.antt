-- One walk and then another, each done by a function.
use Prim.Native.Nat.{ℕ}
use mathlib.Core.Path.{◌≡◌}
use Rattle.walk.specs.Walk.{View, Walk, Outcome, ok, stop, and_then, Lists, Walked, Fits}
use Rattle.walk.proofs.Reached.{reached_start, reached_then, reached_stop, reached_all}
use Rattle.walk.proofs.Fits.{fits_at}

module _ {A B : Type 0} {v : View} {p : Walk (Outcome A)} {s t : Lists} {x : Outcome A} (f : A → Walk (Outcome B)) (first : Walked v p s x t) where
  -- the first stopped, and so do both
  pub both_stop : {answer : ℕ} → x ≡ stop answer → Walked v (and_then p f) s (stop answer) t
  both_stop e = reached_stop f (reached_start _ _ _) first e

  -- the first came to a value, so the second goes on
  pub second_fits : {a : A} → x ≡ ok a → Fits v (and_then p f) s → Fits v (f a) t
  second_fits e fits = fits_at fits (reached_then f (reached_start _ _ _) first e)

  pub both_walked : {a : A} {y : Outcome B} {u : Lists} → x ≡ ok a → Walked v (f a) t y u → Walked v (and_then p f) s y u
  both_walked e second = reached_all (reached_then f (reached_start _ _ _) first e) second
