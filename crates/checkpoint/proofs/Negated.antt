-- A test t whose result r the code negates, as in `if !t { return .. }`: what each way knows of t.
use Rattle.std.proofs.Common.{◌≡◌, Bool, true, false, sym, ◌∙◌}

module _ {r t : Bool} (e : r ≡ t) where
  pub fails : r ≡ false → t ≡ false
  fails n = sym e ∙ n

  pub holds : r ≡ true → t ≡ true
  holds n = sym e ∙ n
