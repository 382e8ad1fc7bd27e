-- A word either has a set bit among those that are counted, or zeros to its end: what the shift brings in behind them is none of the map.
use mathlib.Core.Path.{◌∙◌}
use Prim.Native.Nat.{ℕ, ◌<◌}
use lib.ListN.{get_or}
use Rattle.field.proofs.Zeros.{word_one, word_least}
use Rattle.field.proofs.word_zeros.Goals as goal
use Rattle.field.proofs.word_zeros.Goals.{After-get64}

bytes : (r : After-get64) → (k : ℕ) → get_or r.args.map.now k 0 < 256
bytes r k = (r.type_inv.map k).fits

pub returns-then-word-eq2 : goal.returns-then-word-eq2
returns-then-word-eq2 c =
    word_one c.args.map.now (bytes (goal.at.returns-then-word-eq2 c).After-get64) c.args.b (rw c.get64.ensures at c.if-word-eq2.true)

pub returns-else-word-eq2 : goal.returns-else-word-eq2
returns-else-word-eq2 c =
    c.min.ensures ∙ rw c.get64.ensures (word_least c.args.map.now (bytes (goal.at.returns-else-word-eq2 c).After-get64) c.args.b)
