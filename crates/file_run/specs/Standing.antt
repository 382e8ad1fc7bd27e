-- K14: blocks of a file from an index on, those that stand and the answer that ended them; and the walks to them, one behind the other.
use Rattle.std.specs.Prelude.{ℕ, zero, suc, ◌+◌, ◌*◌, ◌≡◌, List, [], ◌∷◌, ◌++◌, length, drop, Result, Ok, Err}
use Rattle.answer.specs.declared.Stop.{Stop}
use Rattle.answer.specs.Number.{stop_number}
use Rattle.walk.specs.Walk.{View, Walk, done, bind, Outcome, ok, stop, Lists, Walked}
use Rattle.pull.specs.Walk.{Block}
use Rattle.pull.specs.Pull.{content_bytes}

-- what a run of pulls comes to: its answer, and the blocks that stand
pub record Standing : Type 0 where
  pub answer : ℕ
  pub stand : List Block

abbrev pub standing : ℕ → List Block → Standing
standing answer stand = record { answer = answer; stand = stand }

-- one more block before those of the rest
abbrev pub before : Block → Standing → Standing
before b rest = standing rest.answer (b ∷ rest.stand)

-- "the last one's byte count"; 0 if none stands
abbrev pub last_count : List Block → ℕ
last_count [] = 0
last_count (b ∷ []) = b.count
last_count (b ∷ c ∷ bs) = last_count (c ∷ bs)

-- "Each block's bytes are what the single pull gives, holes not told apart": one behind the other
unfoldable pub bytes_standing : List Block → List ℕ
bytes_standing [] = []
bytes_standing (b ∷ bs) = content_bytes b.count b.content ++ bytes_standing bs

-- "the buffer behind them stays"
abbrev pub standing_over : List Block → List ℕ → List ℕ
standing_over stand buffer = bytes_standing stand ++ drop (4096 * length stand) buffer

-- ---- the walks of n blocks from an index on, one behind the other

-- "the run stops at the first answer that isn't 0 or 1"
abbrev pub after_one : Walk Standing → Outcome Block → Walk Standing
after_one rest (stop answer) = done (standing answer [])
after_one rest (ok b) = bind rest (λ r. done (before b r))

unfoldable pub many_walk : (ℕ → Walk (Outcome Block)) → ℕ → ℕ → Walk Standing
many_walk one zero index = done (standing 0 [])
many_walk one (suc n) index = bind (one index) (after_one (many_walk one n (index + 1)))

-- what they all begin with once, and unless that stopped the rest
abbrev pub unless_stopped : {A : Type 0} → (A → Walk Standing) → Outcome A → Walk Standing
unless_stopped f (stop answer) = done (standing answer [])
unless_stopped f (ok a) = f a

-- the code's answer: 0, or the number of the error that ended the run
abbrev pub ended : {A : Type 0} → Result A Stop → ℕ
ended (Ok a) = 0
ended (Err e) = stop_number e

-- What code that fills a buffer leaves: the walk came to an answer and to blocks that stand, as many as it counts, `bytes` is the last
-- one's count, and the buffer `old` has become `new`.
pub record FilledAs (v : View) (w : Walk Standing) (s : Lists) (answer count bytes : ℕ) (t : Lists) (old new : List ℕ) : Type 0 where
  pub stood : List Block
  pub walked : Walked v w s (standing answer stood) t
  pub many : length stood ≡ count
  pub last : bytes ≡ last_count stood
  pub wrote : new ≡ standing_over stood old
