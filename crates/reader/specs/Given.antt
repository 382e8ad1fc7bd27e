-- States that the start or a step gave. K10: "This is claimed of states that the start or a step gave."
use Rattle.std.specs.Prelude.{ℕ, zero, suc, ◌≤◌, ◌<◌, List, [], ◌∷◌}
use Rattle.path.specs.Path.{names_most}
use Rattle.asking.specs.Asking.{Few}
use Rattle.asking.specs.Pull.{EndingIn}
use Rattle.reader.specs.declared.Reader.{Reader}
use Rattle.reader.specs.Reading.{resume, Kept, Stepped}

-- What is known of such a state, for a card of so many blocks and k names: at most n blocks are still asked for, each on the card, and the
-- answer is in form, whatever bytes come.
pub record Given (blocks k n : ℕ) (r : Reader) : Type 0 where
  pub kept : Kept r
  pub few : Few (λ b. b < blocks) (EndingIn k) n (resume r)
  pub names : k ≤ names_most

-- steps, one after another, with whatever comes
pub data Taken : Reader → List (List ℕ) → Reader → Type 0 where
  here : {r : Reader} → Taken r [] r
  next : {r t u : Reader} {l : List ℕ} {ls : List (List ℕ)} → Stepped r l t → Taken t ls u → Taken r (l ∷ ls) u

-- so many steps, each fed the block that was asked for
pub data Driven (block : ℕ → List ℕ) : Reader → ℕ → Reader → Type 0 where
  here : {r : Reader} → Driven block r zero r
  next : {r t u : Reader} {n : ℕ} → Stepped r (block r.at.block) t → Driven block t n u → Driven block r (suc n) u
