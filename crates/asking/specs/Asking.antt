-- What a reader that is fed one block at a time means: a tree that asks for blocks alone.
use Rattle.std.specs.Prelude.{ℕ, suc, List}

-- K10: "Each step asks for one block or gives the answer"
pub data Asking (A : Type 0) : Type 0 where
  answer : A → Asking A
  ask : ℕ → (List ℕ → Asking A) → Asking A

-- what it comes to, fed each block that it asks for
unfoldable pub fed : {A : Type 0} → (ℕ → List ℕ) → Asking A → A
fed block (answer a) = a
fed block (ask b k) = fed block (k (block b))

-- Whatever bytes come: at most n blocks are asked for, P holds of each of their numbers, and Q of the answer.
pub data Few {A : Type 0} (P : ℕ → Type 0) (Q : A → Type 0) : ℕ → Asking A → Type 0 where
  ends : {n : ℕ} {a : A} → Q a → Few P Q n (answer a)
  asks : {n b : ℕ} {k : List ℕ → Asking A} → P b → ((l : List ℕ) → Few P Q n (k l)) → Few P Q (suc n) (ask b k)
