-- The lists of a walk only grow: what bounds them at each of its ends bounds them now.
use Prim.Native.Nat.{ℕ, ◌≤◌}
use native.Mathlib.Omega.{arith}
use mathlib.Core.Bool.{Bool, true, false}
use mathlib.Core.List.{List, []}
use Rattle.std.proofs.Common.{Option, Some, None}
use lib.ListN.{length}
use Rattle.field.specs.Choice.{choose}
use Rattle.nat.specs.declared.Entry.{Entry}
use Rattle.nat.specs.Entry.{in_journal}
use Rattle.nat.specs.Table.{TableAnswer, OutOfRange, answered, in_range, entry_in}
use Rattle.list.proofs.Rises.{insert_more}
use Rattle.walk.specs.Walk.{Seen, saw_node, saw_block, Walk, done, look, read, Ran, ran, Outcome}
use Rattle.pull.specs.Walk.{Block}
use Rattle.asking.specs.Asking.{Asking, answer, ask, Few, ends, asks}
use Rattle.asking.specs.Table.{Kept, or_ask, lookup, asking}
use Rattle.asking.specs.Pull.{Ending, came}

-- a lookup goes on with some table answer
abbrev GoesOn : {A : Type 0} → (ℕ → Type 0) → (A → Type 0) → (TableAnswer → Asking A) → Type 0
GoesOn P Q k = (e : TableAnswer) × (m : ℕ) × Few P Q m (k e)

module _ {A : Type 0} {P : ℕ → Type 0} {Q : A → Type 0} where
  -- ---- what the size of a tree says of its parts
  pub few_answered : {n : ℕ} {a : A} → Few P Q n (answer a) → Q a
  few_answered (ends q) = q

  pub few_asked : {n b : ℕ} {k : List ℕ → Asking A} → Few P Q n (ask b k) → (l : List ℕ) → (m : ℕ) × Few P Q m (k l)
  few_asked (asks {n = m} p h) l = (m, h l)

  few_said : {n : ℕ} (t : Kept) (number : ℕ) (k : TableAnswer → Asking A) (j : Option Entry) → Few P Q n (or_ask t number k j) → GoesOn P Q k
  few_said {n = n} t number k (Some entry) h = (answered entry, n, h)
  few_said t number k None h = let later = few_asked h [] in (entry_in [] number, later.0, later.1)

  few_looked : {n : ℕ} (t : Kept) (number : ℕ) (k : TableAnswer → Asking A) → Few P Q n (lookup t number k) → GoesOn P Q k
  unfolding lookup
  few_looked {n = n} t number k = go (in_range t.volume number)
    where
      go : (r : Bool) → Few P Q n (choose r (or_ask t number k (in_journal t.journal number)) (k OutOfRange)) → GoesOn P Q k
      go true h = few_said t number k (in_journal t.journal number) h
      go false h = (OutOfRange, n, h)

pub lists_few : {P : ℕ → Type 0} {Q : Ending → Type 0} {n : ℕ} (t : Kept) (N M : ℕ) (s : Seen) (w : Walk (Outcome Block))
    → Few P Q n (asking t came s w)
    → ((r : Ran (Outcome Block)) → Q (came r) → (length r.seen.nodes ≤ N) × (length r.seen.blocks ≤ M))
    → (length s.nodes ≤ N) × (length s.blocks ≤ M)
unfolding asking
lists_few t N M s (done a) h most = most (ran a s) (few_answered h)
lists_few {n = m} t N M s (look n k) h most =
    let on = few_looked t n (λ e. asking t came (saw_node n s) (k e)) h in
    let later = lists_few {n = on.1} t N M (saw_node n s) (k on.0) on.2 most in
    let more = insert_more n s.nodes in
    (omega arith, omega arith)
lists_few {n = m} t N M s (read b k) h most =
    let on = few_asked h [] in
    let later = lists_few {n = on.0} t N M (saw_block b s) (k []) on.1 most in
    let more = insert_more b s.blocks in
    (omega arith, omega arith)
