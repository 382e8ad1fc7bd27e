-- How many blocks a tree asks for at most, whatever bytes come, and where they lie; and how long the lists are at its end.
use Prim.Native.Nat.{ℕ, suc, ◌+◌, ◌-◌, ◌≤◌}
use native.Mathlib.Omega.{arith}
use native.Mathlib.Nat.{suc-add, add-suc}
use mathlib.Core.Path.{◌≡◌, refl}
use mathlib.Core.Bool.{Bool, true, false}
use lib.ListN.{length}
use Rattle.std.proofs.Common.{Option, Some, None}
use Rattle.field.specs.Choice.{choose}
use Rattle.nat.specs.declared.Entry.{Entry}
use Rattle.nat.specs.Entry.{in_journal}
use Rattle.nat.specs.Table.{TableAnswer, OutOfRange, answered, in_range, entry_in}
use Rattle.list.proofs.Rises.{length_insert, rising_insert}
use Rattle.walk.specs.Walk as w
use Rattle.walk.specs.Walk.{Seen, saw_node, saw_block, Walk, Ran, ran, Within, BothRise}
use Rattle.asking.specs.Asking.{Asking, Few, ends, asks}
use Rattle.asking.specs.Table.{Kept, address_for, or_ask, lookup, asking}

-- ---- the size of a tree by its parts
module _ {A : Type 0} {P : ℕ → Type 0} {Q : A → Type 0} where
  -- with i more
  few_more : {n : ℕ} {a : Asking A} (i : ℕ) → Few P Q n a → Few P Q (n + i) a
  few_more i (ends q) = ends q
  few_more i (asks {n = m} p h) = rw (suc-add m i) (asks p (λ l. few_more i (h l)))

  -- a size is a bound: any greater one is one too
  pub few_le : {n : ℕ} {a : Asking A} (m : ℕ) → n ≤ m → Few P Q n a → Few P Q m a
  few_le {n = n} m p h = let e : n + (m - n) ≡ m = omega arith in rw e at (few_more (m - n) h)

  -- by a test: each side under what the test says
  pub few_if : {n : ℕ} (t : Bool) {x y : Asking A} → (t ≡ true → Few P Q n x) → (t ≡ false → Few P Q n y) → Few P Q n (choose t x y)
  few_if true f g = f refl
  few_if false f g = g refl

-- ---- a walk: a lookup asks for one block at most, a read for one
module _ {B : Type 0} {R : ℕ → Type 0} {S : B → Type 0} (t : Kept) (table : (n : ℕ) → in_range t.volume n ≡ true → R (address_for t n)) where
  few_said : {n : ℕ} (number : ℕ) (k : TableAnswer → Asking B) (j : Option Entry) → in_range t.volume number ≡ true
      → ((e : TableAnswer) → Few R S n (k e)) → Few R S (suc n) (or_ask t number k j)
  few_said {n = n} number k (Some entry) e h = few_le (suc n) (omega arith) (h (answered entry))
  few_said number k None e h = asks (table number e) (λ l. h (entry_in l number))

  few_lookup : {n : ℕ} (number : ℕ) (k : TableAnswer → Asking B) → ((e : TableAnswer) → Few R S n (k e)) → Few R S (suc n) (lookup t number k)
  unfolding lookup
  few_lookup {n = n} number k h =
      few_if (in_range t.volume number) (λ e. few_said number k (in_journal t.journal number) e h)
      (λ _. few_le (suc n) (omega arith) (h OutOfRange))

  module _ {A : Type 0} {P : ℕ → Type 0} {Q : A → Type 0} (N M : ℕ) (end : Ran A → B) (inside : (b : ℕ) → P b → R b)
      (came : (r : Ran A) → Q r.value → length r.seen.nodes ≤ N → length r.seen.blocks ≤ M → BothRise r.seen → S (end r)) where
    pub few_asking : {ns bs : ℕ} (s : Seen) {w : Walk A} → BothRise s → length s.nodes + ns ≤ N → length s.blocks + bs ≤ M
        → Within P Q ns bs w → Few R S (ns + bs) (asking t end s w)
    unfolding asking
    few_asking s rise i j (w.ends {a = a} q) = ends (came (ran a s) q (omega arith) (omega arith) rise)
    few_asking s rise i j (w.looks {ns = ns} {bs = bs} {n = n} {k = k} h) =
        let one = length_insert n s.nodes in
        let both : BothRise (saw_node n s) = (rising_insert n s.nodes rise.0, rise.1) in
        rw (suc-add ns bs)
        (few_lookup n (λ e. asking t end (saw_node n s) (k e)) (λ e. few_asking (saw_node n s) both (omega arith) (omega arith) (h e)))
    few_asking s rise i j (w.reads {ns = ns} {bs = bs} {b = b} p h) =
        let one = length_insert b s.blocks in
        let both : BothRise (saw_block b s) = (rise.0, rising_insert b s.blocks rise.1) in
        rw (add-suc ns bs) (asks (inside b p) (λ l. few_asking (saw_block b s) both (omega arith) (omega arith) (h l)))
