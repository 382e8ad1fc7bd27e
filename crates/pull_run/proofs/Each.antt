-- Walks for n indexes one after another, each with at most one block of its own behind what they ask together: n blocks more.
use Prim.Native.Nat.{ℕ, zero, suc, ◌+◌, ◌≤◌, ◌<◌}
use native.Mathlib.Omega.{arith}
use mathlib.Core.Path.{◌≡◌, refl, sym, subst}
use mathlib.Core.Bool.{Bool, true, false}
use mathlib.Core.List.Memᴰ
use mathlib.Core.List.{List, [], ◌++◌, Memᴰ}
use lib.ListN.{length, length-append}
use lib.Dec.{eqb}
use borrow.Author.Tests.{eqb-true, eqb-false}
use Rattle.list.proofs.Members.{mem_some}
use Rattle.walk.specs.Walk.{View, empty, Walk, run, Outcome, ok, stop, onward, and_then, Within}
use Rattle.walk.proofs.Sizes.{few_listed}
use Rattle.walk.proofs.Again.{knows_own, asked_bind}
use Rattle.pull_run.proofs.Families.{AsksIn, nodes_asked, blocks_asked, Family}

-- one of n indexes, from the first on
pub record Near (index n : ℕ) : Type 0 where
  pub at : ℕ
  pub from : index ≤ at
  pub below : at < index + n

-- ---- the lists of n indexes, one behind the other
gathered : (ℕ → List ℕ) → ℕ → ℕ → List ℕ
gathered f zero i = []
gathered f (suc n) i = f i ++ gathered f n (i + 1)

module _ (f : ℕ → List ℕ) where
  gathered_few : ((j : ℕ) → length (f j) ≤ 1) → (n i : ℕ) → length (gathered f n i) ≤ n
  unfolding gathered
  gathered_few h zero i = omega arith
  gathered_few h (suc n) i =
      let one = h i in
      let rest = gathered_few h n (i + 1) in
      rw (length-append (f i) (gathered f n (i + 1))) (omega arith)

  gathered_mem : (n i j : ℕ) {x : ℕ} → i ≤ j → j < i + n → Memᴰ x (f j) → Memᴰ x (gathered f n i)
  unfolding gathered
  gathered_mem zero i j p q m = absurd (omega arith)
  gathered_mem (suc n) i j {x} p q m = go (eqb i j) refl (λ l. gathered_mem n (i + 1) j l (omega arith) m)
    where
      go : (b : Bool) → eqb i j ≡ b → (i + 1 ≤ j → Memᴰ x (gathered f n (i + 1))) → Memᴰ x (f i ++ gathered f n (i + 1))
      go true e ih = Memᴰ.append_left (gathered f n (i + 1)) (subst (λ (k : ℕ). Memᴰ x (f k)) (sym (eqb-true i j e)) m)
      go false e ih = let d = eqb-false i j e in Memᴰ.append_right (f i) (ih (omega arith))

-- ---- what each asks by itself
module _ {A B : Type 0} {P : ℕ → Type 0} {Q : Outcome B → Type 0} (v : View) (index n : ℕ) (one : ℕ → Walk (Outcome A))
    (next : ℕ → A → Walk (Outcome B)) (few : (j : ℕ) (a : A) → Within P Q 0 1 (next j a)) where
  own : ℕ → Walk (Outcome B)
  own j = onward (next j) (run v empty (one j)).value

  own_few : (j : ℕ) → (length (nodes_asked v (own j)) ≤ 0) × (length (blocks_asked v (own j)) ≤ 1)
  unfolding own onward run
  own_few j = go (run v empty (one j)).value
    where
      go : (x : Outcome A) → (length (nodes_asked v (onward (next j) x)) ≤ 0) × (length (blocks_asked v (onward (next j) x)) ≤ 1)
      go (ok a) = few_listed v (next j a) (few j a)
      go (stop answer) = (omega arith, omega arith)

  own_blocks : List ℕ
  own_blocks = gathered (λ j. blocks_asked v (own j)) n index

  own_asks : (ns bs : List ℕ) (j : Near index n) → AsksIn v ns (bs ++ own_blocks) (own j.at)
  unfolding own_blocks
  own_asks ns bs j =
      let knows = knows_own v empty (own j.at) in
      let none = (own_few j.at).0 in (
        λ k h. let some = mem_some (knows.0 k h) in absurd (omega arith),
        λ b h. Memᴰ.append_right bs (gathered_mem (λ i. blocks_asked v (own i)) n index j.at j.from j.below (knows.1 b h)),
      )

  pub family_each : (ns bs most : ℕ) → bs + n ≤ most → Family v ns bs (λ (j : Near index n). one j.at)
      → Family v ns most (λ (j : Near index n). and_then (one j.at) (next j.at))
  unfolding own own_blocks and_then
  family_each ns bs most h f =
      let datas = gathered_few (λ j. blocks_asked v (own j)) (λ j. (own_few j).1) n index in
      let blocks = f.few_blocks in
      record {
        nodes = f.nodes;
        blocks = f.blocks ++ own_blocks;
        few_nodes = f.few_nodes;
        few_blocks = rw (length-append f.blocks own_blocks) (omega arith);
        asks = λ j.
            let near = f.asks j in
            asked_bind _ _ v empty (one j.at) (onward (next j.at)) (near.0, λ b h. Memᴰ.append_left own_blocks (near.1 b h))
            (own_asks f.nodes f.blocks j);
      }
