-- How much many walks ask together: two lists hold all that each of them asks. What they all begin with counts once.
use Prim.Native.Nat.{ℕ, ◌+◌, ◌≤◌}
use native.Mathlib.Omega.{arith}
use mathlib.Core.Bool.{Bool, true, false}
use mathlib.Core.List.Memᴰ
use mathlib.Core.List.{List, [], ◌++◌, Memᴰ}
use lib.ListN.{length, length-append}
use Rattle.walk.specs.Walk.{View, empty, Walk, run, bind, Outcome, ok, stop, onward, and_then, Within}
use Rattle.walk.proofs.Asked.{AllAsked}
use Rattle.walk.proofs.Sizes.{few_listed}
use Rattle.walk.proofs.Again.{knows_own, asked_bind, asked_done}

-- all that a walk asks stands in two lists
abbrev pub AsksIn : {A : Type 0} → View → List ℕ → List ℕ → Walk A → Type 0
AsksIn v ns bs w = AllAsked (λ n. Memᴰ n ns) (λ b. Memᴰ b bs) v w

-- what a walk alone lists
abbrev pub nodes_asked : {A : Type 0} → View → Walk A → List ℕ
nodes_asked v w = (run v empty w).seen.nodes

abbrev pub blocks_asked : {A : Type 0} → View → Walk A → List ℕ
blocks_asked v w = (run v empty w).seen.blocks

-- a walk for each j: together they ask at most so much
pub record Family {A J : Type 0} (v : View) (ns bs : ℕ) (one : J → Walk A) : Type 0 where
  pub nodes : List ℕ
  pub blocks : List ℕ
  pub few_nodes : length nodes ≤ ns
  pub few_blocks : length blocks ≤ bs
  pub asks : (j : J) → AsksIn v nodes blocks (one j)

-- more in the lists, behind and before
module _ {A : Type 0} (v : View) (ns bs ms cs : List ℕ) (w : Walk A) where
  asks_left : AsksIn v ns bs w → AsksIn v (ns ++ ms) (bs ++ cs) w
  asks_left f = (λ n q. Memᴰ.append_left ms (f.0 n q), λ b q. Memᴰ.append_left cs (f.1 b q))

  asks_right : AsksIn v ms cs w → AsksIn v (ns ++ ms) (bs ++ cs) w
  asks_right f = (λ n q. Memᴰ.append_right ns (f.0 n q), λ b q. Memᴰ.append_right bs (f.1 b q))

joined_few : {a b most : ℕ} (l r : List ℕ) → length l ≤ a → length r ≤ b → a + b ≤ most → length (l ++ r) ≤ most
joined_few l r p q h = rw (length-append l r) (omega arith)

-- walks that ask no more than others do together
pub family_map : {A B I J : Type 0} (v : View) (ns bs : ℕ) (one : I → Walk A) (other : J → Walk B)
    → ((P Q : ℕ → Type 0) (j : J) → ((i : I) → AllAsked P Q v (one i)) → AllAsked P Q v (other j)) → Family v ns bs one → Family v ns bs other
family_map v ns bs one other less f =
    record { nodes = f.nodes; blocks = f.blocks; few_nodes = f.few_nodes; few_blocks = f.few_blocks; asks = λ j. less _ _ j f.asks }

-- walks that ask nothing
pub family_none : {A J : Type 0} (v : View) (ns bs : ℕ) (one : J → Walk A) → ((P Q : ℕ → Type 0) (j : J) → AllAsked P Q v (one j)) → Family v ns bs one
family_none v ns bs one nothing = record { nodes = []; blocks = []; few_nodes = omega arith; few_blocks = omega arith; asks = λ j. nothing _ _ j }

-- two walks by their sizes
pub family_two : {A : Type 0} {P : ℕ → Type 0} {Q : A → Type 0} (v : View) (a b most : ℕ) (w : Bool → Walk A) → a + b ≤ most
    → Within P Q a a (w true) → Within P Q b b (w false) → Family v most most w
family_two v a b most w h f g =
    let l = few_listed v (w true) f in
    let r = few_listed v (w false) g in
    record {
      nodes = ns ++ ms;
      blocks = bs ++ cs;
      few_nodes = joined_few ns ms l.0 r.0 h;
      few_blocks = joined_few bs cs l.1 r.1 h;
      asks = elim [
        | true ↦ asks_left v ns bs ms cs (w true) (knows_own v empty (w true))
        | false ↦ asks_right v ns bs ms cs (w false) (knows_own v empty (w false))
      ];
    }
  where
    ns : List ℕ
    ns = nodes_asked v (w true)

    bs : List ℕ
    bs = blocks_asked v (w true)

    ms : List ℕ
    ms = nodes_asked v (w false)

    cs : List ℕ
    cs = blocks_asked v (w false)

-- all begin with the same walk
module _ {A B J : Type 0} {P : ℕ → Type 0} (v : View) (c d ns bs : ℕ) where
  family_bind : {Q : A → Type 0} (p : Walk A) (f : J → A → Walk B) → Within P Q c d p → ((a : A) → Family v ns bs (λ (j : J). f j a))
      → Family v (ns + c) (bs + d) (λ (j : J). bind p (f j))
  family_bind p f size rest =
      let l = few_listed v p size in
      let a = (run v empty p).value in
      let t = rest a in
      record {
        nodes = nodes_asked v p ++ t.nodes;
        blocks = blocks_asked v p ++ t.blocks;
        few_nodes = joined_few (nodes_asked v p) t.nodes l.0 t.few_nodes (omega arith);
        few_blocks = joined_few (blocks_asked v p) t.blocks l.1 t.few_blocks (omega arith);
        asks = λ j. asked_bind _ _ v empty p (f j)
            (asks_left v (nodes_asked v p) (blocks_asked v p) t.nodes t.blocks p (knows_own v empty p))
            (asks_right v (nodes_asked v p) (blocks_asked v p) t.nodes t.blocks (f j a) (t.asks j));
      }

module _ {A B J : Type 0} {P : ℕ → Type 0} {Q : Outcome A → Type 0} (v : View) (c d ns bs : ℕ) where
  pub family_then : (p : Walk (Outcome A)) (f : J → A → Walk (Outcome B)) → Within P Q c d p → ((a : A) → Family v ns bs (λ (j : J). f j a))
      → Family v (ns + c) (bs + d) (λ (j : J). and_then p (f j))
  unfolding and_then onward
  family_then p f size rest =
      family_bind v c d ns bs p (λ j. onward (f j)) size
      (elim [ ok a ↦ rest a | stop answer ↦ family_none v ns bs _ (λ P Q j. asked_done P Q v (stop answer)) ])
