-- What was asked already: walked again, a walk comes to the same value and lists nothing new.
use Prim.Native.Nat.{ℕ}
use mathlib.Core.Path.{◌≡◌, refl, ap, subst, ◌∙◌}
use mathlib.Core.Logic.{inl, inr, ⊎_elim}
use mathlib.Core.List.{List, Memᴰ}
use Rattle.list.specs.Lists.{AllOf, Rising}
use Rattle.list.proofs.Rises.{all_mem, mem_all}
use Rattle.list.proofs.Entries.{grown_same}
use Rattle.list.proofs.Members.{insert_again, all_union, union_is}
use Rattle.walk.specs.Walk.{View, Seen, empty, union_seen, saw_node, saw_block, Walk, done, look, read, Ran, ran, run, bind}
use Rattle.walk.specs.Walk.{AsksNode, AsksBlock, Outcome, ok, stop, onward, and_then, Lists, listed, Walked, BothRise}
use Rattle.walk.proofs.Asked.{AllAsked, seen_asked, asked_seen}
use Rattle.walk.proofs.Runs.{run_rising}

-- all that a walk asks is listed
abbrev pub Knows : {A : Type 0} → View → Seen → Walk A → Type 0
Knows v s w = AllAsked (λ n. Memᴰ n s.nodes) (λ b. Memᴰ b s.blocks) v w

-- the value doesn't depend on what is listed
pub value_same : {A : Type 0} (v : View) (s t : Seen) (w : Walk A) → (run v s w).value ≡ (run v t w).value
unfolding run
value_same v s t (done a) = refl
value_same v s t (look n k) = value_same v (saw_node n s) (saw_node n t) (k (v.table n))
value_same v s t (read b k) = value_same v (saw_block b s) (saw_block b t) (k (v.block b))

-- "a question that is already listed may be skipped"
pub look_again : {A : Type 0} (v : View) (s : Seen) (n : ℕ) (k : _) → Rising s.nodes → Memᴰ n s.nodes
    → run {A = A} v s (look n k) ≡ run v s (k (v.table n))
unfolding run
look_again v s n k r m = ap (λ (l : List ℕ). run v (record { nodes = l; blocks = s.blocks }) (k (v.table n))) (insert_again n s.nodes r m)

pub read_again : {A : Type 0} (v : View) (s : Seen) (b : ℕ) (k : _) → Rising s.blocks → Memᴰ b s.blocks
    → run {A = A} v s (read b k) ≡ run v s (k (v.block b))
unfolding run
read_again v s b k r m = ap (λ (l : List ℕ). run v (record { nodes = s.nodes; blocks = l }) (k (v.block b))) (insert_again b s.blocks r m)

-- a walk whose questions are all listed
pub run_again : {A : Type 0} (v : View) (s t : Seen) (w : Walk A) → BothRise s → Knows v s w → run v s w ≡ ran (run v t w).value s
unfolding run AsksNode AsksBlock
run_again v s t (done a) r f = refl
run_again v s t (look n k) r f =
    look_again v s n k r.0 (f.0 n (inl refl)) ∙ run_again v s (saw_node n t) (k (v.table n)) r (λ m q. f.0 m (inr q), f.1)
run_again v s t (read b k) r f =
    read_again v s b k r.1 (f.1 b (inl refl)) ∙ run_again v s (saw_block b t) (k (v.block b)) r (f.0, λ c q. f.1 c (inr q))

-- what a run leaves knows the walk
pub knows_own : {A : Type 0} (v : View) (s : Seen) (w : Walk A) → Knows v (run v s w).seen w
knows_own v s w = (seen_asked _ _ v s w (mem_all (run v s w).seen.nodes, mem_all (run v s w).seen.blocks)).1

-- and all that was listed before
pub kept_listed : {A : Type 0} (v : View) (s : Seen) (w : Walk A)
    → AllOf (λ n. Memᴰ n (run v s w).seen.nodes) s.nodes × AllOf (λ b. Memᴰ b (run v s w).seen.blocks) s.blocks
kept_listed v s w = (seen_asked _ _ v s w (mem_all (run v s w).seen.nodes, mem_all (run v s w).seen.blocks)).0

pub knows_more : {A B : Type 0} (v : View) (s : Seen) (w : Walk A) (p : Walk B) → Knows v s p → Knows v (run v s w).seen p
knows_more v s w p f =
    let k = kept_listed v s w in
    (λ n q. all_mem _ s.nodes k.0 (f.0 n q), λ b q. all_mem _ s.blocks k.1 (f.1 b q))

-- the lists of a run are those before and those of the walk alone, put together
pub run_union : {A : Type 0} (v : View) (s : Seen) (w : Walk A) → BothRise s → (run v s w).seen ≡ union_seen s (run v empty w).seen
run_union v s w r =
    let rises = run_rising v s w r in
    let alone = run_rising v empty w (tt, tt) in
    let kept = kept_listed v s w in
    let own = asked_seen _ _ v empty w (tt, tt) (knows_own v s w) in
    λ i. record {
      nodes = union_is s.nodes (run v empty w).seen.nodes (run v s w).seen.nodes alone.0 rises.0 kept.0 own.0 all.0 i;
      blocks = union_is s.blocks (run v empty w).seen.blocks (run v s w).seen.blocks alone.1 rises.1 kept.1 own.1 all.1 i;
    }
  where
    u : Seen
    u = union_seen s (run v empty w).seen

    nodes : AllOf (λ n. Memᴰ n u.nodes) s.nodes × AllOf (λ n. Memᴰ n u.nodes) (run v empty w).seen.nodes
    nodes = all_union _ s.nodes (run v empty w).seen.nodes (mem_all u.nodes)

    blocks : AllOf (λ n. Memᴰ n u.blocks) s.blocks × AllOf (λ n. Memᴰ n u.blocks) (run v empty w).seen.blocks
    blocks = all_union _ s.blocks (run v empty w).seen.blocks (mem_all u.blocks)

    all : AllOf (λ n. Memᴰ n u.nodes) (run v s w).seen.nodes × AllOf (λ b. Memᴰ b u.blocks) (run v s w).seen.blocks
    all = asked_seen _ _ v s w (nodes.0, blocks.0) (seen_asked _ _ v empty w (nodes.1, blocks.1)).1

-- ---- what a walk in parts asks
module _ {A B : Type 0} (P Q : ℕ → Type 0) (v : View) where
  pub asked_bind : (s : Seen) (w : Walk A) (f : A → Walk B) → AllAsked P Q v w → AllAsked P Q v (f (run v s w).value) → AllAsked P Q v (bind w f)
  unfolding run bind AsksNode AsksBlock
  asked_bind s (done a) f h g = g
  asked_bind s (look n k) f h g =
      let ih = asked_bind (saw_node n s) (k (v.table n)) f (λ m q. h.0 m (inr q), h.1) g in
      (λ m. ⊎_elim (λ e. h.0 m (inl e)) (ih.0 m), ih.1)
  asked_bind s (read b k) f h g =
      let ih = asked_bind (saw_block b s) (k (v.block b)) f (h.0, λ c q. h.1 c (inr q)) g in
      (ih.0, λ c. ⊎_elim (λ e. h.1 c (inl e)) (ih.1 c))

pub asked_done : {A : Type 0} (P Q : ℕ → Type 0) (v : View) (a : A) → AllAsked P Q v (done a)
unfolding AsksNode AsksBlock
asked_done P Q v a = (λ n m. absurd m, λ b m. absurd m)

pub asked_then : {A B : Type 0} (P Q : ℕ → Type 0) (v : View) (w : Walk (Outcome A)) (f : A → Walk (Outcome B)) → AllAsked P Q v w
    → ((a : A) → (run v empty w).value ≡ ok a → AllAsked P Q v (f a)) → AllAsked P Q v (and_then w f)
unfolding and_then onward
asked_then {A = A} {B = B} P Q v w f h g = asked_bind P Q v empty w (onward f) h (go (run v empty w).value refl)
  where
    go : (x : Outcome A) → (run v empty w).value ≡ x → AllAsked P Q v (onward f x)
    go (ok a) e = g a e
    go (stop answer) e = asked_done P Q v (stop answer)

-- ---- the same over lent lists
-- after a walk, it may be left out
pub again_own : {A : Type 0} {v : View} {t u : Lists} {w : Walk A} {x : A} → Walked v w t x u → BothRise (listed u)
    → run v (listed u) w ≡ ran x (listed u)
again_own {v = v} {t = t} {u = u} {w = w} left rises =
    let here : Knows v (listed u) w = subst (λ (s : Seen). Knows v s w) (ap (λ (o : Ran _). o.seen) left.came) (knows_own v (listed t) w) in
    run_again v (listed u) (listed t) w rises here ∙ ap (λ (o : Ran _). ran o.value (listed u)) left.came

-- and so it may after any other
pub again_more : {A B : Type 0} {v : View} {t u : Lists} {w : Walk A} {x : A} (p : Walk B) {y : B} → Walked v w t x u → BothRise (listed u)
    → run v (listed t) p ≡ ran y (listed t) → run v (listed u) p ≡ ran y (listed u)
again_more {v = v} {t = t} {u = u} {w = w} p left rises e =
    let here : Knows v (listed t) p = subst (λ (s : Seen). Knows v s p) (ap (λ (o : Ran _). o.seen) e) (knows_own v (listed t) p) in
    let then' : Knows v (listed u) p = subst (λ (s : Seen). Knows v s p) (ap (λ (o : Ran _). o.seen) left.came)
    (knows_more v (listed t) w p here) in
    run_again v (listed u) (listed t) p rises then' ∙ ap (λ (o : Ran _). ran o.value (listed u)) e

-- left out, it was walked
pub walked_again : {A : Type 0} {v : View} {t : Lists} {w : Walk A} {x : A} → run v (listed t) w ≡ ran x (listed t) → Walked v w t x t
walked_again e = record { came = e; nodes_grown = grown_same _ _; blocks_grown = grown_same _ _ }
