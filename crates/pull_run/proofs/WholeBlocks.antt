-- Of two neighbouring pulls of one path that both give a block, the first gives 4,096 bytes: both read the same inode, so the second one's
-- block begins inside the same file. So of the blocks of a run that stand only the last can be short.
use Prim.Native.Nat.{ℕ, ◌+◌, ◌-◌, ◌*◌, ◌<◌}
use native.Mathlib.Omega.{arith}
use mathlib.Core.Path.{◌≡◌, refl, sym, ap, ◌∙◌}
use mathlib.Core.Bool.{Bool, true, false}
use mathlib.Core.List.{List}
use borrow.Author.Tests.{le-leb}
use Rattle.field.specs.Card.{Card, card_of}
use Rattle.field.specs.Choice.{choose}
use Rattle.checkpoint.specs.declared.Volume.{Volume}
use Rattle.checkpoint.specs.Volume.{Opened, opened_image}
use Rattle.inode.specs.declared.Inode.{Inode}
use Rattle.inode.specs.Inode.{inode_of, is_regular, is_past, count_in}
use Rattle.inode.proofs.Counting.{begins_inside}
use Rattle.path.specs.Path.{part_count, parts_of}
use Rattle.path_lookup.specs.Lookup.{ino_of_root, names_walk}
use Rattle.walk.specs.Walk.{View, view_of, empty, Walk, done, Ran, run, Outcome, ok, stop, onward, and_then}
use Rattle.walk.proofs.Runs.{run_bind}
use Rattle.walk.proofs.Again.{value_same}
use Rattle.node.specs.Node.{Bounds, bounds_of, inode_walk}
use Rattle.node.specs.Block.{Fetched}
use Rattle.pull.specs.Walk.{Block, counted, content_walk, at_file, file_walk, named_file_walk, pull_walk}
use Rattle.pull.specs.Pull.{Lent, Result, lent_in_shape, count_of, pull_run, pulled}
use Rattle.pull_run.specs.Run.{run_call_in_shape, RunResult, run_pulled}
use Rattle.pull_run.proofs.Theorems.{stands_at, pull_count}

-- ---- what a walk comes to, whatever it lists
abbrev value_of : {A : Type 0} → View → Walk A → A
value_of v w = (run v empty w).value

value_then : {A B : Type 0} (v : View) (w : Walk (Outcome A)) (f : A → Walk (Outcome B)) → value_of v (and_then w f) ≡ value_of v (onward f (value_of v w))
unfolding and_then
value_then {B = B} v w f =
    ap (λ (r : Ran (Outcome B)). r.value) (run_bind v empty w (onward f)) ∙ value_same v (run v empty w).seen empty (onward f (value_of v w))

-- a walk that was stopped came to no value
not_ok : {A : Type 0} {answer : ℕ} {a : A} → stop answer ≡ ok a → ⊥
not_ok e = let z : ◌≡◌ {A = ℕ} 0 1 = cc in omega arith

-- two walks that begin alike and don't stop go on from the same
both_then : {A B C : Type 0} (v : View) (w : Walk (Outcome A)) (f g : A → Walk (Outcome B)) {b c : B}
    → ((a : A) → value_of v (f a) ≡ ok b → value_of v (g a) ≡ ok c → C) → value_of v (and_then w f) ≡ ok b → value_of v (and_then w g) ≡ ok c → C
unfolding onward run
both_then {A = A} {C = C} v w f g {b = b} {c = c} rest p q = go (value_of v w) (sym (value_then v w f) ∙ p) (sym (value_then v w g) ∙ q)
  where
    go : (x : Outcome A) → value_of v (onward f x) ≡ ok b → value_of v (onward g x) ≡ ok c → C
    go (ok a) l r = rest a l r
    go (stop answer) l r = absurd (not_ok l)

-- ---- a block of a file: it begins inside, and its count is the smaller of 4,096 and what is left
counted_count : (v : View) (w : Walk (Outcome Fetched)) (n : ℕ) {b : Block} → value_of v (and_then w (counted n)) ≡ ok b → b.count ≡ n
unfolding onward run
counted_count v w n {b = b} e = go (value_of v w) (sym (value_then v w (counted n)) ∙ e)
  where
    go : (x : Outcome Fetched) → value_of v (onward (counted n) x) ≡ ok b → b.count ≡ n
    go (ok a) f = sym (ap count_of f)
    go (stop answer) f = absurd (not_ok f)

module _ (v : View) (m : Bounds) (index ino : ℕ) (inode : List ℕ) {b : Block} where
  at_file_block : value_of v (at_file m index ino inode) ≡ ok b → (is_past (inode_of inode) index ≡ false) × (b.count ≡ count_in (inode_of inode) index)
  unfolding at_file run
  at_file_block e = go (is_regular (inode_of inode)) (is_past (inode_of inode) index) refl e
    where
      count : ℕ
      count = count_in (inode_of inode) index

      go : (r p : Bool) → is_past (inode_of inode) index ≡ p
          → value_of v (choose r (choose p (done (stop 3)) (and_then (content_walk m index ino inode) (counted count))) (done (stop 12))) ≡ ok b
          → (is_past (inode_of inode) index ≡ false) × (b.count ≡ count)
      go true true h f = absurd (not_ok f)
      go true false h f = (h, counted_count v (content_walk m index ino inode) count f)
      go false p h f = absurd (not_ok f)

count_whole : (i : Inode) (index : ℕ) → is_past i (index + 1) ≡ false → count_in i index ≡ 4096
unfolding count_in
count_whole i index h =
    let next = begins_inside i (index + 1) h in
    rw (le-leb 4096 (i.size - index * 4096) (omega arith)) refl

-- ---- two neighbouring pulls
pub whole_before : (card : Card) (v : Volume) (path : List ℕ) (index : ℕ) {b c : Block} → (pull_run card v path index).value ≡ ok b
    → (pull_run card v path (index + 1)).value ≡ ok c → b.count ≡ 4096
unfolding pull_run pull_walk named_file_walk file_walk
whole_before card v path index =
    both_then view (names_walk m (parts_of path) ino_of_root) (file_walk m index) (file_walk m (index + 1))
    (λ ino. both_then view (inode_walk m ino) (at_file m index ino) (at_file m (index + 1) ino)
    (λ inode p q. (at_file_block view m index ino inode p).1 ∙ count_whole (inode_of inode) index (at_file_block view m (index + 1) ino inode q).0))
  where
    view : View
    view = view_of card v

    m : Bounds
    m = bounds_of v

-- ---- the blocks of a run that stand
module _ (image path : List ℕ) (index wanted : ℕ) (lent : Lent) (v : Volume) (shape : run_call_in_shape image path wanted lent ≡ true)
    (opens : opened_image image ≡ Opened v) (single : Lent) (takes : lent_in_shape (part_count path) single ≡ true) where
  abbrev R : RunResult
  R = run_pulled image path index wanted lent

  -- pull i of the run, by itself
  abbrev P : ℕ → Result
  P i = pulled image path (index + i) single

  -- only the last block that stands can be short
  pub whole_before_last : (i : ℕ) → i + 1 < R.numbers.count → (P i).numbers.byte_count ≡ 4096
  whole_before_last i l =
      let here = stands_at image path index wanted lent v shape opens i (omega arith) in
      let next = stands_at image path index wanted lent v shape opens (i + 1) l in
      pull_count image path index wanted lent v shape opens single takes i here.value
      ∙ whole_before (card_of image) v path (index + i) here.value
      (ap (λ (j : ℕ). (pull_run (card_of image) v path j).value) (omega arith) ∙ next.value)
