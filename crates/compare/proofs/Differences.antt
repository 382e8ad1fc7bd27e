-- What Compare's difference says: none exactly if bounds, listed table answers and listed blocks agree, and else which is first.
use mathlib.Core.Path.{◌≡◌, sym, ap, subst, ◌∙◌}
use mathlib.Core.Bool.{true, false}
use mathlib.Core.List.{List}
use mathlib.Core.Logic.{⊎_elim}
use Prim.Native.Nat.{ℕ}
use Rattle.std.proofs.Common.{Result, Ok, Err}
use native.Mathlib.Omega.{arith}
use Rattle.field.proofs.Choosing.{either, clash}
use Rattle.list.specs.Lists.{AllOf}
use Rattle.nat.specs.Table.{TableAnswer}
use Rattle.walk.specs.Walk.{View}
use Rattle.node.specs.Node.{Bounds}
use Rattle.compare.specs.declared.Difference.{Difference}
use Rattle.compare.specs.declared.Difference.TheVariants.{BoundsDiffer, NodeDiffers, BlockDiffers}
use Rattle.compare.specs.Difference.{Told, same, same_bounds, same_answer, same_bytes, bounds_differ, blocks_differ, nodes_differ, difference}
use Rattle.compare.proofs.Sameness.{same_bounds_lem, bounds_same, same_answer_lem, answer_same, same_bytes_lem, bytes_same}
use Rattle.list.proofs.Searching.{FirstNot, Decides, searched_ends, all_searched, searched_alike}
use Rattle.list.proofs.Rises.{all_map}
use Rattle.field.specs.Choice.{choose}

-- a number that doesn't pass, as a difference
abbrev pub differs : (ℕ → Difference) → Result (Unit {0}) ℕ → Told
differs f (Ok none) = same
differs f (Err n) = Err (f n)

-- the two cards agree at a number
abbrev pub SameTable : View → View → ℕ → Type 0
SameTable kept fresh n = kept.table n ≡ fresh.table n

abbrev pub SameBlock : View → View → ℕ → Type 0
SameBlock kept fresh b = kept.block b ≡ fresh.block b

blocks_decided : (kept fresh : ℕ → List ℕ) → Decides (λ b. same_bytes (kept b) (fresh b)) (λ b. kept b ≡ fresh b)
blocks_decided kept fresh = record { holds = λ b h. same_bytes_lem _ _ h; passes = λ b h. bytes_same h }

module _ (kept fresh : ℕ → TableAnswer) where
  nodes_decided : Decides (λ n. same_answer (kept n) (fresh n)) (λ n. kept n ≡ fresh n)
  nodes_decided = record { holds = λ n h. same_answer_lem _ _ h; passes = λ n h. answer_same h }

  -- the search of the nodes by itself, and what stands behind it
  module _ (l : List ℕ) (other : Told) where
    pub nodes_agree : nodes_differ kept fresh same l ≡ same → nodes_differ kept fresh other l ≡ other
    unfolding nodes_differ
    nodes_agree s =
        ⊎_elim (λ w. w.1 other)
        (λ w. let q = w.2 same in let z : ◌≡◌ {A = ℕ} 0 1 = cc in absurd (omega arith))
        (searched_ends _ (λ k. Err (NodeDiffers k)) nodes_decided l)

    pub node_first : {d : Difference} → nodes_differ kept fresh same l ≡ Err d → nodes_differ kept fresh other l ≡ Err d
    unfolding nodes_differ
    node_first e =
        ⊎_elim (λ w. let q = w.1 same in let z : ◌≡◌ {A = ℕ} 0 1 = cc in absurd (omega arith))
        (λ w. w.2 other ∙ sym (w.2 same) ∙ e)
        (searched_ends _ (λ k. Err (NodeDiffers k)) nodes_decided l)

pub bounds_pass : (m n : Bounds) → bounds_differ m n ≡ same → same_bounds m n ≡ true
unfolding bounds_differ
bounds_pass m n e =
    ⊎_elim (λ h. h) (λ h. let z : ◌≡◌ {A = ℕ} 0 1 = cc (rw h at e) in absurd (omega arith)) (either (same_bounds m n))

module _ (m n : Bounds) (kept fresh : View) (nodes blocks : List ℕ) where
  -- what each difference says
  abbrev Says : Told → Type 0
  Says (Ok none) = (m ≡ n) × AllOf (SameTable kept fresh) nodes × AllOf (SameBlock kept fresh) blocks
  Says (Err BoundsDiffer) = m ≡ n → ⊥
  Says (Err (NodeDiffers k)) = (m ≡ n) × FirstNot (SameTable kept fresh) nodes k
  Says (Err (BlockDiffers b)) = (m ≡ n) × AllOf (SameTable kept fresh) nodes × FirstNot (SameBlock kept fresh) blocks b

  bounds_apart : same_bounds m n ≡ false → difference m n kept fresh nodes blocks ≡ Err BoundsDiffer
  unfolding difference
  bounds_apart h = rw h

  pub bounds_first : {d : Difference} → bounds_differ m n ≡ Err d → difference m n kept fresh nodes blocks ≡ Err d
  unfolding bounds_differ
  bounds_first e =
      ⊎_elim (λ h. let z : ◌≡◌ {A = ℕ} 0 1 = cc (rw h at e) in absurd (omega arith))
      (λ h. bounds_apart h ∙ (rw h at e))
      (either (same_bounds m n))

  pub bounds_agree : same_bounds m n ≡ true → difference m n kept fresh nodes blocks
      ≡ nodes_differ kept.table fresh.table (blocks_differ kept.block fresh.block blocks) nodes
  unfolding difference
  bounds_agree h = rw h

  says : Says (difference m n kept fresh nodes blocks)
  unfolding nodes_differ blocks_differ
  says =
      ⊎_elim (λ h.
      let e = bounds_agree h in
      let s = same_bounds_lem m n h in
      ⊎_elim (λ w.
      ⊎_elim (λ k. subst Says (sym (e ∙ w.1 _ ∙ k.1 same)) (s, w.0, k.0))
      (λ k. subst Says (sym (e ∙ w.1 _ ∙ k.2 same)) (s, w.0, k.1))
      (searched_ends _ (λ b. Err (BlockDiffers b)) (blocks_decided kept.block fresh.block) blocks))
      (λ w. subst Says (sym (e ∙ w.2 _)) (s, w.1))
      (searched_ends _ (λ k. Err (NodeDiffers k)) (nodes_decided kept.table fresh.table) nodes))
      (λ h. subst Says (sym (bounds_apart h)) (λ e. clash (bounds_same e) h))
      (either (same_bounds m n))

  pub difference_same : difference m n kept fresh nodes blocks ≡ same
      → (m ≡ n) × AllOf (SameTable kept fresh) nodes × AllOf (SameBlock kept fresh) blocks
  difference_same e = subst Says e says

  pub same_difference : m ≡ n → AllOf (SameTable kept fresh) nodes → AllOf (SameBlock kept fresh) blocks
      → difference m n kept fresh nodes blocks ≡ same
  unfolding nodes_differ blocks_differ
  same_difference e t b =
      bounds_agree (bounds_same e)
      ∙ all_searched _ (λ k. Err (NodeDiffers k)) (nodes_decided kept.table fresh.table) _ nodes t
      ∙ all_searched _ (λ b. Err (BlockDiffers b)) (blocks_decided kept.block fresh.block) _ blocks b

  pub difference_bounds : difference m n kept fresh nodes blocks ≡ Err BoundsDiffer → m ≡ n → ⊥
  difference_bounds e = subst Says e says

  -- the first node whose table answers differ
  pub difference_node : (k : ℕ) → difference m n kept fresh nodes blocks ≡ Err (NodeDiffers k) → (m ≡ n) × FirstNot (SameTable kept fresh) nodes k
  difference_node k e = subst Says e says

  -- the first block whose bytes differ; all nodes agree
  pub difference_block : (b : ℕ) → difference m n kept fresh nodes blocks ≡ Err (BlockDiffers b)
      → (m ≡ n) × AllOf (SameTable kept fresh) nodes × FirstNot (SameBlock kept fresh) blocks b
  difference_block b e = subst Says e says

-- ---- two kept sides that agree on the lists compare alike
pub kept_alike : (m n : Bounds) (kept other fresh : View) (nodes blocks : List ℕ) → AllOf (SameTable kept other) nodes
    → AllOf (SameBlock kept other) blocks → difference m n kept fresh nodes blocks ≡ difference m n other fresh nodes blocks
unfolding difference nodes_differ blocks_differ
kept_alike m n kept other fresh nodes blocks t b =
    let tables = all_map (λ k e. ap (λ (a : TableAnswer). same_answer a (fresh.table k)) e) nodes t in
    let bytes = all_map (λ k e. ap (λ (l : List ℕ). same_bytes l (fresh.block k)) e) blocks b in
    ap (λ (d : Told). choose (same_bounds m n) d (Err BoundsDiffer))
    (searched_alike _ _ (λ k. Err (NodeDiffers k)) _ nodes tables
    ∙ ap (λ (d : Told). nodes_differ other.table fresh.table d nodes) (searched_alike _ _ (λ b. Err (BlockDiffers b)) same blocks bytes))
