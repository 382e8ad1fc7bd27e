-- Lists in shape: what each test of them says, and the whole from its parts.
use mathlib.Core.Path.{◌≡◌, refl, ap}
use mathlib.Core.Bool.{true, false, ◌&&◌, and-eq-true_iff, and-false, and-true}
use mathlib.Core.List.{List, [], ◌∷◌}
use mathlib.Core.Logic.{⊎_elim}
use Prim.Native.Nat.{ℕ, ◌*◌, ◌/◌, ◌≤◌, ◌<◌}
use native.Mathlib.Nat.{lt_trans}
use native.Mathlib.Omega.{arith}
use lib.ListN.{length}
use lib.Dec.{leb}
use borrow.Author.Tests.{lt-ltb, ltb-true, le-leb, leb-true}
use Rattle.field.specs.Card.{Card}
use Rattle.field.proofs.Choosing.{clash, needed, needed_le}
use Rattle.checkpoint.specs.declared.Volume.{Volume}
use Rattle.checkpoint.specs.Volume.{VolumeIn}
use Rattle.list.specs.Lists.{AllOf, Rising, Listed, entries, count_fits}
use Rattle.list.proofs.Rises.{all_map}
use Rattle.node.specs.Node.{Bounds, bounds_of, in_main}
use Rattle.compare.specs.Lists.{rising_after, is_rising, all_in_main, lists_in_shape}
use Rattle.compare.specs.Difference.{same_bounds, InBoth}
use Rattle.compare.proofs.Sameness.{same_bounds_lem}
use Rattle.list.proofs.Searching.{Decides, searched_ends, all_searched}

-- ---- rising
after_rising : (x : ℕ) (l : List ℕ) → AllOf (λ y. x < y) l → Rising l → rising_after x l ≡ true
unfolding rising_after
after_rising x [] a r = refl
after_rising x (y ∷ ys) a r = rw (lt-ltb x y a.0) (after_rising y ys r.0 r.1)

rising_after_lem : (x : ℕ) (l : List ℕ) → rising_after x l ≡ true → Rising (x ∷ l)
unfolding rising_after
rising_after_lem x [] h = (tt, tt)
rising_after_lem x (y ∷ ys) h =
    let t = (and-eq-true_iff _ _).0 h in
    let r = rising_after_lem y ys t.1 in
    let b : x < y = ltb-true x y t.0 in
    ((b, all_map (λ z q. lt_trans b q) ys r.0), r)

pub rising_test : (l : List ℕ) → Rising l → is_rising l ≡ true
unfolding is_rising
rising_test [] r = refl
rising_test (x ∷ xs) r = after_rising x xs r.0 r.1

pub test_rising : (l : List ℕ) → is_rising l ≡ true → Rising l
unfolding is_rising
test_rising [] h = tt
test_rising (x ∷ xs) h = rising_after_lem x xs h

-- ---- in the main area
module _ (m : Bounds) where
  main_decided : Decides (in_main m) (λ b. in_main m b ≡ true)
  main_decided = record { holds = λ b h. h; passes = λ b h. h }

  pub main_test : (l : List ℕ) → AllOf (λ b. in_main m b ≡ true) l → all_in_main m l ≡ true
  main_test l h = all_searched _ (λ b. false) main_decided true l h

  pub test_main : (l : List ℕ) → all_in_main m l ≡ true → AllOf (λ b. in_main m b ≡ true) l
  test_main l h =
      ⊎_elim (λ w. w.0)
      (λ w. absurd (clash h (w.2 true)))
      (searched_ends _ (λ b. false) main_decided l)

in_main_lem : (m : Bounds) (b : ℕ) → in_main m b ≡ true → b < m.end
unfolding in_main
in_main_lem m b h = ltb-true b m.end (needed (λ p. simp (p, and-false)) h)

-- where the bounds are the same, blocks of the kept main area are blocks of both cards
pub main_in_both : {kept fresh : Card} {v u : Volume} → VolumeIn kept v → VolumeIn fresh u
    → same_bounds (bounds_of v) (bounds_of u) ≡ true → (l : List ℕ)
    → AllOf (λ b. in_main (bounds_of v) b ≡ true) l → AllOf (InBoth kept fresh) l
main_in_both {v = v} {u = u} k f s l h =
    let p : v.areas.main_end ≡ u.areas.main_end = ap (λ (m : Bounds). m.end) (same_bounds_lem (bounds_of v) (bounds_of u) s) in
    let x = k.places.areas_in.in_card in
    let y = f.places.areas_in.in_card in
    all_map (λ b q. let r = in_main_lem (bounds_of v) b q in (omega arith, omega arith)) l h

-- ---- the whole
pub record ListsFit (m : Bounds) (nodes blocks : Listed) : Type 0 where
  pub some : 1 ≤ nodes.count
  pub nodes_held : 4 * nodes.count ≤ length nodes.bytes
  pub blocks_held : 4 * blocks.count ≤ length blocks.bytes
  pub nodes_rise : Rising (entries nodes)
  pub blocks_rise : Rising (entries blocks)
  pub inside : AllOf (λ b. in_main m b ≡ true) (entries blocks)

pub count_fits_lem : (l : Listed) → 4 * l.count ≤ length l.bytes → count_fits l ≡ true
count_fits_lem l h = le-leb l.count (length l.bytes / 4) (omega arith)

pub fits_count : (l : Listed) → count_fits l ≡ true → 4 * l.count ≤ length l.bytes
fits_count l h = let t = leb-true l.count (length l.bytes / 4) h in omega arith

module _ (m : Bounds) (nodes blocks : Listed) where
  -- the counts are tested first
  pub nodes_refuse : count_fits nodes ≡ false → lists_in_shape m nodes blocks ≡ false
  unfolding lists_in_shape
  nodes_refuse h = simp (h, and-false)

  pub blocks_refuse : count_fits blocks ≡ false → lists_in_shape m nodes blocks ≡ false
  unfolding lists_in_shape
  blocks_refuse h = simp (h, and-false)

  pub counts_pass_lem : count_fits nodes ≡ true → count_fits blocks ≡ true → lists_in_shape m nodes blocks
      ≡ (leb 1 nodes.count && is_rising (entries nodes) && is_rising (entries blocks) && all_in_main m (entries blocks))
  unfolding lists_in_shape
  counts_pass_lem h g = simp (h, g, and-true)

  pub lists_in_shape_lem : ListsFit m nodes blocks → lists_in_shape m nodes blocks ≡ true
  unfolding lists_in_shape
  lists_in_shape_lem f =
      rw (
        le-leb 1 nodes.count f.some,
        count_fits_lem nodes f.nodes_held,
        count_fits_lem blocks f.blocks_held,
        rising_test (entries nodes) f.nodes_rise,
        rising_test (entries blocks) f.blocks_rise,
      )
      (main_test m (entries blocks) f.inside)

  pub in_shape_lists : lists_in_shape m nodes blocks ≡ true → ListsFit m nodes blocks
  unfolding lists_in_shape
  in_shape_lists h =
      record {
        some = needed_le (λ p. simp (p, and-false)) h;
        nodes_held = fits_count nodes (needed (λ p. simp (p, and-false)) h);
        blocks_held = fits_count blocks (needed (λ p. simp (p, and-false)) h);
        nodes_rise = test_rising (entries nodes) (needed (λ p. simp (p, and-false)) h);
        blocks_rise = test_rising (entries blocks) (needed (λ p. simp (p, and-false)) h);
        inside = test_main m (entries blocks) (needed (λ p. simp (p, and-false)) h);
      }
