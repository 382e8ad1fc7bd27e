-- A leaf that is kept: it stays the leaf of its index while the lists grow, serves the next index as long as an address is left in it,
-- and a block is found through it.
use Prim.Native.Nat.{ℕ, ◌+◌, ◌≤◌, ◌<◌}
use native.Mathlib.Omega.{arith}
use mathlib.Core.Path.{◌≡◌, refl, sym, ap, subst, ◌∙◌}
use lib.ListN.{length}
use Rattle.std.specs.Prelude.{Option, None, Result, Ok}
use Rattle.place.specs.declared.Place.{Place}
use Rattle.place.specs.declared.Place.TheVariants.{Inode, Direct, Indirect, Double, Past}
use Rattle.place.specs.Place.{place_of, SlotsIn}
use Rattle.place.specs.Way.{way_of}
use Rattle.place.specs.Leaf.{leaf_of, slot_of, slots_of, next_slot}
use Rattle.place.proofs.Inverse.{slots_in}
use Rattle.place.proofs.Next.{next_leaf, next_slots, next_slot_lem, next_place}
use Rattle.checkpoint.specs.OpenImage.{card_in}
use Rattle.walk.specs.Walk.{view_of, Walk, ran, run, Outcome, stop, onward, and_then, Lists, listed, Walked, Fits}
use Rattle.walk.specs.Lent.{view_in}
use Rattle.walk.proofs.Reached.{Reached, walked_rises, reached_start, reached_to, reached_bind, reached_stop, reached_all}
use Rattle.walk.proofs.Fits.{fits_first, fits_at}
use Rattle.walk.proofs.Again.{again_own, again_more, walked_again}
use Rattle.node.specs.declared.Leaf.{Leaf}
use Rattle.node.specs.declared.file.File.{File}
use Rattle.node.specs.Node.{Bounds, bounds_of}
use Rattle.node.specs.Block.{Fetched}
use Rattle.node.specs.Leaf.{leaf_walk, at_leaf, addresses_from, address_at, addresses_end, FileOn, leaf_walk_on, on_card, LeafOn, KeepsOn, file_leaf_walk}
use Rattle.node.specs.Found.{came_of, CameIn, numbered, inode_of, file_block_walk}
use Rattle.node.proofs.LeafWalks.{leaf_same, block_through}

-- ---- where a leaf's addresses stand

-- no address past the last index
pub none_past : (A : ℕ) (p : Place) → length (way_of p) ≡ 0 → (0 ≡ address_at p) × (0 ≡ addresses_end A p)
none_past A (Inode s) l = absurd (omega arith)
none_past A (Direct n s) l = absurd (omega arith)
none_past A (Indirect n k s) l = absurd (omega arith)
none_past A (Double n k s) l = absurd (omega arith)
none_past A Past l = (refl, refl)

-- an address is four bytes of its leaf's
address_in : (A : ℕ) (p : Place) → SlotsIn A p → A ≤ 923 → address_at p + 4 ≤ 4096
address_in A (Inode s) h most = omega arith
address_in A (Direct n s) h most = let slot = h.1 in omega arith
address_in A (Indirect n k s) h most = let slot = h.2 in omega arith
address_in A (Double n k s) h most = let slot = h.2 in omega arith
address_in A Past h most = omega arith

next_from : (p : Place) → addresses_from (next_slot p) ≡ addresses_from p
next_from (Inode s) = refl
next_from (Direct n s) = refl
next_from (Indirect n k s) = refl
next_from (Double n k s) = refl
next_from Past = refl

-- the place of an index of a file
abbrev place_on : FileOn → ℕ → Place
place_on f index = place_of f.addresses index

abbrev place_in : File → ℕ → Place
place_in file index = place_of file.addresses index

-- ---- a leaf that was just walked to, or the walk there that stopped
pub leaf_new : {f : FileOn} {index : ℕ} {node : Result (Option ℕ) ℕ} {at end : ℕ} {s t : Lists}
    → Fits (view_of f.card f.volume) (leaf_walk_on f index) s → at ≡ address_at (place_on f index) → end ≡ addresses_end f.addresses (place_on f index)
    → CameIn f.card node → Walked (view_of f.card f.volume) (leaf_walk_on f index) s (came_of f.card node) t → LeafOn f index node at end t
leaf_new fits at end inside walked =
    record { at_is = at; end_is = end; inside = inside; again = again_own walked (walked_rises walked fits.rising) }

-- ---- a leaf that is kept, or the walk there that stopped
module _ {f : FileOn} {index : ℕ} {node : Result (Option ℕ) ℕ} {at end : ℕ} {t : Lists} (kept : LeafOn f index node at end t) where
  -- it need not be walked to again
  pub leaf_walked : Walked (view_of f.card f.volume) (leaf_walk_on f index) t (came_of f.card node) t
  leaf_walked = walked_again kept.again

  pub leaf_offset : f.addresses ≤ 923 → at + 4 ≤ 4096
  leaf_offset most =
      let within = address_in f.addresses (place_on f index) (slots_in f.addresses index) most in
      let known = kept.at_is in
      omega arith

  -- it stays while the lists grow
  leaf_more : {B : Type 0} {w : Walk B} {x : B} {u : Lists} → Fits (view_of f.card f.volume) w t → Walked (view_of f.card f.volume) w t x u
      → LeafOn f index node at end u
  leaf_more fits walked = record {
    at_is = kept.at_is;
    end_is = kept.end_is;
    inside = kept.inside;
    again = again_more (leaf_walk_on f index) walked (walked_rises walked fits.rising) kept.again;
  }

  -- and serves the next index, where an address is left
  next_serves : at + 4 < end → LeafOn f (index + 1) node (at + 4) end t
  next_serves left =
      let known = kept.at_is in
      let known_end = kept.end_is in
      let more : slot_of place + 1 < slots_of A place = omega arith in
      let next = next_place A index more in
      let from = next_from place in
      let slot = next_slot_lem A place more in
      let slots = next_slots A place in
      let at' : at + 4 ≡ address_at (next_slot place) = omega arith in
      let end' : end ≡ addresses_end A (next_slot place) = omega arith in
      record {
        at_is = at' ∙ ap address_at (sym next);
        end_is = end' ∙ ap (addresses_end A) (sym next);
        inside = kept.inside;
        again = subst (λ (w : Walk (Outcome Fetched)). run (view_of f.card f.volume) (listed t) w ≡ ran (came_of f.card node) (listed t)) (same next)
            kept.again;
      }
    where
      A : ℕ
      A = f.addresses

      place : Place
      place = place_on f index

      to : Place → Walk (Outcome Fetched)
      to p = leaf_walk (bounds_of f.volume) f.ino (f.card.block f.inode) p

      to_leaf : (p : Place) → to p ≡ to (leaf_of p)
      to_leaf p = leaf_same (bounds_of f.volume) f.ino (f.card.block f.inode) p

      same : place_of A (index + 1) ≡ next_slot place → to place ≡ to (place_of A (index + 1))
      same next = to_leaf place ∙ ap to (sym (next_leaf place)) ∙ sym (to_leaf (next_slot place)) ∙ ap to (sym next)

pub leaf_next : {f : FileOn} {index : ℕ} {node : Result (Option ℕ) ℕ} {at end : ℕ} {B : Type 0} {w : Walk B} {x : B} {t u : Lists}
    → LeafOn f index node at end t → Fits (view_of f.card f.volume) w t → Walked (view_of f.card f.volume) w t x u
    → KeepsOn f (index + 1) node (at + 4) end u
leaf_next kept fits walked = record { serves = next_serves (leaf_more kept fits walked) }

-- where no address is left nothing is kept
pub keeps_past : {f : FileOn} {index : ℕ} {node : Result (Option ℕ) ℕ} {at end : ℕ} {t : Lists} → end ≤ at → KeepsOn f index node at end t
keeps_past past = record { serves = λ left. absurd (omega arith) }

pub keeps_none : {f : FileOn} {index : ℕ} {leaf : Leaf} {t : Lists} → leaf ≡ record { node = Ok None; at = 0; end = 0 }
    → KeepsOn f index (numbered leaf.node) leaf.at leaf.end t
keeps_none e =
    let at = ap (λ (l : Leaf). l.at) e in
    let end = ap (λ (l : Leaf). l.end) e in
    keeps_past (omega arith)

-- ---- a block through its leaf
module _ (file : File) (index : ℕ) {s : Lists} (fits : Fits (view_in file.card) (file_block_walk file index) s) where
  abbrev m : Bounds
  m = bounds_of file.card.volume

  abbrev from : ℕ → Outcome Fetched → Walk (Outcome Fetched)
  from at = onward (at_leaf m at)

  begins : Reached (view_in file.card) (file_block_walk file index) s (and_then (file_leaf_walk file index) (at_leaf m (address_at (place_in file index)))) s
  begins = reached_to (reached_start _ _ _) (block_through m file.ino (inode_of file) file.addresses index)

  pub leaf_fits : Fits (view_in file.card) (file_leaf_walk file index) s
  leaf_fits = fits_first (at_leaf m (address_at (place_in file index))) (fits_at fits begins)

  -- the walk to the leaf stopped
  pub block_stopped : {x : Outcome Fetched} {answer : ℕ} {t : Lists} → Walked (view_in file.card) (file_leaf_walk file index) s x t → x ≡ stop answer
      → Walked (view_in file.card) (file_block_walk file index) s (stop answer) t
  block_stopped walked e = reached_stop (at_leaf m (address_at (place_in file index))) begins walked e

  -- it came to the leaf, or what is kept says that it stops
  module _ {node : Result (Option ℕ) ℕ} {at end : ℕ} {t : Lists} (kept : LeafOn (on_card file) index node at end t)
      (walked : Walked (view_in file.card) (file_leaf_walk file index) s (came_of (card_in file.card) node) t) where
    at_leaf_lem : Reached (view_in file.card) (file_block_walk file index) s (from at (came_of (card_in file.card) node)) t
    unfolding and_then
    at_leaf_lem =
        reached_to (reached_bind (from (address_at (place_in file index))) begins walked)
        (ap (λ (i : ℕ). from i (came_of (card_in file.card) node)) (sym kept.at_is))

    pub rest_fits : Fits (view_in file.card) (from at (came_of (card_in file.card) node)) t
    rest_fits = fits_at fits at_leaf_lem

    pub block_walked : {x : Outcome Fetched} {u : Lists} → Walked (view_in file.card) (from at (came_of (card_in file.card) node)) t x u
        → Walked (view_in file.card) (file_block_walk file index) s x u
    block_walked last = reached_all at_leaf_lem last
