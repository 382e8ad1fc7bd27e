-- Which copy is used: the areas that are found come from a copy that passes.
use mathlib.Core.Path.{◌≡◌, ◌∙◌}
use mathlib.Core.List.{List}
use mathlib.Core.Bool.{true, false, ◌&&◌, and-false}
use mathlib.Core.Logic.{◌⊎◌, inl, inr, ⊎_elim}
use Prim.Native.Nat.{ℕ, ◌≤◌, ◌<◌}
use native.Mathlib.Omega.{arith}
use lib.Dec.{eqb}
use Rattle.field.specs.Card.{Card}
use Rattle.field.specs.Choice.{choose}
use Rattle.field.proofs.Choosing.{needed, either}
use Rattle.superblock.specs.declared.Superblock.{Superblock}
use Rattle.superblock.specs.declared.Areas.{Areas}
use Rattle.superblock.specs.Areas.{Found, At, Refused, areas_of, accepted_copy, found, AreasIn}
use Rattle.std.specs.Prelude.{Option, Some, None}
use Rattle.superblock.specs.Shape.{most_blocks}
use Rattle.superblock.specs.Superblock.{copy_in, superblock_of, end_of, passes, copy_passes}
use Rattle.superblock.proofs.Passing.{passes_in}

-- the areas of a copy that passes
pub passing : (blocks : ℕ) (copy : List ℕ) → passes blocks copy ≡ true → AreasIn blocks (areas_of (superblock_of copy))
unfolding passes
passing blocks copy p = passes_in blocks (superblock_of copy) (needed (λ q. simp (q, and-false)) p)

-- the answer `r` of trying a copy
module _ (blocks : ℕ) (copy : List ℕ) {r : Option Superblock} (e : r ≡ choose (passes blocks copy) (Some (superblock_of copy)) None) where
  pub passed : {s : Superblock} → r ≡ Some s → (passes blocks copy ≡ true) × (s ≡ superblock_of copy)
  passed k =
      ⊎_elim (λ p. let e' = rw p at e in (p, cc)) (λ p. let e' = rw p at e in (cc, cc))
      (either (passes blocks copy))

  pub failed : r ≡ None → passes blocks copy ≡ false
  failed k = ⊎_elim (λ p. let e' = rw p at e in cc) (λ p. p) (either (passes blocks copy))

  -- the end of its main area is a block address, so it fits 32 bits
  pub passed_fits : blocks ≤ most_blocks → {s : Superblock} → r ≡ Some s → end_of s.main_blkaddr s.segment_count_main < 4294967296
  passed_fits few k =
      let w = passed k in
      rw w.1 (omega (arith, (passing blocks copy w.0).in_card))

-- the areas of a copy that passes, or answer 5 or 6
abbrev pub Kinds : Card → Type 0
Kinds card =
    ((b : ℕ) × (copy_passes card b ≡ true) × (found card ≡ At (areas_of (superblock_of (copy_in card b)))))
    ⊎ ((found card ≡ Refused 5) ⊎ (found card ≡ Refused 6))

module _ (card : Card) where
  pub found_first : copy_passes card 0 ≡ true → found card ≡ accepted_copy card 0
  unfolding found
  found_first p = rw p

  pub found_second : copy_passes card 0 ≡ false → copy_passes card 1 ≡ true → found card ≡ accepted_copy card 1
  unfolding found
  found_second p q = rw (p, q)

  pub found_none : copy_passes card 0 ≡ false → copy_passes card 1 ≡ false → found card ≡ Refused 5
  unfolding found
  found_none p q = rw (p, q)

  of_copy : (b : ℕ) → copy_passes card b ≡ true → found card ≡ accepted_copy card b → Kinds card
  of_copy b p e =
      let s = superblock_of (copy_in card b) in
      ⊎_elim (λ k. inl (b, p, e ∙ rw k)) (λ k. inr (inr (e ∙ rw k)))
      (either (eqb s.feature 0 && eqb s.cp_payload 0))

  pub found_kinds : Kinds card
  found_kinds =
      ⊎_elim (λ p. of_copy 0 p (found_first p))
      (λ p. ⊎_elim (λ q. of_copy 1 q (found_second p q)) (λ q. inr (inl (found_none p q))) (either (copy_passes card 1)))
      (either (copy_passes card 0))

pub not_both : {f : Found} {a : Areas} {n : ℕ} → f ≡ At a → f ≡ Refused n → ⊥
not_both p q = let z : ◌≡◌ {A = ℕ} 0 1 = cc in omega arith

pub areas_in_lem : (card : Card) (a : Areas) → found card ≡ At a → AreasIn card.blocks a
areas_in_lem card a e =
    ⊎_elim (λ w. let same : areas_of (superblock_of (copy_in card w.0)) ≡ a = cc in rw same at (passing card.blocks (copy_in card w.0) w.1))
    (λ w. absurd (⊎_elim (not_both e) (not_both e) w))
    (found_kinds card)
