-- What a reader knows in the stage that opening goes to.
use Prim.Native.Nat.{ℕ, ◌+◌, ◌*◌, ◌≤◌, ◌<◌}
use native.Mathlib.Omega.{arith}
use mathlib.Core.Path.{◌≡◌, refl}
use mathlib.Core.Bool.{Bool, true, false, ◌&&◌, and-false}
use mathlib.Core.List.{List}
use mathlib.Core.Logic.{⊎_elim}
use lib.Dec.{eqb}
use Rattle.field.proofs.Choosing.{either, clash, needed}
use Rattle.superblock.specs.declared.Areas.{Areas}
use Rattle.superblock.specs.declared.Superblock.{Superblock}
use Rattle.answer.specs.declared.Refusal.{Refusal}
use Rattle.superblock.specs.Areas.{At, areas_of, accepted}
use Rattle.superblock.specs.Superblock.{fields_pass, passes, superblock_of, end_of}
use Rattle.superblock.proofs.Passing.{passes_in}
use Rattle.checkpoint.specs.declared.Checkpoint.{Checkpoint}
use Rattle.checkpoint.specs.declared.Volume.{Volume}
use Rattle.checkpoint.specs.Volume.{maps_readable, volume_of}
use Rattle.checkpoint.proofs.Reading.{map_inside_lem, journal_at_most}
use Rattle.ask_open.specs.declared.Stage.TheVariants.{Refused}
use Rattle.ask_open.specs.declared.Opening.{Opening}
use Rattle.ask_open.specs.Came.{AreasFit, PackFits, IfPassed, OpeningIn}

-- a copy that passes has fields that do
pub copy_fields : (blocks : ℕ) (copy : List ℕ) → passes blocks copy ≡ true → fields_pass blocks (superblock_of copy) ≡ true
unfolding passes
copy_fields blocks copy p = needed (λ q. simp (q, and-false)) p

-- of a card whose blocks fit 32 bits
module _ (blocks : ℕ) (few : blocks < 4294967296) (s : Superblock) (p : fields_pass blocks s ≡ true) where
  pub end_fits : end_of s.main_blkaddr s.segment_count_main < 4294967296
  end_fits = omega (arith, (passes_in blocks s p).in_card)

  areas_fit_lem : AreasFit (areas_of s)
  areas_fit_lem =
      let i = passes_in blocks s p in
      record {
        packs = omega (arith, i.sit_starts, i.nat_starts, i.ssa_starts, i.main_starts, i.main_ends, i.in_card);
        table_ends = i.ssa_starts;
        nat_even = i.nat_even;
      }

  -- the areas that are accepted are the superblock's
  pub accepted_fit : {a : Areas} → accepted s ≡ At a → AreasFit a
  accepted_fit {a = a} e =
      ⊎_elim (λ t. let f = rw t at e in let same : areas_of s ≡ a = cc in rw same at areas_fit_lem)
      (λ t. let f = rw t at e in absurd (let z : ◌≡◌ {A = ℕ} 0 1 = cc in omega arith))
      (either (eqb s.feature 0 && eqb s.cp_payload 0))

-- a pack that passed, and one that may have
module _ (first : List ℕ) where
  pub maybe_passed : (passed : Bool) → PackFits first → IfPassed passed first
  maybe_passed true h = h
  maybe_passed false h = tt

  pub has_passed : (passed : Bool) → passed ≡ true → IfPassed passed first → PackFits first
  has_passed true e h = h
  has_passed false e h = absurd (clash e refl)

pub knows_refused : (first second bytes : List ℕ) (o : Opening) {n : Refusal} → o.stage ≡ Refused n → OpeningIn first second bytes o
knows_refused first second bytes o e = rw e tt

-- the map and the journal of a pack whose maps are readable
pub knows_journal : (a : Areas) (start : ℕ) (cp : Checkpoint) {v : Volume} → v ≡ volume_of a start cp → AreasFit a → maps_readable a cp ≡ true
    → AreasFit v.areas × (v.nat_map + 32 * v.areas.nat_segments ≤ 4092) × (v.journal_at ≤ 3584)
knows_journal a start cp e fit maps = rw e (fit, map_inside_lem a cp maps, journal_at_most cp)
