-- The test of a state's numbers and bytes says what it is to say, and nothing more.
use Prim.Native.Nat.{ℕ, zero, suc, ◌+◌, ◌*◌, ◌≤◌, ◌<◌}
use native.Mathlib.Omega.{arith}
use mathlib.Core.Path.{◌≡◌, refl}
use mathlib.Core.Bool.{Bool, true, false, not, ◌&&◌, ◌||◌, and-eq-true_iff}
use mathlib.Core.List.{List}
use lib.ListN.{length}
use lib.Seq.{length-take-le}
use lib.Dec.{eqb, leb, ltb}
use borrow.Author.Tests.{ltb-true, leb-true, eqb-true, eqb-false, lt-ltb, le-leb, eq-eqb, not-true}
use Rattle.field.specs.Choice.{choose}
use Rattle.superblock.specs.declared.Areas.{Areas}
use Rattle.checkpoint.specs.declared.Volume.{Volume}
use Rattle.inode.specs.Inode.{inode_of, is_directory, is_past}
use Rattle.asking.specs.Table.{keeping, KeptIn}
use Rattle.ask_directory.specs.declared.Spot.{Spot}
use Rattle.ask_directory.specs.Move.{SpotBy, SpotIn}
use Rattle.ask_open.specs.Came.{AreasFit, PackFits, StageIn}
use Rattle.reader_state.specs.declared.At.{At}
use Rattle.reader_state.specs.Resume.{Memory, path_in, stage_of}
use Rattle.reader_state.specs.Fits.{areas_fit, pack_fits, map_fits, open_fits, spot_fits, walk_fits, fits, Sized, WalkIn, StateIn, Fits}

-- ---- both of two tests
both : {a b : Bool} → a && b ≡ true → (a ≡ true) × (b ≡ true)
both {a = a} {b = b} h = (and-eq-true_iff a b).0 h

-- ---- the parts
areas_in_lem : (a : Areas) → areas_fit a ≡ true → AreasFit a
unfolding areas_fit
areas_in_lem a h =
    let t = both h in
    let u = both t.0 in
    record { packs = ltb-true _ _ u.0; table_ends = eqb-true _ _ u.1; nat_even = eqb-true _ _ t.1 }

in_areas : (a : Areas) → AreasFit a → areas_fit a ≡ true
unfolding areas_fit
in_areas a h = rw (lt-ltb _ _ h.packs, eq-eqb _ _ h.table_ends, eq-eqb _ _ h.nat_even)

pack_in : (first : List ℕ) → pack_fits first ≡ true → PackFits first
unfolding pack_fits
pack_in first h = let t = both h in (leb-true _ _ t.0, leb-true _ _ t.1)

in_pack : (first : List ℕ) → PackFits first → pack_fits first ≡ true
unfolding pack_fits
in_pack first h = rw (le-leb _ _ h.0, le-leb _ _ h.1)

map_in : (v : Volume) → map_fits v ≡ true → v.nat_map + 32 * v.areas.nat_segments ≤ 4092
unfolding map_fits
map_in v h = leb-true _ _ h

in_map : (v : Volume) → v.nat_map + 32 * v.areas.nat_segments ≤ 4092 → map_fits v ≡ true
unfolding map_fits
in_map v h = le-leb _ _ h

-- ---- in opening, by the stage

-- one of the nine
by_stage : (P : ℕ → Type 0) → P 0 → P 1 → P 2 → P 3 → P 4 → P 5 → P 6 → P 7 → P 8 → (n : ℕ) → n < 9 → P n
by_stage P p0 p1 p2 p3 p4 p5 p6 p7 p8 zero h = p0
by_stage P p0 p1 p2 p3 p4 p5 p6 p7 p8 (suc zero) h = p1
by_stage P p0 p1 p2 p3 p4 p5 p6 p7 p8 (suc (suc zero)) h = p2
by_stage P p0 p1 p2 p3 p4 p5 p6 p7 p8 (suc (suc (suc zero))) h = p3
by_stage P p0 p1 p2 p3 p4 p5 p6 p7 p8 (suc (suc (suc (suc zero)))) h = p4
by_stage P p0 p1 p2 p3 p4 p5 p6 p7 p8 (suc (suc (suc (suc (suc zero))))) h = p5
by_stage P p0 p1 p2 p3 p4 p5 p6 p7 p8 (suc (suc (suc (suc (suc (suc zero)))))) h = p6
by_stage P p0 p1 p2 p3 p4 p5 p6 p7 p8 (suc (suc (suc (suc (suc (suc (suc zero))))))) h = p7
by_stage P p0 p1 p2 p3 p4 p5 p6 p7 p8 (suc (suc (suc (suc (suc (suc (suc (suc zero)))))))) h = p8
by_stage P p0 p1 p2 p3 p4 p5 p6 p7 p8 (suc (suc (suc (suc (suc (suc (suc (suc (suc n))))))))) h = absurd (omega arith)

module _ (v : Volume) (first second : List ℕ) where
  abbrev StageTested : ℕ → Type 0
  StageTested stage = open_fits stage v first second ≡ true → StageIn v first second (stage_of stage)

  stage_in : (stage : ℕ) → stage < 9 → StageTested stage
  unfolding open_fits
  stage_in =
      by_stage StageTested (λ h. tt) (λ h. tt)
      (λ h. areas_in_lem _ (both (both (both h).0).0).0)
      (λ h. let t = both (both (both h).0).0 in (areas_in_lem _ t.0, pack_in _ t.1))
      (λ h. (areas_in_lem _ (both (both (both h).0).0).0, tt))
      (λ h. let t = both (both (both h).0).0 in (areas_in_lem _ t.0, pack_in _ t.1))
      (λ h. let t = both (both h).0 in (areas_in_lem _ (both t.0).0, tt, pack_in _ t.1))
      (λ h. let t = both (both h).0 in let u = both t.0 in (areas_in_lem _ u.0, pack_in _ u.1, pack_in _ t.1))
      (λ h. let t = both h in let u = both t.1 in (areas_in_lem _ (both (both t.0).0).0, map_in v u.0, leb-true _ _ u.1))

  abbrev StageTests : ℕ → Type 0
  StageTests stage = StageIn v first second (stage_of stage) → open_fits stage v first second ≡ true

  in_stage : (stage : ℕ) → stage < 9 → StageTests stage
  unfolding open_fits
  in_stage =
      by_stage StageTests (λ h. refl) (λ h. refl)
      (λ h. rw (in_areas _ h))
      (λ h. rw (in_areas _ h.0, in_pack _ h.1))
      (λ h. rw (in_areas _ h.0))
      (λ h. rw (in_areas _ h.0, in_pack _ h.1))
      (λ h. rw (in_areas _ h.0, in_pack _ h.2))
      (λ h. rw (in_areas _ h.0, in_pack _ h.1, in_pack _ h.2))
      (λ h. rw (in_areas _ h.0, in_map v h.1, le-leb _ _ h.2))

-- ---- in the walk
module _ (index : ℕ) (inode : List ℕ) (p : Spot) where
  -- the test by whether a name is left in the path
  abbrev spot_test : Bool → Bool
  spot_test b = choose b (is_directory (inode_of inode) && ltb p.level 63 && ltb p.block 4) (not (is_past (inode_of inode) index))

  spot_in : (b : Bool) → spot_test b ≡ true → SpotBy b index inode p
  spot_in true h = let t = both h in let u = both t.0 in (u.0, ltb-true _ _ u.1, ltb-true _ _ t.1)
  spot_in false h = not-true _ h

  in_spot : (b : Bool) → SpotBy b index inode p → spot_test b ≡ true
  in_spot true h = rw (h.0, lt-ltb _ _ h.1, lt-ltb _ _ h.2)
  in_spot false h = rw h

module _ (at : At) {m : Memory} (sized : Sized m) (path : at.path_length ≤ 2048) where
  pub path_length_lem : length (path_in at m) ≡ at.path_length
  path_length_lem = let whole = sized.path in length-take-le _ _ (omega arith)

  abbrev spot_here : Bool
  spot_here = spot_fits at.path_length at.index m.held at.spot

  here_in : spot_here ≡ true → SpotIn (path_in at m) at.index m.held at.spot
  unfolding spot_fits
  here_in h = rw path_length_lem (spot_in at.index m.held at.spot (leb at.spot.name_at at.path_length) h)

  in_here : SpotIn (path_in at m) at.index m.held at.spot → spot_here ≡ true
  unfolding spot_fits
  in_here h = in_spot at.index m.held at.spot (leb at.spot.name_at at.path_length) (rw path_length_lem at h)

  -- the test by whether a data block is asked for
  abbrev place_test : Bool → Bool
  place_test later = choose later spot_here (ltb at.target.hop 4 && (eqb at.target.hop 0 || spot_here))

  -- a node that is no inode
  node_in : (b : Bool) → eqb at.target.hop 0 ≡ b → b || spot_here ≡ true → (at.target.hop ≡ 0 → ⊥)
      → SpotIn (path_in at m) at.index m.held at.spot
  node_in true e h n = absurd (n (eqb-true _ _ e))
  node_in false e h n = here_in h

  in_node_lem : (b : Bool) → eqb at.target.hop 0 ≡ b
      → ((at.target.hop ≡ 0 → ⊥) → SpotIn (path_in at m) at.index m.held at.spot) → b || spot_here ≡ true
  in_node_lem true e h = refl
  in_node_lem false e h = in_here (h (eqb-false _ _ e))

  place_in : (later : Bool) → place_test later ≡ true → WalkIn later at m
  place_in true h = here_in h
  place_in false h = let t = both h in (ltb-true _ _ t.0, node_in (eqb at.target.hop 0) refl t.1)

  in_place : (later : Bool) → WalkIn later at m → place_test later ≡ true
  in_place true h = in_here h
  in_place false h = rw (lt-ltb _ _ h.0) (in_node_lem (eqb at.target.hop 0) refl h.1)

  -- ---- the whole
  abbrev state_test : Bool → Bool
  state_test opening =
      choose opening (open_fits at.stage at.volume m.first m.held && eqb at.node_count 0 && eqb at.block_count 0)
      (walk_fits at m.held m.journal)

  state_in : (opening : Bool) → ltb at.stage 9 ≡ opening → state_test opening ≡ true → StateIn opening at m
  unfolding walk_fits
  state_in true l h =
      let t = both h in
      let u = both t.0 in
      (stage_in _ _ _ _ (ltb-true _ _ l) u.0, eqb-true _ _ u.1, eqb-true _ _ t.1)
  state_in false l h =
      let t = both h in
      let u = both t.0 in
      let w = both u.0 in
      let areas = areas_in_lem at.volume.areas w.0 in
      let kept : KeptIn (keeping at.volume m.first m.journal) = record {
        first_size = sized.first;
        map_inside = map_in at.volume w.1;
        table_ends = areas.table_ends;
        nat_even = areas.nat_even;
        journal_size = sized.journal;
        journal_count = leb-true _ _ u.1;
      } in
      (kept, areas.packs, place_in (ltb 10 at.stage) t.1)

  in_state : (opening : Bool) → ltb at.stage 9 ≡ opening → StateIn opening at m → state_test opening ≡ true
  unfolding walk_fits
  in_state true l h = rw (in_stage _ _ _ _ (ltb-true _ _ l) h.0, eq-eqb _ _ h.1, eq-eqb _ _ h.2)
  in_state false l h =
      let kept = h.0 in
      let areas : AreasFit at.volume.areas = record { packs = h.1; table_ends = kept.table_ends; nat_even = kept.nat_even } in
      rw (in_areas _ areas, in_map at.volume kept.map_inside, le-leb _ _ kept.journal_count) (in_place (ltb 10 at.stage) h.2)

pub fits_in : (at : At) {m : Memory} → Sized m → fits at m ≡ true → Fits at m
unfolding fits
fits_in at sized h =
    let t = both h in
    let path = leb-true _ _ t.0 in
    record { sized = sized; path = path; state = state_in at sized path (ltb at.stage 9) refl t.1 }

pub in_fits : (at : At) {m : Memory} → Fits at m → fits at m ≡ true
unfolding fits
in_fits at h = rw (le-leb _ _ h.path) (in_state at h.sized h.path (ltb at.stage 9) refl h.state)
