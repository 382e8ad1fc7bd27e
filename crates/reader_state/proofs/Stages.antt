-- What each stage of the walk does with the block that came is what the tree does with it.
use Prim.Native.Nat.{ℕ, ◌≤◌, ◌<◌}
use native.Mathlib.Omega.{arith}
use mathlib.Core.Path.{◌≡◌, refl, sym, ap, subst, ◌∙◌}
use mathlib.Core.Bool.{Bool, true, false}
use mathlib.Core.List.{List}
use lib.ListN.{length, drop}
use lib.Dec.{eqb, ltb, leb-zero}
use borrow.Author.Tests.{lt-ltb, le-ltb, ne_eqb}
use Rattle.field.specs.Choice.{choose}
use Rattle.field.proofs.Choosing.{clash}
use Rattle.checkpoint.specs.declared.Volume.{Volume}
use Rattle.checkpoint.specs.Volume.{journal_readable}
use Rattle.walk.specs.Walk.{Seen}
use Rattle.pull.specs.Walk.{pull_walk}
use Rattle.asking.specs.Table.{keeping, journal_in, KeptIn, asking}
use Rattle.asking.specs.Pull.{came}
use Rattle.ask_directory.specs.declared.Goes.{Goes}
use Rattle.ask_directory.specs.declared.Goes.TheVariants.{Table, Node, Data, Stop, Empty, Full, Inline}
use Rattle.ask_directory.specs.declared.Move.{Move}
use Rattle.ask_directory.specs.Left.{names_from, names_then}
use Rattle.ask_directory.specs.Move.{moved, IsNode, GoesIn, MoveIn}
use Rattle.ask_open.specs.declared.Keep.TheVariants.{Nothing}
use Rattle.reader_state.specs.declared.At.{At}
use Rattle.reader_state.specs.Resume.{Memory, memory, path_in, question_in, table_then, target_then, block_then, block_came}
use Rattle.reader_state.specs.Decision.{keep_if, walk_on}
use Rattle.reader_state.specs.Fits.{Sized, WalkIn, StateIn, Fits, Decided}
use Rattle.reader_state.proofs.Fitting.{path_length_lem}
use Rattle.reader_state.proofs.Opened.{journal_came_lem, journal_inside_lem, journal_kept, journal_packs, keeps_sized}
use Rattle.reader_state.proofs.Moved.{Walking, goes_volume, walk_decided}

-- ---- what is known
module _ (at : At) (m : Memory) (fit : Fits at m) (walk : 9 ≤ at.stage) where
  walk_state : StateIn false at m
  walk_state = rw (le-ltb at.stage 9 walk) at fit.state

  pub walk_kept : KeptIn (keeping at.volume m.first m.journal)
  walk_kept = walk_state.0

  pub node_known : at.stage ≤ 10 → WalkIn false at m
  node_known l = rw (le-ltb 10 at.stage l) at walk_state.2

  pub data_known : 10 < at.stage → WalkIn true at m
  data_known l = rw (lt-ltb 10 at.stage l) at walk_state.2

  -- ---- a block came, and is kept or isn't
  module _ (bytes : List ℕ) (whole : length bytes ≡ 4096) where
    kept_decided : (b : Bool) (mv : Move)
        → ((s : Seen) → moved (question_in at m) (choose b bytes m.held) s mv ≡ block_came at m s bytes)
        → MoveIn (path_in at m) at.index (choose b bytes m.held) mv → Decided at m bytes (walk_on at mv (keep_if b) false)
    kept_decided true mv same known =
        let sized : Sized (memory m.path m.first bytes m.journal) = record {
          path = fit.sized.path;
          first = fit.sized.first;
          held = whole;
          journal = fit.sized.journal;
        } in
        walk_decided at m bytes mv (keep_if true) false
        (record { sized = sized; path = fit.path; kept = walk_kept; packs = walk_state.1 }) same known (λ e. absurd (clash e refl))
    kept_decided false mv same known =
        walk_decided at m bytes mv (keep_if false) false
        (record { sized = fit.sized; path = fit.path; kept = walk_kept; packs = walk_state.1 }) same known (λ e. absurd (clash e refl))

    -- ---- the table block
    table_came : at.stage ≡ 9 → (s : Seen) → table_then at m s bytes ≡ block_came at m s bytes
    unfolding block_came
    table_came e s = rw e

    -- its target stays
    node_in : WalkIn false at m → (goes : Goes) → IsNode goes → GoesIn (path_in at m) at.index m.held at.target at.spot goes
    node_in h (Table b) n = absurd n
    node_in h (Node b table_inode) n = h
    node_in h (Data b) n = absurd n
    node_in h (Stop reason) n = tt
    node_in h (Empty count) n = absurd n
    node_in h (Full count) n = absurd n
    node_in h (Inline count) n = absurd n

    pub table_decided : at.stage ≡ 9 → (mv : Move) → ((s : Seen) → moved (question_in at m) m.held s mv ≡ table_then at m s bytes)
        → (mv.target ≡ at.target) × (mv.spot ≡ at.spot) × IsNode mv.goes → Decided at m bytes (walk_on at mv Nothing false)
    table_decided e mv same stays =
        kept_decided false mv (λ s. same s ∙ table_came e s)
        (rw (stays.0, stays.1) (node_in (node_known (omega arith)) mv.goes stays.2))

    -- ---- the target's block
    target_came : at.stage ≡ 10 → (s : Seen) → target_then at m s bytes ≡ block_came at m s bytes
    unfolding block_came
    target_came e s = rw e

    pub node_decided : at.stage ≡ 10 → (mv : Move) → let inode = choose (eqb at.target.hop 0) bytes m.held in
        ((s : Seen) → moved (question_in at m) inode s mv ≡ target_then at m s bytes) → MoveIn (path_in at m) at.index inode mv
        → Decided at m bytes (walk_on at mv (keep_if (eqb at.target.hop 0)) false)
    node_decided e mv same known = kept_decided (eqb at.target.hop 0) mv (λ s. same s ∙ target_came e s) known

    -- ---- a data block
    data_came : 10 < at.stage → (s : Seen) → block_then at m s bytes ≡ block_came at m s bytes
    unfolding block_came
    data_came l s = rw (le-ltb at.stage 9 walk, ne_eqb at.stage 9 (λ e. omega arith), ne_eqb at.stage 10 (λ e. omega arith))

    pub data_decided : 10 < at.stage → (mv : Move) → let block = choose (ltb (length (path_in at m)) at.spot.name_at) bytes m.held in
        ((s : Seen) → moved (question_in at m) block s mv ≡ block_then at m s bytes) → MoveIn (path_in at m) at.index block mv
        → Decided at m bytes (walk_on at mv (keep_if (ltb at.path_length at.spot.name_at)) false)
    data_decided l mv same known =
        subst (λ (n : ℕ). Decided at m bytes (walk_on at mv (keep_if (ltb n at.spot.name_at)) false)) (path_length_lem at fit.sized fit.path)
        (kept_decided (ltb (length (path_in at m)) at.spot.name_at) mv (λ s. same s ∙ data_came l s) known)

-- ---- the journal's block
module _ (at : At) (m : Memory) (bytes : List ℕ) (fit : Fits at m) (stage : at.stage ≡ 8) (whole : length bytes ≡ 4096)
    (read : journal_readable (drop at.volume.journal_at bytes) ≡ true) where
  -- what is kept then
  abbrev journal_here : List ℕ
  journal_here = journal_in at.volume.journal_at bytes

  abbrev opened : Memory
  opened = memory m.path m.first m.held journal_here

  -- the walk from the root, for all names of the path
  root_begun : (s : Seen) → asking (question_in at opened).kept came s (names_then (question_in at opened) (names_from (path_in at m) 0) 3)
      ≡ block_came at m s bytes
  unfolding pull_walk
  root_begun s = rw (leb-zero (length (path_in at m))) (journal_came_lem at m bytes fit stage s read)

  pub journal_decided : (mv : Move)
      → ((s : Seen) → moved (question_in at opened) m.held s mv
      ≡ asking (question_in at opened).kept came s (names_then (question_in at opened) (names_from (path_in at m) 0) 3))
      → MoveIn (path_in at m) at.index m.held mv → Decided at m bytes (walk_on at mv Nothing true)
  journal_decided mv same known =
      let kept = journal_kept at m bytes fit stage whole read in
      let begun : Walking at opened = record {
        sized = keeps_sized m bytes journal_here fit.sized whole kept.journal_size Nothing;
        path = fit.path;
        kept = kept;
        packs = journal_packs at m bytes fit stage;
      } in
      let e = ap (λ (v : Volume). memory m.path m.first m.held (journal_in v.journal_at bytes))
      (sym (goes_volume at mv.target mv.spot mv.goes)) in
      walk_decided at m bytes mv Nothing true (subst (λ (n : Memory). Walking at n) e begun)
      (λ s. subst (λ (n : Memory). moved (question_in at n) m.held s mv ≡ block_came at m s bytes) e (same s ∙ root_begun s)) known
      (λ f. journal_inside_lem at m bytes fit stage)
