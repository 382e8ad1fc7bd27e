-- Where the walk goes, the state goes on with what is left there, or has the answer; what was looked up, and the block that the walk reads, are
-- listed as the tree lists them; and the state fits again.
use Prim.Native.Nat.{ℕ, ◌+◌, ◌≤◌, ◌<◌}
use native.Mathlib.Omega.{arith}
use mathlib.Core.Path.{◌≡◌, refl, sym, subst, ◌∙◌}
use mathlib.Core.Bool.{Bool, true}
use mathlib.Core.Logic.{inl, inr}
use mathlib.Core.List.{List}
use lib.Dec.{eqb}
use Rattle.checkpoint.specs.declared.Volume.{Volume}
use Rattle.walk.specs.Walk.{Seen}
use Rattle.asking.specs.Table.{keeping, KeptIn}
use Rattle.ask_node.specs.Wants.{wanting}
use Rattle.ask_directory.specs.declared.Spot.{Spot}
use Rattle.ask_directory.specs.declared.Target.{Target}
use Rattle.ask_directory.specs.declared.Goes.{Goes}
use Rattle.ask_directory.specs.declared.Goes.TheVariants.{Table, Node, Data, Stop, Empty, Full, Inline}
use Rattle.ask_directory.specs.declared.Move.{Move}
use Rattle.ask_directory.specs.Move.{goes_by, moved, GoesIn, MoveIn}
use Rattle.ask_open.specs.declared.Keep.{Keep}
use Rattle.reader_state.specs.declared.At.{At}
use Rattle.reader_state.specs.Resume.{Memory, path_in, question_in, block_came, ending_by, resume_by}
use Rattle.reader_state.specs.Decision.{goes_at, block_read, read_then, memory_after, walk_on}
use Rattle.reader_state.specs.Fits.{Sized, FitsBy, Form, Walks, Decided}

-- ---- what is left
module _ (at : At) (m : Memory) (s : Seen) (n : Target) (p : Spot) where
  goes_moved : (goes : Goes)
      → resume_by (goes_at at n p goes) m (read_then (block_read goes) s)
      ≡ goes_by (question_in at m) m.held n p s goes
  unfolding resume_by block_came ending_by goes_by wanting
  goes_moved (Table b) = refl
  goes_moved (Node b table_inode) = refl
  goes_moved (Data b) = refl
  goes_moved (Stop reason) = refl
  goes_moved (Empty count) = refl
  goes_moved (Full count) = refl
  goes_moved (Inline count) = refl

-- ---- the numbers that stay
module _ (at : At) (n : Target) (p : Spot) where
  pub goes_volume : (goes : Goes) → (goes_at at n p goes).volume ≡ at.volume
  goes_volume (Table b) = refl
  goes_volume (Node b table_inode) = refl
  goes_volume (Data b) = refl
  goes_volume (Stop reason) = refl
  goes_volume (Empty count) = refl
  goes_volume (Full count) = refl
  goes_volume (Inline count) = refl

  goes_path : (goes : Goes) → (goes_at at n p goes).path_length ≡ at.path_length
  goes_path (Table b) = refl
  goes_path (Node b table_inode) = refl
  goes_path (Data b) = refl
  goes_path (Stop reason) = refl
  goes_path (Empty count) = refl
  goes_path (Full count) = refl
  goes_path (Inline count) = refl

  goes_counts : (goes : Goes) → ((goes_at at n p goes).node_count ≡ at.node_count) × ((goes_at at n p goes).block_count ≡ at.block_count)
  goes_counts (Table b) = (refl, refl)
  goes_counts (Node b table_inode) = (refl, refl)
  goes_counts (Data b) = (refl, refl)
  goes_counts (Stop reason) = (refl, refl)
  goes_counts (Empty count) = (refl, refl)
  goes_counts (Full count) = (refl, refl)
  goes_counts (Inline count) = (refl, refl)

  goes_walks : (goes : Goes) → Walks (goes_at at n p goes)
  goes_walks (Table b) = (λ e. absurd (omega arith), λ more. omega arith)
  goes_walks (Node b table_inode) = (λ e. absurd (omega arith), λ more. omega arith)
  goes_walks (Data b) = (λ e. absurd (omega arith), λ more. omega arith)
  goes_walks (Stop reason) = (λ e. absurd (omega arith), λ more. absurd (more refl))
  goes_walks (Empty count) = (λ e. absurd (omega arith), λ more. absurd (more refl))
  goes_walks (Full count) = (λ e. absurd (omega arith), λ more. absurd (more refl))
  goes_walks (Inline count) = (λ e. absurd (omega arith), λ more. absurd (more refl))

  goes_form : (goes : Goes) → Form (goes_at at n p goes)
  goes_form (Table b) = inr refl
  goes_form (Node b table_inode) = inr refl
  goes_form (Data b) = inr refl
  goes_form (Stop reason) = inl (refl, refl)
  goes_form (Empty count) = inl (refl, refl)
  goes_form (Full count) = inl (refl, refl)
  goes_form (Inline count) = inl (refl, refl)

-- ---- the state fits again

-- what is known of a walk, but for where it is
pub record Walking (at : At) (m : Memory) : Type 0 where
  pub sized : Sized m
  pub path : at.path_length ≤ 2048
  pub kept : KeptIn (keeping at.volume m.first m.journal)
  pub packs : at.volume.areas.checkpoint + 1024 < 4294967296

module _ (at : At) (m : Memory) (h : Walking at m) (n : Target) (p : Spot) where
  abbrev GoesFits : Goes → Type 0
  GoesFits goes = GoesIn (path_in at m) at.index m.held n p goes → FitsBy (eqb (goes_at at n p goes).asks 0) (goes_at at n p goes) m

  goes_fits : (goes : Goes) → GoesFits goes
  goes_fits (Table b) known = record { sized = h.sized; path = h.path; state = (h.kept, h.packs, known) }
  goes_fits (Node b table_inode) known = record { sized = h.sized; path = h.path; state = (h.kept, h.packs, known) }
  goes_fits (Data b) known = record { sized = h.sized; path = h.path; state = (h.kept, h.packs, known) }
  goes_fits (Stop reason) known = record { bytes = omega arith; counts = λ e. absurd (omega arith) }
  goes_fits (Empty count) known = record { bytes = omega arith; counts = λ e. absurd (omega arith) }
  goes_fits (Full count) known = record { bytes = omega arith; counts = λ e. absurd (omega arith) }
  goes_fits (Inline count) known = record { bytes = known; counts = λ e. absurd (omega arith) }

-- ---- a block came, and the walk goes on
module _ (at : At) (m : Memory) (bytes : List ℕ) (mv : Move) (keep : Keep) (journal : Bool) where
  abbrev after : Memory
  after = memory_after (walk_on at mv keep journal) m bytes

  pub walk_decided : Walking at after → ((s : Seen) → moved (question_in at after) after.held s mv ≡ block_came at m s bytes)
      → MoveIn (path_in at after) at.index after.held mv → (journal ≡ true → at.volume.journal_at ≤ 3584)
      → Decided at m bytes (walk_on at mv keep journal)
  unfolding moved
  walk_decided h same known inside = record {
    same = λ s. goes_moved at after _ mv.target mv.spot mv.goes ∙ same s;
    fit = goes_fits at after h mv.target mv.spot mv.goes known;
    counts = goes_counts at mv.target mv.spot mv.goes;
    path = goes_path at mv.target mv.spot mv.goes;
    form = goes_form at mv.target mv.spot mv.goes;
    lists = inr (goes_walks at mv.target mv.spot mv.goes);
    journal = λ e. subst (λ (v : Volume). v.journal_at ≤ 3584) (sym (goes_volume at mv.target mv.spot mv.goes)) (inside e);
  }
