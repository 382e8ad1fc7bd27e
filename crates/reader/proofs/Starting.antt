-- A reader at its start: what is left is the whole tree, its numbers fit its bytes, and a path in shape has room.
use Prim.Native.Nat.{ℕ, ◌≤◌}
use native.Mathlib.Omega.{arith}
use mathlib.Core.Path.{◌≡◌, refl, sym, ap, ◌∙◌, subst, fun_ext}
use mathlib.Core.Bool.{Bool, true, false, not, ◌&&◌, and-false}
use mathlib.Core.List.{List}
use lib.ListN.{length, take}
use lib.Dec.{eqb, leb, ltb}
use Rattle.field.specs.Choice.{choose}
use Rattle.field.proofs.Choosing.{needed}
use Rattle.list.specs.Lists.{Rising, numbers}
use Rattle.path.specs.Path.{is_path, name_count}
use Rattle.path.proofs.Counting.{parts_few, count_some}
use Rattle.path.proofs.Lengths.{path_most}
use Rattle.walk.specs.Walk.{Seen, empty}
use Rattle.asking.specs.Asking.{answer, ask}
use Rattle.asking.specs.Open.{first_copy_after, open_ask}
use Rattle.asking.specs.Pull.{refused, walk_ask, start_in_shape, read_ask}
use Rattle.ask_open.specs.Came.{open_came, StageIn}
use Rattle.reader_state.specs.declared.At.{At}
use Rattle.reader_state.specs.Resume.{Memory, stage_of, block_came, ending_by, resume_by}
use Rattle.reader_state.specs.Decision.{StartsAt, refuses_at}
use Rattle.reader_state.specs.Fits.{Sized, StateIn, Fits, FitsBy}
use Rattle.reader.specs.Reading.{seen_by}

-- ---- the tree
module _ {blocks i n : ℕ} {at : At} (e : StartsAt blocks i n at) (m : Memory) {path : List ℕ} (p : take n m.path ≡ path) where
  start_came : (s : Seen) (l : List ℕ) → block_came at m s l ≡ first_copy_after (walk_ask s path i) blocks l
  unfolding block_came open_came
  start_came s l = rw (e.first_stage, e.card, e.index, e.path, p)

  start_left : (s : Seen) → resume_by at m s ≡ open_ask (walk_ask s path i) blocks
  unfolding resume_by open_ask
  start_left s =
      ap (λ (n : ℕ). choose (eqb n 0) (answer (ending_by at m s)) (ask at.block (block_came at m s))) e.asked
      ∙ ap (λ (b : ℕ). ask b (block_came at m s)) e.block_zero
      ∙ ap (ask 0) (fun_ext (start_came s))

  start_seen : (nodes blocks' : List ℕ) → seen_by at nodes blocks' ≡ empty
  unfolding numbers
  start_seen nodes blocks' = rw (e.no_nodes, e.no_blocks)

  pub start_resumes : (nodes blocks' : List ℕ) → start_in_shape blocks path ≡ true → resume_by at m (seen_by at nodes blocks') ≡ read_ask blocks path i
  unfolding read_ask
  start_resumes nodes blocks' shape = start_left (seen_by at nodes blocks') ∙ rw (start_seen nodes blocks', shape)

  start_state_lem : StateIn (ltb at.stage 9) at m
  start_state_lem =
      let none : StageIn at.volume m.first m.held (stage_of at.stage) =
      subst (λ (n : ℕ). StageIn at.volume m.first m.held (stage_of n)) (sym e.first_stage) tt
      in
      subst (λ (n : ℕ). StateIn (ltb n 9) at m) (sym e.first_stage) (none, e.no_nodes, e.no_blocks)

  pub start_fits : Sized m → n ≤ 2048 → FitsBy (eqb at.asks 0) at m
  start_fits sized few =
      let fits : Fits at m = record { sized = sized; path = rw e.path few; state = start_state_lem } in
      subst (λ (k : ℕ). FitsBy (eqb k 0) at m) (sym e.asked) fits

-- with a path of so many bytes
abbrev pub with_length : At → ℕ → At
with_length at n =
    record {
      asks = at.asks;
      block = at.block;
      stage = at.stage;
      card_blocks = at.card_blocks;
      index = at.index;
      path_length = n;
      volume = at.volume;
      target = at.target;
      table_inode = at.table_inode;
      spot = at.spot;
      answer = at.answer;
      byte_count = at.byte_count;
      node_count = at.node_count;
      block_count = at.block_count;
    }

pub starts_with : {blocks i k : ℕ} {at : At} (n : ℕ) → StartsAt blocks i k at → StartsAt blocks i n (with_length at n)
starts_with n e =
    record {
      asked = e.asked;
      block_zero = e.block_zero;
      first_stage = e.first_stage;
      card = e.card;
      index = e.index;
      path = refl;
      no_nodes = e.no_nodes;
      no_blocks = e.no_blocks;
    }

pub none_rise : (l : List ℕ) {n : ℕ} → n ≡ 0 → Rising (numbers l 0 n)
unfolding numbers
none_rise l e = rw e tt

-- ---- a refusal
pub refusal_left : (at : At) (m : Memory) (s : Seen) (number : ℕ) → resume_by (refuses_at at number) m s ≡ answer (refused number)
unfolding resume_by ending_by
refusal_left at m s number = refl

pub refused_start : (blocks : ℕ) (path : List ℕ) (i : ℕ) → start_in_shape blocks path ≡ false → read_ask blocks path i ≡ answer (refused 4)
unfolding read_ask
refused_start blocks path i shape = rw shape

-- ---- the test of the shape
module _ (blocks : ℕ) (path : List ℕ) where
  pub shape_tested : {k : ℕ} → k ≡ name_count path → (leb 2 blocks && leb blocks 4194304 && not (eqb k 0)) ≡ start_in_shape blocks path
  unfolding start_in_shape
  shape_tested e = rw e (ap (λ (t : Bool). leb 2 blocks && leb blocks 4194304 && t) (count_some path))

  pub path_room : start_in_shape blocks path ≡ true → length path ≤ 2048
  unfolding start_in_shape
  path_room shape =
      let is = needed {t = is_path path} (λ e. rw e (and-false (leb 2 blocks && leb blocks 4194304))) shape in
      let most = path_most path is in
      let few = parts_few path is in
      omega arith
