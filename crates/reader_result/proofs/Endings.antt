-- When a reader's state can be read, what is known then, and what its ending is as numbers and lent memory.
use Prim.Native.Nat.{ℕ, ◌+◌, ◌*◌, ◌/◌, ◌≤◌}
use native.Mathlib.Omega.{arith}
use mathlib.Core.Path.{◌≡◌, refl}
use mathlib.Core.Bool.{Bool, true, false, ◌&&◌, and-false}
use mathlib.Core.List.{List}
use lib.ListN.{length}
use lib.Dec.{eqb, leb}
use borrow.Author.Tests.{eq-eqb, ne_eqb, eqb-true, eqb-false, le-leb, lt-ltb, le-ltb}
use Rattle.field.proofs.Choosing.{needed, needed_le}
use Rattle.path.proofs.Counting.{count_few}
use Rattle.list.specs.Lists.{numbers, over}
use Rattle.list.proofs.Entries.{length_numbers}
use Rattle.pull.specs.Pull.{nodes_most, blocks_most, Lent, lending, Result, result_in, lent_in_shape, refused_pull}
use Rattle.pull.proofs.Results.{block_room}
use Rattle.asking.specs.Pull.{result_of}
use Rattle.reader_state.specs.declared.At.{At}
use Rattle.reader_state.specs.Resume.{Memory, ending_by}
use Rattle.reader.specs.declared.Reader.{Reader}
use Rattle.reader.specs.Reading.{path_of, memory_in, seen_by}
use Rattle.reader_result.specs.Result.{names_in, start_by, list_fits, answer_fits, counts_fit_in, readable, numbers_of, bytes_by, read_out}

-- ---- a list's count
module _ (count most bytes : ℕ) (fits : list_fits count most bytes ≡ true) where
  list_most : count ≤ most
  list_most = needed_le (λ e. rw e refl) fits

  list_room : 4 * count ≤ bytes
  list_room =
      let inside : count ≤ bytes / 4 = needed_le (λ e. rw (e, and-false) refl) fits in
      omega arith

-- ---- a state that can be read, or can't
module _ (r : Reader) (lent : Lent) where
  -- the answer is there
  abbrev pub answered : Bool
  answered = eqb r.at.asks 0 && leb r.at.path_length 2048

  -- the memory and the counts fit
  abbrev counts_in : Bool
  counts_in = counts_fit_in r.at (length lent.nodes) (length lent.blocks)

  abbrev pub fitting : Bool
  fitting = lent_in_shape (names_in r) lent && counts_in

  -- by the count of its names, as the code goes
  pub fitting_counted : {k : ℕ} {shape counts : Bool} → k ≡ names_in r → shape ≡ lent_in_shape k lent → counts ≡ counts_in → fitting ≡ (shape && counts)
  fitting_counted n p q = rw (q, p, n)

  pub read_early : answered ≡ false → read_out r lent ≡ refused_pull 4 lent
  unfolding read_out readable
  read_early e = rw e

  module _ (there : answered ≡ true) where
    pub path_within : r.at.path_length ≤ 2048
    path_within = needed_le (λ e. rw (e, and-false) refl) there

    pub read_unfit : fitting ≡ false → read_out r lent ≡ refused_pull 4 lent
    unfolding read_out readable
    read_unfit e = rw (there, e)

    pub read_so : fitting ≡ true → read_out r lent ≡ result_of (ending_by r.at (memory_in r) (seen_by r.at r.nodes r.blocks)) lent
    unfolding read_out readable
    read_so e = rw (there, e)

  -- what is known then
  module _ (fits : fitting ≡ true) where
    pub block_length : length lent.block ≡ 4096
    block_length = block_room (names_in r) lent (needed (λ e. rw e refl) fits)

    counts_fit : counts_in ≡ true
    counts_fit = needed (λ e. rw (e, and-false) refl) fits

    nodes_fit_lem : list_fits r.at.node_count (nodes_most 8) (length lent.nodes) ≡ true
    unfolding counts_fit_in
    nodes_fit_lem = needed (λ e. rw e refl) counts_fit

    blocks_fit_lem : list_fits r.at.block_count (blocks_most 8) (length lent.blocks) ≡ true
    unfolding counts_fit_in
    blocks_fit_lem = needed (λ e. rw (e, and-false) refl) counts_fit

    pub nodes_inside : (r.at.node_count ≤ nodes_most 8) × (4 * r.at.node_count ≤ length lent.nodes)
    nodes_inside = (list_most _ _ _ nodes_fit_lem, list_room _ _ _ nodes_fit_lem)

    pub blocks_inside : (r.at.block_count ≤ blocks_most 8) × (4 * r.at.block_count ≤ length lent.blocks)
    blocks_inside = (list_most _ _ _ blocks_fit_lem, list_room _ _ _ blocks_fit_lem)

    pub bytes_inside : r.at.byte_count + start_by r.at.stage ≤ 4096
    unfolding counts_fit_in
    bytes_inside = needed_le (λ e. rw (e, and-false) refl) counts_fit

  -- an answer that lists no more than its names can is read, in memory of the shape that a pull takes
  pub read_in_shape : answered ≡ true → lent_in_shape (names_in r) lent ≡ true → r.at.node_count ≤ nodes_most (names_in r)
      → r.at.block_count ≤ blocks_most (names_in r) → r.at.byte_count + start_by r.at.stage ≤ 4096
      → answer_fits r.at.stage r.at.answer ≡ true → readable r lent ≡ true
  unfolding readable counts_fit_in lent_in_shape
  read_in_shape there shape n b h is =
      let few = count_few (path_of r) in
      let ns : nodes_most (names_in r) ≤ length lent.nodes / 4 = needed_le (λ e. rw (e, and-false) refl) shape in
      let bs : blocks_most (names_in r) ≤ length lent.blocks / 4 = needed_le (λ e. rw (e, and-false) refl) shape in
      rw (
        there,
        shape,
        le-leb r.at.node_count (nodes_most 8) (omega arith),
        le-leb r.at.node_count (length lent.nodes / 4) (omega arith),
        le-leb r.at.block_count (blocks_most 8) (omega arith),
        le-leb r.at.block_count (length lent.blocks / 4) (omega arith),
        le-leb (r.at.byte_count + start_by r.at.stage) 4096 h,
      )
      is

-- ---- an ending as numbers and memory

-- 0: a refusal
pub ending_refused : (at : At) (m : Memory) (nodes blocks : List ℕ) (lent : Lent) → at.stage ≡ 0
    → result_of (ending_by at m (seen_by at nodes blocks)) lent ≡ refused_pull at.answer lent
unfolding ending_by
ending_refused at m nodes blocks lent e = rw (eq-eqb _ _ e)

-- the others, with the lists written
module _ (at : At) (m : Memory) (nodes blocks : List ℕ) (lent : Lent) where
  abbrev pub read_as : Result
  read_as =
      result_in (numbers_of at)
      (lending (bytes_by at.stage at.byte_count m.held lent.block) (over (numbers nodes 0 at.node_count) lent.nodes)
      (over (numbers blocks 0 at.block_count) lent.blocks))

  pub ending_read : (at.stage ≡ 0 → ⊥) → read_as ≡ result_of (ending_by at m (seen_by at nodes blocks)) lent
  unfolding ending_by
  ending_read f = go (eqb at.stage 1) (eqb at.stage 2) (eqb at.stage 3) refl refl refl
    where
      some : eqb at.stage 0 ≡ false
      some = ne_eqb at.stage 0 f

      ns : length (numbers nodes 0 at.node_count) ≡ at.node_count
      ns = length_numbers nodes 0 at.node_count

      bs : length (numbers blocks 0 at.block_count) ≡ at.block_count
      bs = length_numbers blocks 0 at.block_count

      go : (a b c : Bool) → eqb at.stage 1 ≡ a → eqb at.stage 2 ≡ b → eqb at.stage 3 ≡ c
          → read_as ≡ result_of (ending_by at m (seen_by at nodes blocks)) lent
      go true b c p q r = rw (some, p, ns, bs)
      go false true c p q r = rw (some, p, q, ns, bs)
      go false false true p q r =
          let three = eqb-true at.stage 3 r in
          rw (some, p, q, r, le-ltb 3 at.stage (omega arith), ns, bs)
      go false false false p q r =
          let one = eqb-false at.stage 1 p in
          let two = eqb-false at.stage 2 q in
          let three = eqb-false at.stage 3 r in
          rw (some, p, q, r, lt-ltb 3 at.stage (omega arith), ns, bs)
