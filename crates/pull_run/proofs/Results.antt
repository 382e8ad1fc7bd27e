-- From the walk of a run over lent lists to its result: every number and every lent byte. Then the call's shape, taken apart.
use Prim.Native.Nat.{ℕ, zero, suc, ◌*◌, ◌/◌, ◌≤◌, ◌<◌}
use native.Mathlib.Omega.{arith}
use mathlib.Core.Path.{◌≡◌, refl, sym, ap, subst, ◌∙◌}
use mathlib.Core.Bool.{Bool, true, false, not, ◌&&◌, and-false}
use mathlib.Core.List.{List}
use lib.ListN.{length, get_or}
use lib.Dec.{eqb}
use Rattle.field.specs.Card.{Card, card_of}
use Rattle.field.proofs.Choosing.{needed, needed_eq, needed_le}
use Rattle.superblock.specs.Shape.{in_shape}
use Rattle.checkpoint.specs.declared.Volume.{Volume}
use Rattle.checkpoint.specs.Volume.{Opening, opened_image}
use Rattle.path.specs.Path.{part_count, is_path, name_count}
use Rattle.path.proofs.Counting.{count_parts, count_some}
use Rattle.walk.specs.Walk.{Counts, view_of, empty, Ran, run, lists, none, Fits}
use Rattle.walk.proofs.Fits.{fits_few}
use Rattle.walk.proofs.Written.{left_value, left_counts, left_nodes, left_blocks}
use Rattle.node.specs.Node.{bounds_of}
use Rattle.pull.specs.Pull.{Lent, lending}
use Rattle.file_run.specs.Standing.{Standing, last_count, standing_over, FilledAs}
use Rattle.file_run.specs.Walks.{RoomFor}
use Rattle.pull_run.specs.Run.{wanted_most, run_nodes_most, run_blocks_most, run_in_shape, run_call_in_shape, run_pulls, run_result, refused_run}
use Rattle.pull_run.specs.Run.{run_written, run_pulled_from, run_pulled}
use Rattle.pull_run.specs.Walk.{run_walk}
use Rattle.pull_run.proofs.Pulls.{run_is, run_once}
use Rattle.pull_run.proofs.Sizes.{run_few}

-- ---- the lent memory
module _ (k wanted : ℕ) (lent : Lent) (h : run_in_shape k wanted lent ≡ true) where
  pub some_wanted : 1 ≤ wanted
  unfolding run_in_shape
  some_wanted = needed_le (λ e. rw e refl) h

  pub few_wanted : wanted ≤ wanted_most
  unfolding run_in_shape
  few_wanted = needed_le (λ e. rw (e, and-false) refl) h

  pub buffer_whole : length lent.block ≡ 4096 * wanted
  unfolding run_in_shape
  buffer_whole = needed_eq (λ e. rw (e, and-false) refl) h

  pub nodes_fit_lem : run_nodes_most k ≤ length lent.nodes / 4
  unfolding run_in_shape
  nodes_fit_lem = needed_le (λ e. rw (e, and-false) refl) h

  pub blocks_fit_lem : run_blocks_most k ≤ length lent.blocks / 4
  unfolding run_in_shape
  blocks_fit_lem = needed_le (λ e. rw (e, and-false) refl) h

  -- a buffer of those bytes
  pub room_for : (buffer : List ℕ) → buffer ≡ lent.block → RoomFor wanted buffer
  room_for buffer is =
      let whole = buffer_whole in
      let same = ap length is in
      record { some = some_wanted; few = few_wanted; room = omega arith }

-- ---- what a run lists
-- "With k names the lists need room for 175k + 6 and 233k + 518"
pub pulls_few : (card : Card) (v : Volume) (path : List ℕ) (index wanted : ℕ) → wanted ≤ wanted_most
    → (length (run_pulls card v path index wanted).seen.nodes ≤ run_nodes_most (part_count path))
    × (length (run_pulls card v path index wanted).seen.blocks ≤ run_blocks_most (part_count path))
pulls_few card v path index wanted few = rw (run_is card v path index wanted) (run_few (view_of card v) (bounds_of v) path index wanted few)

module _ (card : Card) (v : Volume) (path : List ℕ) (index wanted : ℕ) (some : 1 ≤ wanted) where
  -- the walk that the code makes is the run of the definition
  pub walk_is : run_pulls card v path index wanted ≡ run (view_of card v) empty (run_walk (bounds_of v) path wanted index)
  walk_is = go wanted some
    where
      go : (n : ℕ) → 1 ≤ n → run_pulls card v path index n ≡ run (view_of card v) empty (run_walk (bounds_of v) path n index)
      go zero l = absurd (omega arith)
      go (suc n) l = run_once card v path index n

  walk_few : wanted ≤ wanted_most
      → (length (run (view_of card v) empty (run_walk (bounds_of v) path wanted index)).seen.nodes ≤ run_nodes_most (part_count path))
      × (length (run (view_of card v) empty (run_walk (bounds_of v) path wanted index)).seen.blocks ≤ run_blocks_most (part_count path))
  walk_few few =
      subst (λ (r : Ran Standing). (length r.seen.nodes ≤ run_nodes_most (part_count path)) × (length r.seen.blocks ≤ run_blocks_most (part_count path)))
      walk_is (pulls_few card v path index wanted few)

module _ (card : Card) (v : Volume) (path : List ℕ) (index wanted : ℕ) (lent : Lent) (shape : run_in_shape (part_count path) wanted lent ≡ true) where
  -- so every run fits, begun with empty lists
  pub run_fits : Fits (view_of card v) (run_walk (bounds_of v) path wanted index) (lists lent.nodes lent.blocks none)
  run_fits =
      let n = nodes_fit_lem (part_count path) wanted lent shape in
      let b = blocks_fit_lem (part_count path) wanted lent shape in
      let most = walk_few card v path index wanted (some_wanted (part_count path) wanted lent shape) (few_wanted (part_count path) wanted lent shape) in
      fits_few (view_of card v) most (omega arith) (omega arith)

  -- ---- what it leaves
  module _ {nodes blocks : List ℕ} {counts : Counts} {answer count bytes : ℕ} {buffer : List ℕ}
      (filled : FilledAs (view_of card v) (run_walk (bounds_of v) path wanted index) (lists lent.nodes lent.blocks none) answer count bytes
      (lists nodes blocks counts) lent.block buffer) where
    pub run_counts : (counts.nodes ≤ run_nodes_most (part_count path)) × (counts.blocks ≤ run_blocks_most (part_count path))
    run_counts =
        let both = left_counts filled.walked in
        let most = walk_few card v path index wanted (some_wanted (part_count path) wanted lent shape) (few_wanted (part_count path) wanted lent shape) in
        (omega arith, omega arith)

    pub run_written_lem : {answer' : ℕ} {buffer' nodes' blocks' : List ℕ} → answer' ≡ answer → buffer' ≡ buffer → nodes' ≡ nodes → blocks' ≡ blocks
        → ((k : ℕ) → get_or nodes' k 0 < 256) → ((k : ℕ) → get_or blocks' k 0 < 256)
        → run_result (record { answer = answer'; count = count; byte_count = bytes; node_count = counts.nodes; block_count = counts.blocks })
        (lending buffer' nodes' blocks') ≡ run_written (run_pulls card v path index wanted) lent
    run_written_lem p q m n f g =
        let left = filled.walked in
        let value = left_value left in
        let both = left_counts left in
        let ns = m ∙ left_nodes left run_fits (λ k. rw m at (f k)) in
        let bs = n ∙ left_blocks left run_fits (λ k. rw n at (g k)) in
        let stand = ap (λ (o : Standing). o.stand) value in
        let a = p ∙ ap (λ (o : Standing). o.answer) value in
        let c = sym filled.many ∙ ap length stand in
        let l = filled.last ∙ ap last_count stand in
        let w = q ∙ filled.wrote ∙ ap (λ (s : List _). standing_over s lent.block) stand in
        (λ i. record {
          numbers = record { answer = a i; count = c i; byte_count = l i; node_count = both.0 i; block_count = both.1 i };
          memory = record { block = w i; nodes = ns i; blocks = bs i };
        })
        ∙ ap (λ (r : Ran Standing). run_written r lent) (sym (walk_is card v path index wanted (some_wanted (part_count path) wanted lent shape)))

-- ---- the call
module _ (image path : List ℕ) (index wanted : ℕ) (lent : Lent) where
  pub run_refused : run_call_in_shape image path wanted lent ≡ false → run_pulled image path index wanted lent ≡ refused_run 4 lent
  unfolding run_pulled
  run_refused e = rw e

  pub run_opens : (opening : Opening) → run_call_in_shape image path wanted lent ≡ true → opened_image image ≡ opening
      → run_pulled image path index wanted lent ≡ run_pulled_from (card_of image) opening path index wanted lent
  unfolding run_pulled
  run_opens opening e o = rw (e, o)

  -- its parts
  pub run_image_shape : run_call_in_shape image path wanted lent ≡ true → in_shape (length image) ≡ true
  unfolding run_call_in_shape
  run_image_shape = needed (λ e. rw e refl)

  pub run_path_shape : run_call_in_shape image path wanted lent ≡ true → is_path path ≡ true
  unfolding run_call_in_shape
  run_path_shape = needed (λ e. rw (e, and-false) refl)

  pub run_lent_shape : run_call_in_shape image path wanted lent ≡ true → run_in_shape (part_count path) wanted lent ≡ true
  unfolding run_call_in_shape
  run_lent_shape = needed (λ e. rw (e, and-false) refl)

  pub run_call_shape : in_shape (length image) ≡ true → is_path path ≡ true → run_in_shape (part_count path) wanted lent ≡ true
      → run_call_in_shape image path wanted lent ≡ true
  unfolding run_call_in_shape
  run_call_shape p q r = rw (p, q, r)

  -- by the count of its names, as the code goes
  pub counted_run_shape : {k : ℕ} {imaged lending : Bool} → k ≡ name_count path → imaged ≡ in_shape (length image) → lending ≡ run_in_shape k wanted lent
      → run_call_in_shape image path wanted lent ≡ (imaged && not (eqb k 0) && lending)
  unfolding run_call_in_shape
  counted_run_shape n p q = rw (p, q, n) (go (is_path path) refl)
    where
      go : (t : Bool) → is_path path ≡ t → (in_shape (length image) && is_path path && run_in_shape (part_count path) wanted lent)
          ≡ (in_shape (length image) && not (eqb (name_count path) 0) && run_in_shape (name_count path) wanted lent)
      go true e = rw (count_some path, count_parts path e)
      go false e = rw (count_some path, e, and-false)
