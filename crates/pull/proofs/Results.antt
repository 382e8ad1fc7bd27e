-- From a walk over lent lists to a pull's result: every number and every lent byte. Then the call's shape, taken apart.
use Prim.Native.Nat.{ℕ, ◌/◌, ◌≤◌, ◌<◌}
use native.Mathlib.Omega.{arith}
use mathlib.Core.Path.{◌≡◌, refl, ap, ◌∙◌}
use mathlib.Core.Bool.{Bool, true, false, not, ◌&&◌, and-false}
use mathlib.Core.List.{List}
use lib.ListN.{length, get_or}
use lib.Dec.{eqb}
use Rattle.field.specs.Card.{Card, card_of}
use Rattle.field.proofs.Choosing.{needed, needed_eq, needed_le}
use Rattle.superblock.specs.Shape.{in_shape}
use Rattle.checkpoint.specs.declared.Volume.{Volume}
use Rattle.checkpoint.specs.Volume.{Opening, opened_image}
use Rattle.path.specs.Path.{part_count, is_path, name_count}
use Rattle.path.proofs.Counting.{count_parts, count_some}
use Rattle.walk.specs.Walk.{Counts, View, view_of, Ran, Outcome, lists, none, Walked, Fits}
use Rattle.walk.proofs.Fits.{fits_start}
use Rattle.walk.proofs.Written.{left_value, left_counts, left_nodes, left_blocks}
use Rattle.node.specs.Node.{Bounds, bounds_of}
use Rattle.pull.specs.Walk.{Block, pull_walk}
use Rattle.pull.specs.Pull.{nodes_most, blocks_most, Lent, lending, result_in, lent_in_shape, call_in_shape}
use Rattle.pull.specs.Pull.{answer_of, count_of, buffer_after, refused_pull, written, pull_run, pulled_from, pulled}
use Rattle.pull.proofs.Sizes.{pull_within}

-- ---- the lent memory
module _ (k : ℕ) (lent : Lent) (h : lent_in_shape k lent ≡ true) where
  pub block_room : length lent.block ≡ 4096
  unfolding lent_in_shape
  block_room = needed_eq (λ e. rw e refl) h

  nodes_fit_lem : nodes_most k ≤ length lent.nodes / 4
  unfolding lent_in_shape
  nodes_fit_lem = needed_le (λ e. rw (e, and-false) refl) h

  blocks_fit_lem : blocks_most k ≤ length lent.blocks / 4
  unfolding lent_in_shape
  blocks_fit_lem = needed_le (λ e. rw (e, and-false) refl) h

-- so every pull fits, begun with empty lists: this is where a walk's questions are counted
pub pull_fits : (path : List ℕ) (lent : Lent) → lent_in_shape (part_count path) lent ≡ true → (v : View) (m : Bounds) (index : ℕ)
    → Fits v (pull_walk m path index) (lists lent.nodes lent.blocks none)
pull_fits path lent h v m index =
    let n = nodes_fit_lem (part_count path) lent h in
    let b = blocks_fit_lem (part_count path) lent h in
    fits_start v (pull_within m path index) (omega arith) (omega arith)

-- ---- what a walk leaves
module _ (card : Card) (v : Volume) (path : List ℕ) (index : ℕ) (lent : Lent) (shape : lent_in_shape (part_count path) lent ≡ true)
    {nodes blocks : List ℕ} {counts : Counts} {x : Outcome Block}
    (left : Walked (view_of card v) (pull_walk (bounds_of v) path index) (lists lent.nodes lent.blocks none) x (lists nodes blocks counts)) where
  pub pull_written : {nodes' blocks' : List ℕ} → nodes' ≡ nodes → blocks' ≡ blocks → ((k : ℕ) → get_or nodes' k 0 < 256) → ((k : ℕ) → get_or blocks' k 0 < 256)
      → {block : List ℕ} {answer count : ℕ} → answer ≡ answer_of x → count ≡ count_of x → block ≡ buffer_after x lent.block
      → result_in (record { answer = answer; byte_count = count; node_count = counts.nodes; block_count = counts.blocks })
      (lending block nodes' blocks') ≡ written (pull_run card v path index) lent
  unfolding pull_run
  pull_written m n f g {block} {answer} {count} p q r =
      let value = left_value left in
      let both = left_counts left in
      let fits = pull_fits path lent shape (view_of card v) (bounds_of v) index in
      let ns = m ∙ left_nodes left fits (λ k. rw m at (f k)) in
      let bs = n ∙ left_blocks left fits (λ k. rw n at (g k)) in
      let a = p ∙ ap answer_of value in
      let c = q ∙ ap count_of value in
      let d = r ∙ ap (λ (o : Outcome Block). buffer_after o lent.block) value in
      λ i. record {
        numbers = record { answer = a i; byte_count = c i; node_count = both.0 i; block_count = both.1 i };
        memory = record { block = d i; nodes = ns i; blocks = bs i };
      }

-- ---- two walks that come to the same, written
pub write : {r q : Ran (Outcome Block)} (lent : Lent) → r ≡ q → written r lent ≡ written q lent
write lent e = ap (λ (r : Ran (Outcome Block)). written r lent) e

-- ---- the call
module _ (image path : List ℕ) (index : ℕ) (lent : Lent) where
  pub call_refused : call_in_shape image path lent ≡ false → pulled image path index lent ≡ refused_pull 4 lent
  unfolding pulled
  call_refused e = rw e

  pub call_opens : (opening : Opening) → call_in_shape image path lent ≡ true → opened_image image ≡ opening
      → pulled image path index lent ≡ pulled_from (card_of image) opening path index lent
  unfolding pulled
  call_opens opening e o = rw (e, o)

  -- two of its three parts
  pub path_in_shape : call_in_shape image path lent ≡ true → is_path path ≡ true
  unfolding call_in_shape
  path_in_shape = needed (λ e. rw (e, and-false) refl)

  pub lent_shape : call_in_shape image path lent ≡ true → lent_in_shape (part_count path) lent ≡ true
  unfolding call_in_shape
  lent_shape = needed (λ e. rw (e, and-false) refl)

  pub call_in_shape_lem : in_shape (length image) ≡ true → is_path path ≡ true → lent_in_shape (part_count path) lent ≡ true → call_in_shape image path lent
      ≡ true
  unfolding call_in_shape
  call_in_shape_lem p q r = rw (p, q, r)

  -- by the count of its names, as the code goes
  pub counted_shape : {k : ℕ} {imaged lending : Bool} → k ≡ name_count path → imaged ≡ in_shape (length image) → lending ≡ lent_in_shape k lent
      → call_in_shape image path lent ≡ (imaged && not (eqb k 0) && lending)
  unfolding call_in_shape
  counted_shape n p q = rw (p, q, n) (go (is_path path) refl)
    where
      go : (t : Bool) → is_path path ≡ t → (in_shape (length image) && is_path path && lent_in_shape (part_count path) lent)
          ≡ (in_shape (length image) && not (eqb (name_count path) 0) && lent_in_shape (name_count path) lent)
      go true e = rw (count_some path, count_parts path e)
      go false e = rw (count_some path, e, and-false)
