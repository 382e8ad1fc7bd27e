-- A call of the writer, and the pull that it makes over the room of eight names.
use Prim.Native.Nat.{ℕ, ◌/◌}
use native.Mathlib.Omega.{arith}
use mathlib.Core.Path.{◌≡◌, refl}
use mathlib.Core.Bool.{Bool, true, false, not, ◌&&◌, and-false}
use mathlib.Core.List.{List}
use lib.ListN.{length}
use lib.Dec.{eqb}
use borrow.Author.Tests.{eq-eqb, le-leb}
use Rattle.field.specs.Card.{card_of}
use Rattle.field.proofs.Choosing.{needed}
use Rattle.superblock.specs.Shape.{in_shape}
use Rattle.checkpoint.specs.declared.Volume.{Volume}
use Rattle.checkpoint.specs.Volume.{Opening, opened_image, VolumeIn}
use Rattle.path.specs.Path.{part_count, is_path, name_count}
use Rattle.path.proofs.Counting.{parts_few, count_some}
use Rattle.path.proofs.Lengths.{path_most}
use Rattle.list.proofs.Rises.{all_map}
use Rattle.list.proofs.Written.{numbers_over, over_inside}
use Rattle.walk.specs.Walk.{Ran, Outcome}
use Rattle.node.proofs.Sizes.{in_card_lem}
use Rattle.pull.specs.Walk.{Block}
use Rattle.pull.specs.Pull.{nodes_most, blocks_most, Lent, lending, lent_in_shape, written, pull_run}
use Rattle.pull.proofs.Theorems.{run_few, run_inside}
use Rattle.keep.specs.Writing.{zeros, keep_run, keep_from, refused_keep, keep_written}
use Rattle.keep.specs.Parts.{keep_found, Keepable}
use Rattle.pull.proofs.Whole.{buffer_length}

-- ---- the call's shape
module _ (image path : List ℕ) (index : ℕ) (room : List ℕ) where
  pub call_refused : in_shape (length image) && is_path path ≡ false → keep_written image path index room ≡ refused_keep 4 room
  unfolding keep_written
  call_refused e = rw e

  pub call_opens : (opening : Opening) → in_shape (length image) && is_path path ≡ true → opened_image image ≡ opening
      → keep_written image path index room ≡ keep_from (card_of image) opening path index room
  unfolding keep_written
  call_opens opening e o = rw (e, o)

module _ (image path : List ℕ) where
  pub path_in_shape : in_shape (length image) && is_path path ≡ true → is_path path ≡ true
  path_in_shape = needed (λ e. rw (e, and-false) refl)

  -- by the count of its names, as the code goes
  pub counted_shape : {k : ℕ} {imaged : Bool} → k ≡ name_count path → imaged ≡ in_shape (length image)
      → in_shape (length image) && is_path path ≡ (imaged && not (eqb k 0))
  counted_shape n p = rw (p, n, count_some path)

-- ---- the pull

-- a path has at most eight names, so their room is enough
pub eight_room : (path : List ℕ) (lent : Lent) → is_path path ≡ true → length lent.block ≡ 4096 → length lent.nodes ≡ 5616 → length lent.blocks ≡ 7476
    → lent_in_shape (part_count path) lent ≡ true
unfolding lent_in_shape
eight_room path lent h b n m =
    let few = parts_few path h in
    let k = part_count path in
    rw (
      eq-eqb (length lent.block) 4096 b,
      le-leb (nodes_most k) (length lent.nodes / 4) (omega arith),
      le-leb (blocks_most k) (length lent.blocks / 4) (omega arith),
    )

module _ (image : List ℕ) (v : Volume) (path : List ℕ) (index : ℕ) where
  abbrev ran : Ran (Outcome Block)
  ran = pull_run (card_of image) v path index

  pub run_keepable : VolumeIn (card_of image) v → is_path path ≡ true → (lent : Lent) → length lent.block ≡ 4096
      → Keepable (card_of image) v path (written ran lent)
  run_keepable known h lent size =
      let few = run_few (card_of image) v path index in
      let names = parts_few path h in
      let bytes = path_most path h in
      let in_blocks = all_map (λ b i. in_card_lem b i known) ran.seen.blocks (run_inside (card_of image) v path index) in
      record {
        volume = known;
        whole = buffer_length image v known path index lent.block size;
        nodes_in = over_inside ran.seen.nodes lent.nodes;
        blocks_in = over_inside ran.seen.blocks lent.blocks;
        inside = rw (numbers_over ran.seen.blocks lent.blocks) in_blocks;
        fits = omega arith;
      }

  -- what the pull left is what its run gave
  pub found_run : (nodes blocks : List ℕ) → keep_found (card_of image) v path index (written ran (lending zeros nodes blocks))
      ≡ keep_run (card_of image) v path index ran
  unfolding keep_found keep_run
  found_run nodes blocks = rw (numbers_over ran.seen.nodes nodes, numbers_over ran.seen.blocks blocks)
