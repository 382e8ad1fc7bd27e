-- How long a keep file is at most: of a path of k names, with a room of `keep_most k` bytes the writer never answers 17.
use Prim.Native.Nat.{ℕ, ◌≤◌}
use native.Mathlib.Omega.{arith}
use mathlib.Core.Path.{◌≡◌}
use mathlib.Core.Bool.{true}
use mathlib.Core.List.{List}
use lib.ListN.{length}
use Rattle.field.specs.Card.{card_of}
use Rattle.checkpoint.specs.declared.Volume.{Volume}
use Rattle.checkpoint.specs.Volume.{VolumeIn}
use Rattle.checkpoint.proofs.Inside.{image_volume, refusals}
use Rattle.path.specs.Path.{part_count, is_path}
use Rattle.path.proofs.Lengths.{path_most}
use Rattle.pull.proofs.Theorems.{run_few}
use Rattle.keep.specs.Writing.{file_from, keep_most, Writing, keep_written}
use Rattle.keep.proofs.Kept.{keep_length}
use Rattle.keep.proofs.Ends.{WriteEnds, out_of_shape, refused, short, whole, ends}

pub keep_most_lem : (image : List ℕ) (v : Volume) (path : List ℕ) (index : ℕ) → VolumeIn (card_of image) v → is_path path ≡ true
    → length (file_from (card_of image) v path index) ≤ keep_most (part_count path)
keep_most_lem image v path index known is =
    let size = keep_length image v path index known in
    let few = run_few (card_of image) v path index in
    let bytes = path_most path is in
    omega arith

-- with that room no file is too long
pub never_short : (image path : List ℕ) (index : ℕ) (room : List ℕ) → keep_most (part_count path) ≤ length room
    → (keep_written image path index room).numbers.answer ≡ 17 → ⊥
never_short image path index room enough = go (ends image path index room)
  where
    go : {w : Writing} → WriteEnds image path index room w → w.numbers.answer ≡ 17 → ⊥
    go (out_of_shape s e) a = let n = rw e at a in omega arith
    go (refused answer s o e) a = let n = rw e at a in let few = refusals image answer o in omega arith
    go (short v p o l e) a = let most = keep_most_lem image v path index (image_volume image v o) p in omega arith
    go (whole v p o l e) a = let n = rw e at a in omega arith
