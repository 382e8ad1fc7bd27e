-- The steps of K6's theorems: what a writer that answered 0 wrote, that reading takes it, and that it compares as the image does.
use Prim.Native.Nat.{ℕ, ◌≤◌}
use native.Mathlib.Omega.{arith}
use mathlib.Core.Path.{◌≡◌, refl, sym, ap, ap₂, ◌∙◌}
use mathlib.Core.Bool.{true}
use mathlib.Core.Logic.{◌⊎◌, inl, inr}
use mathlib.Core.List.{List, []}
use lib.ListN.{length, drop, length-append}
use lib.Seq.{take-append_seam}
use Rattle.field.specs.Card.{card_of}
use Rattle.checkpoint.specs.declared.Volume.{Volume}
use Rattle.checkpoint.specs.Volume.{Opened, opened_image}
use Rattle.checkpoint.proofs.Inside.{refusals}
use Rattle.nat.specs.Table.{OutOfRange}
use Rattle.walk.specs.Walk.{view_of, Ran, Outcome}
use Rattle.node.specs.Node.{bounds_of}
use Rattle.path.specs.Path.{is_path}
use Rattle.pull.specs.Walk.{Block}
use Rattle.pull.specs.Pull.{Lent, lending, written, pull_run}
use Rattle.pull.proofs.Theorems.{run_ended}
use Rattle.pull_again.proofs.Steps.{nodes_left_lem, blocks_left_lem, same_written}
use Rattle.compare.specs.Difference.{difference}
use Rattle.compare.proofs.Differences.{kept_alike}
use Rattle.keep_file.specs.Keep.{Keep, kept_view}
use Rattle.keep_file.proofs.Found.{found_by}
use Rattle.keep.specs.Writing.{zeros, keep_run, keep_of, file_from, Writing, keep_written}
use Rattle.keep.proofs.Kept.{kept_nodes, kept_blocks}
use Rattle.keep.proofs.Ends.{WriteEnds, out_of_shape, refused, short, whole, ends}
use Rattle.keep_compare.specs.Compare.{keep_difference}
use Rattle.keep_again.specs.Demand.{file_of, GivesKept}

-- ---- what was written
pub record Wrote (image path : List ℕ) (index : ℕ) (room : List ℕ) : Type 0 where
  pub v : Volume
  pub opens : opened_image image ≡ Opened v
  pub is : is_path path ≡ true
  pub file : file_of (keep_written image path index room) ≡ file_from (card_of image) v path index

-- an answer 0 comes from an image that opened, with all of the file in the room
pub answered_wrote : (image path : List ℕ) (index : ℕ) (room : List ℕ) → (keep_written image path index room).numbers.answer ≡ 0 → Wrote image path index room
answered_wrote image path index room = go refl (ends image path index room)
  where
    go : {w : Writing} → keep_written image path index room ≡ w → WriteEnds image path index room w
        → (keep_written image path index room).numbers.answer ≡ 0 → Wrote image path index room
    go f (out_of_shape s e) a = let n = rw (f ∙ e) at a in absurd (omega arith)
    go f (refused answer s o e) a = let n = rw (f ∙ e) at a in let few = refusals image answer o in absurd (omega arith)
    go f (short v p o l e) a = let n = rw (f ∙ e) at a in absurd (omega arith)
    go f (whole v p o l e) a = record {
      v = v;
      opens = o;
      is = p;
      file = ap file_of (f ∙ e) ∙ take-append_seam (file_from (card_of image) v path index) _;
    }

-- the file lies in the room, whatever was answered
pub file_inside : {image path : List ℕ} {index : ℕ} {room : List ℕ} {w : Writing} → WriteEnds image path index room w → w.numbers.length ≤ length w.room
file_inside (out_of_shape s e) = rw e (omega arith)
file_inside (refused answer s o e) = rw e (omega arith)
file_inside (short v p o l e) = rw e (omega arith)
file_inside {image} {path} {index} {room} (whole v p o l e) =
    let file : List ℕ = file_from (card_of image) v path index in
    rw e (omega (arith, length-append file (drop (length file) room)))

-- and after another answer there is none
pub no_file : {image path : List ℕ} {index : ℕ} {room : List ℕ} {w : Writing} → WriteEnds image path index room w
    → (w.numbers.answer ≡ 0) ⊎ (file_of w ≡ [])
no_file (out_of_shape s e) = inr (rw e refl)
no_file (refused answer s o e) = inr (rw e refl)
no_file (short v p o l e) = inr (rw e refl)
no_file (whole v p o l e) = inl (rw e refl)

-- ---- what is kept of an opened image
module _ (image : List ℕ) (v : Volume) (path : List ℕ) (index : ℕ) where
  abbrev runs : Ran (Outcome Block)
  runs = pull_run (card_of image) v path index

  abbrev keep : Keep
  keep = keep_of (card_of image) v path index

  -- the pull that was made gives it, whatever memory it is lent
  pub run_gives : (lent : Lent) → GivesKept keep (written runs lent)
  unfolding keep_run
  run_gives lent = record {
    answer = refl;
    count = refl;
    nodes = nodes_left_lem runs lent ∙ sym (kept_nodes image v path index);
    blocks = blocks_left_lem runs lent ∙ sym (kept_blocks image v path index);
    block = (same_written runs lent (lending zeros lent.nodes lent.blocks) (run_ended (card_of image) v path index)).block;
  }

  -- what is kept takes the image's place: it says the same of all that is listed
  pub difference_kept : (fresh : List ℕ) (u : Volume) → keep_difference keep (card_of fresh) u
      ≡ difference (bounds_of v) (bounds_of u) (view_of (card_of image) v) (view_of (card_of fresh) u) runs.seen.nodes runs.seen.blocks
  unfolding keep_difference keep_run
  difference_kept fresh u =
      ap₂ (difference (bounds_of v) (bounds_of u) (kept_view keep) (view_of (card_of fresh) u)) (kept_nodes image v path index) (kept_blocks image v path index)
      ∙ kept_alike (bounds_of v) (bounds_of u) (kept_view keep) (view_of (card_of image) v) (view_of (card_of fresh) u) runs.seen.nodes runs.seen.blocks
      (found_by OutOfRange (view_of (card_of image) v).table runs.seen.nodes)
      (found_by [] (view_of (card_of image) v).block runs.seen.blocks)
