-- The pull is made over zeros of the room of eight names, and what it left is written.
use mathlib.Core.Path.{◌≡◌, sym, ap, subst, ◌∙◌}
use lib.ListN.{length, replicate, length-replicate}
use Prim.Native.Nat.{ℕ}
use Rattle.checkpoint.specs.OpenImage.{card_in}
use Rattle.pull.specs.Pull.{Result}
use Rattle.keep_file.specs.Keep.{Keep}
use Rattle.keep_file.specs.Layout.{layout}
use Rattle.keep.specs.Writing.{file_written}
use Rattle.keep.specs.Parts.{keep_found, Keepable}
use Rattle.keep.proofs.Calls.{eight_room, run_keepable, found_run}
use Rattle.keep.proofs.keep_opened.Goals as goal

-- the arrays that are lent
zeros_length : (n : ℕ) → length {A = ℕ} (replicate n 0) ≡ n
zeros_length n = length-replicate {A = ℕ} n 0

pub pull_opened-pulled-requires : goal.pull_opened-pulled-requires
pull_opened-pulled-requires c =
    let room = eight_room c.args.path.now _ c.requires (zeros_length 4096) (zeros_length 5616) (zeros_length 7476) in
    record { path_value = c.requires; blocks_value = room }

pub write_file-requires : goal.write_file-requires
write_file-requires c =
    let card = c.args.card in
    subst (λ (r : Result). Keepable (card_in card) card.volume c.args.path.now r) (sym c.pull_opened-pulled.ensures)
    (run_keepable card.image.now card.volume c.args.path.now c.args.index card.volume_in c.requires _ (zeros_length 4096))

pub returns : goal.returns
returns c =
    let card = c.args.card in
    let found = ap (keep_found (card_in card) card.volume c.args.path.now c.args.index) c.pull_opened-pulled.ensures in
    let kept = found_run card.image.now card.volume c.args.path.now c.args.index _ _ in
    c.write_file.ensures ∙ ap (λ (f : Keep). file_written (layout f) c.args.room.now) (found ∙ kept)
