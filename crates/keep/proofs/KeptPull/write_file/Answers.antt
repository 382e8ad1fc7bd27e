-- 17 if the file is longer than the room; else it is laid.
use native.Mathlib.Omega.{arith}
use mathlib.Core.Path.{◌≡◌, sym, ◌∙◌}
use mathlib.Core.List.{List}
use lib.ListN.{length}
use Prim.Native.Nat.{ℕ}
use Rattle.keep_file.specs.Layout.{layout}
use Rattle.keep.specs.Parts.{left_by, kept_from}
use Rattle.keep.proofs.Found.{found_length, room_short, room_enough}
use Rattle.keep.proofs.KeptPull.write_file.Goals as goal
use Rattle.keep.proofs.KeptPull.write_file.Goals.{After-file_end-end}

abbrev file_at : (k : After-file_end-end) → List ℕ
file_at k = layout (kept_from k.args.self)

-- its length is the end that was reckoned
file_size : (k : After-file_end-end) → length (file_at k) ≡ k.file_end-end.result
file_size k =
    let p = k.args.self in
    found_length p.card.image.now p.card.volume p.path.now p.index (left_by p) k.requires ∙ sym k.file_end-end.ensures

pub returns-then-room-end : goal.returns-then-room-end
returns-then-room-end c =
    let k = (goal.at.returns-then-room-end c).After-file_end-end in
    room_short (file_at k) c.args.room.now (file_size k) (omega (arith, c.if-room-end.true))

pub returns : goal.returns
returns c =
    let k = (goal.at.returns c).After-file_end-end in
    room_enough (file_at k) c.args.room.now (file_size k) (omega (arith, c.if-room-end.false)) c.put_file.ensures
