-- The code's answers as the definitions': a table that can be read stands for its card's volume, an error for its number.
use Rattle.std.specs.Prelude.{◌≡◌, List, ℕ, Result, Ok, Err}
use Rattle.answer.specs.declared.Refusal.{Refusal}
use Rattle.answer.specs.Number.{refusal_number}
use Rattle.checkpoint.specs.Volume.{Opening, Opened, Refused}
use Rattle.sit.specs.declared.segment_table.SegmentTable.{SegmentTable}

abbrev pub opening_of : Result SegmentTable Refusal → Opening
opening_of (Ok t) = Opened t.card.volume
opening_of (Err refusal) = Refused (refusal_number refusal)

-- an image that opened is the one that was given
abbrev pub IsOf : List ℕ → Result SegmentTable Refusal → Type 0
IsOf image (Ok t) = t.card.image.now ≡ image
IsOf image (Err refusal) = Unit {0}
