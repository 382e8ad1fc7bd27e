-- How every call of the writer ends, each with its cause: out of shape, refused by opening, short of room, or with the whole file written.
use Prim.Native.Nat.{ℕ, ◌≤◌, ◌<◌}
use mathlib.Core.Path.{◌≡◌, refl, sym, ◌∙◌}
use mathlib.Core.Bool.{Bool, true, false, ◌&&◌}
use mathlib.Core.List.{List, ◌++◌}
use lib.ListN.{length, drop}
use lib.Dec.{leb}
use borrow.Author.Tests.{leb-true, leb-false}
use Rattle.field.specs.Card.{card_of}
use Rattle.superblock.specs.Shape.{in_shape}
use Rattle.checkpoint.specs.declared.Volume.{Volume}
use Rattle.checkpoint.specs.Volume.{Opening, Opened, Refused, opened_image}
use Rattle.path.specs.Path.{is_path}
use Rattle.keep.specs.Writing.{file_from, Writing, writing, refused_keep, file_written, keep_written}
use Rattle.keep.proofs.Found.{room_fits, room_short}
use Rattle.keep.proofs.Calls.{call_refused, call_opens, path_in_shape}

pub data WriteEnds (image path : List ℕ) (index : ℕ) (room : List ℕ) (w : Writing) : Type 0 where
  -- "4 to 8 come first and nothing is written"
  out_of_shape : in_shape (length image) && is_path path ≡ false → w ≡ refused_keep 4 room → WriteEnds image path index room w
  refused : (answer : ℕ) → in_shape (length image) && is_path path ≡ true → opened_image image ≡ Refused answer → w ≡ refused_keep answer room
      → WriteEnds image path index room w
  -- "The lent room is refused as too small exactly if the file doesn't fit, with 17, and then nothing is written"
  short : (v : Volume) → is_path path ≡ true → opened_image image ≡ Opened v → length room < length (file_from (card_of image) v path index)
      → w ≡ refused_keep 17 room → WriteEnds image path index room w
  -- "else it answers 0 with the length, and later bytes stay"
  whole : (v : Volume) → is_path path ≡ true → opened_image image ≡ Opened v → length (file_from (card_of image) v path index) ≤ length room
      → w ≡ writing (record { answer = 0; length = length (file_from (card_of image) v path index) })
      (file_from (card_of image) v path index ++ drop (length (file_from (card_of image) v path index)) room) → WriteEnds image path index room w

pub ends : (image path : List ℕ) (index : ℕ) (room : List ℕ) → WriteEnds image path index room (keep_written image path index room)
ends image path index room = go (in_shape (length image) && is_path path) refl (opened_image image) refl
  where
    opens : (v : Volume) → is_path path ≡ true → opened_image image ≡ Opened v
        → keep_written image path index room ≡ file_written (file_from (card_of image) v path index) room
        → WriteEnds image path index room (keep_written image path index room)
    opens v p o w = fits (leb (length (file_from (card_of image) v path index)) (length room)) refl
      where
        fits : (b : Bool) → leb (length (file_from (card_of image) v path index)) (length room) ≡ b
            → WriteEnds image path index room (keep_written image path index room)
        fits true e = let l = leb-true _ _ e in whole v p o l (w ∙ room_fits (file_from (card_of image) v path index) room l)
        fits false e = let l = leb-false _ _ e in short v p o l (w ∙ sym (room_short (file_from (card_of image) v path index) room refl l))

    go : (b : Bool) → in_shape (length image) && is_path path ≡ b → (o : Opening) → opened_image image ≡ o
        → WriteEnds image path index room (keep_written image path index room)
    go false e o f = out_of_shape e (call_refused image path index room e)
    go true e (Refused answer) f = refused answer e f (call_opens image path index room (Refused answer) e f)
    go true e (Opened v) f = opens v (path_in_shape image path e) f (call_opens image path index room (Opened v) e f)
