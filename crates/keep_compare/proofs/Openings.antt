-- The order of the answers: what the file is, the new image's shape, its refusal, and what a file and an image that opens come to.
use mathlib.Core.Path.{◌≡◌, sym, ◌∙◌}
use mathlib.Core.Bool.{true, false}
use mathlib.Core.List.{List}
use Prim.Native.Nat.{ℕ}
use lib.ListN.{length}
use Rattle.field.specs.Card.{card_of}
use Rattle.superblock.specs.Shape.{in_shape}
use Rattle.checkpoint.specs.declared.Volume.{Volume}
use Rattle.checkpoint.specs.Volume.{Opened, Refused, opened_image}
use Rattle.checkpoint.proofs.Ways.{shape_opens}
use Rattle.checkpoint.proofs.Inside.{image_shaped}
use Rattle.compare.specs.Compare.{refused, verdict}
use Rattle.keep_file.specs.Keep.{Keep}
use Rattle.keep_file.specs.Reading.{unreadable, kept, read_keep}
use Rattle.keep_compare.specs.Compare.{keep_difference, keep_compared}

module _ (file fresh : List ℕ) where
  pub file_refused : read_keep file ≡ unreadable → keep_compared file fresh ≡ refused 18 0
  unfolding keep_compared
  file_refused e = rw e

  module _ {k : Keep} (read : read_keep file ≡ kept k) where
    pub shape_refused : in_shape (length fresh) ≡ false → keep_compared file fresh ≡ refused 4 0
    unfolding keep_compared
    shape_refused h = rw (read, h)

    pub fresh_refused_lem : in_shape (length fresh) ≡ true → (answer : ℕ) → opened_image fresh ≡ Refused answer → keep_compared file fresh ≡ refused answer 2
    unfolding keep_compared
    fresh_refused_lem h answer o = rw (read, h, sym (shape_opens fresh h) ∙ o)

    pub fresh_opened : (u : Volume) → opened_image fresh ≡ Opened u → keep_compared file fresh ≡ verdict (keep_difference k (card_of fresh) u)
    unfolding keep_compared
    fresh_opened u o = let h = image_shaped fresh u o in rw (read, h, sym (shape_opens fresh h) ∙ o)
