use Rattle.std.proofs.Common.{sym, ◌∙◌}
use Rattle.superblock.proofs.Shaped.{shape_card}
use Rattle.superblock.proofs.shaped_image.ShapedImage.of.Goals as goal

pub invariant_of-result : goal.invariant_of-result
invariant_of-result c =
    record { in_shape = shape_card _ (sym c.in_shape.ensures ∙ c.if-not-in_shape.false) }
