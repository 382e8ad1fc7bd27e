use mathlib.Core.Path.{subst, ◌∙◌}
use Rattle.field.specs.Card.{card_of}
use Rattle.field.proofs.Blocks.{length_of_block}
use Rattle.node.specs.Found.{BlockIn}
use Rattle.pull.proofs.FileBlock.put_into.Goals as goal

pub put_block-requires : goal.put_block-requires
put_block-requires c =
    let on_card = subst (BlockIn (card_of c.args.image.now)) c.in-Some.is c.requires.in_block.0 in
    (length_of_block _ _ on_card c.block_at.ensures, c.requires.in_block.1, c.requires.buffer_len)

pub returns-in-None : goal.returns-in-None
returns-in-None c =
    rw c.in-None.is (c.clear.ensures ∙ rw c.requires.buffer_len)
