use borrow.Author.Rules.{part_to_end}
use Rattle.sit.proofs.table_address.Goals as goal

pub returns : goal.returns
returns c =
    let bit = rw part_to_end at c.top_bit-bit.ensures in
    rw (← bit) c.copy_address.ensures
