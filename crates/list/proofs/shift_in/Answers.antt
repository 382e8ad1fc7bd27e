use Rattle.list.proofs.Entries.{shifted}
use Rattle.list.proofs.shift_in.Goals as goal

pub returns : goal.returns
returns c =
    let w = c.copy_within.ensures in
    shifted _ _ _ _ _ c.requires.0 c.requires.1 w.len w.after w.by_index.0 w.by_index.1 c.put32.ensures
