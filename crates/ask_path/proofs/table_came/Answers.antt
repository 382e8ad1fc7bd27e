-- `table_came` meets its contract: what is wanted for the entry in the table's block.
use mathlib.Core.Path.{refl, sym, ap, ◌∙◌}
use Rattle.node.specs.Node.{bounds_of}
use Rattle.asking.specs.Table.{keeping}
use Rattle.ask_directory.specs.Left.{question}
use Rattle.ask_directory.specs.Move.{goes_on}
use Rattle.ask_path.proofs.Entering.{entry_moved, entry_is_node}
use Rattle.ask_path.proofs.table_came.Goals as goal

pub returns : goal.returns
returns c =
    let a = c.args in
    let said = sym c.table_entry.ensures in
    let goes = c.goes_on-goes.ensures ∙ ap (goes_on 0) c.from_entry-wants.ensures in
    record {
      by_index = λ first journal path index inode s.
          rw (said, goes) (entry_moved (question (keeping a.v first journal) path index) inode a.target a.spot s _ _);
      target_value = (refl, refl, rw goes (entry_is_node (bounds_of a.v) _ _));
    }
