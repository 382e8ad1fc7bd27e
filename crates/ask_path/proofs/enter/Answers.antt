-- `enter` meets its contract: its move is that of an inode which is sought.
use mathlib.Core.Path.{◌≡◌, ap, ◌∙◌}
use Rattle.ask_node.specs.Wants.{kept_in, seek_wants}
use Rattle.ask_directory.specs.Left.{question}
use Rattle.ask_directory.specs.Move.{goes_on}
use Rattle.ask_path.proofs.Entering.{enter_moved, enter_in}
use Rattle.ask_path.proofs.enter.Goals as goal
use Rattle.ask_path.proofs.enter.Goals.{After-goes_on-goes}

goes : (c : After-goes_on-goes) → c.goes_on-goes.result ≡ goes_on 0 (seek_wants (kept_in c.args.kept) c.args.ino)
goes c = c.goes_on-goes.ensures ∙ ap (goes_on 0) c.seek-wants.ensures

pub returns : goal.returns
returns c =
    let t = kept_in c.args.kept in
    record {
      by_index = λ path index block seen. rw (goes c) (enter_moved (question t path index) c.args.ino c.args.name_at block seen);
      by_index_2 = λ path index block. rw (goes c) (enter_in t c.args.ino c.args.name_at path index block);
    }
