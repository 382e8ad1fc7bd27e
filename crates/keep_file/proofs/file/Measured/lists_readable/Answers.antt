use Rattle.keep_file.proofs.ByNumbers.{lists_tested}
use Rattle.keep_file.proofs.file.Measured.lists_readable.Goals as goal

pub returns : goal.returns
returns c =
    lists_tested _ c.nodes-nodes.ensures c.blocks-blocks.ensures c.bounds.ensures c.is_rising.ensures c.are_answers.ensures
    c.is_rising-2.ensures c.all_in.ensures
