-- `data_block` meets its contract: the leaf of the index, and the block whose address stands in it.
use Rattle.std.proofs.Common.{refl}
use Rattle.std.proofs.lemmas.Result.{err_from_is_err_and}
use Rattle.node.proofs.Keeping.{leaf_offset, leaf_fits, rest_fits, block_stopped, block_walked}
use Rattle.node.proofs.file.File.data_block.Goals as goal

pub find_leaf-requires : goal.find_leaf-requires
find_leaf-requires c = record { fits = leaf_fits c.args.self _ c.requires.fits }

pub returns-in_err-find_leaf-clause-walked : goal.returns-in_err-find_leaf-clause-walked
returns-in_err-find_leaf-clause-walked c =
    let p = err_from_is_err_and c.from_residual.result c.from_residual.ensures.1 in
    rw (p.1, p.2) (block_stopped c.args.self _ c.requires.fits c.in_err-find_leaf.ensures.walked refl)

pub data-requires-clause-fits : goal.data-requires-clause-fits
data-requires-clause-fits c = rest_fits c.args.self _ c.requires.fits c.in_ok-find_leaf.ensures.leaf_of c.in_ok-find_leaf.ensures.walked

pub data-requires-clause-node_in : goal.data-requires-clause-node_in
data-requires-clause-node_in c =
    let found = c.in_ok-find_leaf.ensures.leaf_of in
    (found.inside, leaf_offset found c.args.self.file_in.1)

pub returns-clause-walked : goal.returns-clause-walked
returns-clause-walked c =
    block_walked c.args.self _ c.requires.fits c.in_ok-find_leaf.ensures.leaf_of c.in_ok-find_leaf.ensures.walked c.data.ensures.walked
