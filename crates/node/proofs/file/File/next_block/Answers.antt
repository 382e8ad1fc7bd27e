-- `next_block` meets its contract: the leaf of the index, the block whose address stands in it, and the leaf with the next address.
use Rattle.std.proofs.Common.{arith, refl}
use Rattle.std.proofs.lemmas.Result.{err_from_is_err_and}
use Rattle.node.proofs.Keeping.{leaf_offset, leaf_next, leaf_fits, rest_fits, block_stopped, block_walked}
use Rattle.node.proofs.file.File.next_block.Goals as goal

pub leaf_of-requires-clause-fits : goal.leaf_of-requires-clause-fits
leaf_of-requires-clause-fits c = leaf_fits c.args.self _ c.requires.fits

pub returns-in_err-leaf-clause-walked : goal.returns-in_err-leaf-clause-walked
returns-in_err-leaf-clause-walked c =
    let p = err_from_is_err_and c.from_residual.result c.from_residual.ensures.1 in
    rw (p.1, p.2) (block_stopped c.args.self _ c.requires.fits c.in_err-leaf.ensures.walked refl)

pub overflow_add-kept : goal.overflow_add-kept
overflow_add-kept c =
    let within = leaf_offset c.in_ok-leaf.ensures.leaf_of c.args.self.file_in.1 in
    omega arith

pub data-requires : goal.data-requires
data-requires c =
    let leaf = c.in_ok-leaf.ensures.leaf_of in
    record {
      fits = rest_fits c.args.self _ c.requires.fits leaf c.in_ok-leaf.ensures.walked;
      node_in = (leaf.inside, leaf_offset leaf c.args.self.file_in.1);
    }

pub returns-clause-walked : goal.returns-clause-walked
returns-clause-walked c =
    block_walked c.args.self _ c.requires.fits c.in_ok-leaf.ensures.leaf_of c.in_ok-leaf.ensures.walked c.data.ensures.walked

pub returns-clause-keeps : goal.returns-clause-keeps
returns-clause-keeps c =
    let leaf = c.in_ok-leaf.ensures.leaf_of in
    leaf_next leaf (rest_fits c.args.self _ c.requires.fits leaf c.in_ok-leaf.ensures.walked) c.data.ensures.walked
