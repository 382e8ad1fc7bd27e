-- `copy_list` meets its contract: the bytes of so many numbers are laid at the front.
use native.Mathlib.Omega.{arith}
use mathlib.Core.Path.{sym, ◌∙◌}
use Rattle.reader_result.proofs.Copying.{front_length, copied}
use Rattle.reader_result.proofs.copy_list.Goals as goal

pub slice_bounds-put_bytes-end : goal.slice_bounds-put_bytes-end
slice_bounds-put_bytes-end c = sym (front_length c.args.from.now c.args.count c.requires.0)

pub put_bytes-requires : goal.put_bytes-requires
put_bytes-requires c =
    let size = front_length c.args.from.now c.args.count c.requires.0 in
    omega (arith, c.requires.1)

pub returns : goal.returns
returns c = c.put_bytes.ensures ∙ copied c.args.from.now c.args.count c.requires.0 (λ k. (c.type_inv.from k).fits) c.args.into.now
