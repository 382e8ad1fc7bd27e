use Prim.Native.Nat.{◌*◌}
use native.Mathlib.Nat.{add-sub_cancel_left}
use Rattle.field.specs.Card.{block_of}
use Rattle.field.proofs.block_at.Goals as goal

pub returns : goal.returns
unfolding block_of
returns c = rw (add-sub_cancel_left (c.args.b * 4096) 4096)
