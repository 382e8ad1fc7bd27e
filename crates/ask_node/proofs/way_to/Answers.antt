-- `way_to` meets its contract: the way by the addresses that the inode holds.
use Prim.Native.Nat.{ℕ}
use mathlib.Core.Path.{ap, ◌∙◌}
use Rattle.place.specs.Place.{place_of}
use Rattle.place.specs.Way.{way_of, in_array}
use Rattle.inode.specs.Inode.{addresses_in}
use Rattle.ask_node.proofs.way_to.Goals as goal

pub returns : goal.returns
returns c =
    let index = c.args.index in
    let A = c.addresses_in.ensures.0 ∙ ap addresses_in c.inode_of-i.ensures in
    c.find_way.ensures ∙ ap (λ (a : ℕ). in_array (way_of (place_of a index))) A
