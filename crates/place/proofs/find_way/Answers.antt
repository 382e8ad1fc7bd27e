-- The place that was found has its nodes.
use mathlib.Core.Path.{subst, sym}
use Rattle.place.specs.Place.{NodesIn}
use Rattle.place.proofs.Inverse.{nodes_in_lem}
use Rattle.place.proofs.find_way.Goals as goal

pub way_to-requires : goal.way_to-requires
way_to-requires c = subst NodesIn (sym c.find_place.ensures) (nodes_in_lem _ _)
