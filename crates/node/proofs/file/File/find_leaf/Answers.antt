-- `find_leaf` meets its contract: the place of the index, its way, and the leaf at the end of it.
use Rattle.std.proofs.Common.{◌≡◌, refl, arith, sym, ap, subst, ◌∙◌}
use Rattle.std.proofs.lemmas.Result.{err_from_is_err_and}
use Rattle.place.specs.declared.Place.{Place}
use Rattle.place.specs.declared.Way.{Way}
use Rattle.place.specs.Place.{place_of, SlotsIn, NodesIn}
use Rattle.place.specs.Way.{way_of, in_array}
use Rattle.place.proofs.Inverse.{slots_in, nodes_in_lem}
use Rattle.place.proofs.Ways.{way_few, way_node_slots, way_inode_slot, way_number_slot}
use Rattle.walk.specs.Walk.{ok, Walked}
use Rattle.walk.specs.Lent.{view_in, lent}
use Rattle.walk.proofs.Reached.{Reached, reached_start, reached_to, reached_done, reached_all}
use Rattle.walk.proofs.Fits.{fits_at}
use Rattle.node.specs.Block.{hole}
use Rattle.node.specs.Leaf.{address_at, addresses_end, file_way_walk, file_leaf_walk}
use Rattle.node.proofs.Cases.{leaf_none, leaf_nodes}
use Rattle.node.proofs.Keeping.{none_past, leaf_new}
use Rattle.node.proofs.file.File.find_leaf.Goals as goal
use Rattle.node.proofs.file.File.find_leaf.Goals.{After-way_to-way, Then-way-eq0, Else-way-eq0}

-- the way is the index's
found : (k : After-way_to-way) → let a = k.args in k.way_to-way.result ≡ in_array (way_of (place_of a.self.addresses a.index))
found k = k.way_to-way.ensures ∙ ap (λ (p : Place). in_array (way_of p)) k.find_place-p.ensures

-- there is none
none_walked : (k : Then-way-eq0) → let a = k.args in
    Walked (view_in a.self.card) (file_leaf_walk a.self a.index) (lent a.seen.now) (ok hole) (lent a.seen.now)
none_walked k =
    let way = k.way_to-way.ensures ∙ ap (λ (p : Place). in_array (way_of p)) k.find_place-p.ensures in
    reached_done (reached_to (reached_start _ _ _) (leaf_none _ _ _ _ _ way k.if-way-eq0.true))

-- there is one
to_nodes : (k : Else-way-eq0) → let a = k.args in
    Reached (view_in a.self.card) (file_leaf_walk a.self a.index) (lent a.seen.now) (file_way_walk a.self k.way_to-way.result) (lent a.seen.now)
to_nodes k =
    let way = k.way_to-way.ensures ∙ ap (λ (p : Place). in_array (way_of p)) k.find_place-p.ensures in
    reached_to (reached_start _ _ _) (leaf_nodes _ _ _ _ _ way k.if-way-eq0.false)

pub address_span-at-requires : goal.address_span-at-requires
address_span-at-requires c =
    (subst (SlotsIn c.args.self.addresses) (sym c.find_place-p.ensures) (slots_in _ _), c.args.self.file_in.1)

pub way_to-way-requires : goal.way_to-way-requires
way_to-way-requires c =
    subst NodesIn (sym c.find_place-p.ensures) (nodes_in_lem _ _)

pub returns-then-way-eq0-clause-walked : goal.returns-then-way-eq0-clause-walked
returns-then-way-eq0-clause-walked c = rw c.no_leaf.ensures (none_walked (goal.at.returns-then-way-eq0-clause-walked c).Then-way-eq0)

pub returns-then-way-eq0-clause-leaf_of : goal.returns-then-way-eq0-clause-leaf_of
returns-then-way-eq0-clause-leaf_of c =
    let A = c.args.self.addresses in
    let way = found (goal.at.returns-then-way-eq0-clause-leaf_of c).After-way_to-way in
    let past = none_past A (place_of A c.args.index) (sym (ap (λ (w : Way). w.count) way) ∙ c.if-way-eq0.true) in
    rw c.no_leaf.ensures (leaf_new c.requires.fits past.0 past.1 tt (none_walked (goal.at.returns-then-way-eq0-clause-leaf_of c).Then-way-eq0))

pub follow-requires-clause-fits : goal.follow-requires-clause-fits
follow-requires-clause-fits c = fits_at c.requires.fits (to_nodes (goal.at.follow-requires-clause-fits c).Else-way-eq0)

pub follow-requires-clause-way_in : goal.follow-requires-clause-way_in
follow-requires-clause-way_in c =
    let way = found (goal.at.follow-requires-clause-way_in c).After-way_to-way in
    let few = way_few _ _ way in
    let low = way_inode_slot _ _ way in
    let most = c.args.self.file_in.1 in
    let some = c.if-way-eq0.false in
    record {
      some = omega arith;
      few = few.0;
      whole = few.1;
      first = omega arith;
      number = way_number_slot _ _ way;
      slots = way_node_slots _ _ way;
    }

pub returns-in_err-node-clause-walked : goal.returns-in_err-node-clause-walked
returns-in_err-node-clause-walked c =
    let p = err_from_is_err_and c.from_residual.result c.from_residual.ensures.1 in
    rw (p.1, p.2) (reached_all (to_nodes (goal.at.returns-in_err-node-clause-walked c).Else-way-eq0) c.in_err-node.ensures.walked)

-- a walk that stopped is known by its answer alone
pub returns-in_err-node-clause-leaf_of : goal.returns-in_err-node-clause-leaf_of
returns-in_err-node-clause-leaf_of c =
    let p = err_from_is_err_and c.from_residual.result c.from_residual.ensures.1 in
    let walked = reached_all (to_nodes (goal.at.returns-in_err-node-clause-leaf_of c).Else-way-eq0) c.in_err-node.ensures.walked in
    rw (p.1, p.2) (leaf_new c.requires.fits refl refl tt walked)

pub returns-clause-walked : goal.returns-clause-walked
returns-clause-walked c = reached_all (to_nodes (goal.at.returns-clause-walked c).Else-way-eq0) c.in_ok-node.ensures.walked

pub returns-clause-leaf_of : goal.returns-clause-leaf_of
returns-clause-leaf_of c =
    let place = c.find_place-p.ensures in
    let at_is = c.address_span-at.ensures.0 ∙ ap address_at place in
    let end_is = c.address_span-at.ensures.1 ∙ ap (addresses_end c.args.self.addresses) place in
    let walked = reached_all (to_nodes (goal.at.returns-clause-leaf_of c).Else-way-eq0) c.in_ok-node.ensures.walked in
    leaf_new c.requires.fits at_is end_is c.in_ok-node.ensures.data_in walked
