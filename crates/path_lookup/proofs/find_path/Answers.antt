-- `find_path` meets its contract.
use native.Mathlib.Omega.{arith}
use mathlib.Core.Path.{refl}
use Rattle.std.proofs.lemmas.Result.{err_from_is_err_and}
use Rattle.walk.proofs.Same.{same_refl, same_trans}
use Rattle.path_lookup.proofs.Turns.{names_start, name_inside, name_fits, names_stop, names_end, names_next}
use Rattle.path_lookup.proofs.find_path.Goals as goal

pub loop-ino-init : goal.loop-ino-init
loop-ino-init c = record { at = names_start _ _ _ _; same = same_refl c.args.seen.now }

pub slice_bounds-find_in-end : goal.slice_bounds-find_in-end
slice_bounds-find_in-end c = let inside = name_inside c.loop-ino.invariant.at c.part_end-end.ensures in omega arith

pub find_in-requires : goal.find_in-requires
find_in-requires c = name_fits c.loop-ino.invariant.at c.part_end-end.ensures c.requires.fits

pub returns-in_err-ino-clause-walked : goal.returns-in_err-ino-clause-walked
returns-in_err-ino-clause-walked c =
    let p = err_from_is_err_and c.from_residual.result c.from_residual.ensures.1 in
    rw (p.1, p.2) (names_stop c.loop-ino.invariant.at c.part_end-end.ensures c.in_err-ino.ensures.walked refl)

pub returns-then-end-path-clause-walked : goal.returns-then-end-path-clause-walked
returns-then-end-path-clause-walked c =
    names_end c.loop-ino.invariant.at c.part_end-end.ensures c.in_ok-ino.ensures.walked refl c.if-end-path.true

pub loop-ino-preserved : goal.loop-ino-preserved
loop-ino-preserved c =
    record {
      at = names_next c.loop-ino.invariant.at c.part_end-end.ensures c.in_ok-ino.ensures.walked refl c.if-end-path.false;
      same = same_trans c.args.seen.now c.loop-ino.seen c.find_in.new.seen c.loop-ino.invariant.same c.in_ok-ino.ensures.same;
    }
