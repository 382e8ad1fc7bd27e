use Rattle.std.proofs.Common.{◌≡◌, refl, sym, ◌∙◌, ◌+◌, arith, rules, tests, eqb, drop, ◌∷◌, length, length-append}
use Rattle.std.proofs.lemmas.Iterator.Consumers.{YieldsList-at, YieldsList-turn, YieldsList-end}
use Rattle.std.proofs.lemmas.Iterator.Splits.{YieldsList-from_slice_split}
use Rattle.path.specs.Path.{slash, parts_of, name_count}
use Rattle.path.proofs.Lengths.{too_long}
use Rattle.path.proofs.Counting.{count_on, count_start, count_part, count_end, count_none, count_next, count_ninth}
use Rattle.path.proofs.name_count.Goals as goal
use Rattle.path.proofs.name_count.Goals.{In-Some, then-count-eq-NAMES_MOST-via-then-count-eq-NAMES_MOST}
use Rattle.path.proofs.name_count.Goals.{then-count-eq-NAMES_MOST-via-else-count-eq-NAMES_MOST+then-not-is_name}

pub returns-then-path : goal.returns-then-path
returns-then-path c = sym (too_long c.args.path.now c.if-path.true)

pub loop-part-init : goal.loop-part-init
loop-part-init c = record { few = omega arith; counted = refl; left = count_start c.args.path.now }

-- the part that came is the first of those that are left
came : (k : In-Some) → name_count k.args.path.now
    ≡ count_on k.loop-part.count (k.in-Some.part.now ∷ drop (k.loop-part.count + 1) (parts_of k.args.path.now))
came k =
    let split = k.split-part-items.ensures in
    count_part k.args.path.now k.loop-part.count (length k.loop-part.yielded) k.in-Some.part.now k.loop-part.invariant.counted
    (YieldsList-turn
    (YieldsList-at k.into_iter-part-iterator.ensures.into_iter_gives
    (YieldsList-from_slice_split _ (λ b. eqb b slash) k.args.path.now split.rest split.done split.closure (λ x r q h. search (rules, tests))))
    k.loop-part.yielded _ k.loop-part.yielded_by _ _ _ k.in-Some.is k.next.ensures.steps)
    k.loop-part.invariant.left

pub loop-part-preserved : goal.loop-part-preserved
loop-part-preserved c =
    let behind = drop (c.loop-part.count + 1) (parts_of c.args.path.now) in
    record {
      few = (let known = c.loop-part.invariant.few in omega arith);
      counted = (let known = c.loop-part.invariant.counted in simp length-append (omega arith));
      left =
          came (goal.at.loop-part-preserved c).In-Some
          ∙ count_next c.loop-part.count c.in-Some.part.now behind (sym c.is_name.ensures ∙ c.if-not-is_name.false);
    }

pub returns-then-count-eq-NAMES_MOST : goal.returns-then-count-eq-NAMES_MOST
returns-then-count-eq-NAMES_MOST c =
    let behind = drop (c.loop-part.count + 1) (parts_of c.args.path.now) in
    let here = came (goal.at.returns-then-count-eq-NAMES_MOST c).In-Some in
    elim c.then-count-eq-NAMES_MOST.branch [
      | then-count-eq-NAMES_MOST-via-then-count-eq-NAMES_MOST w ↦
          sym (here ∙ count_ninth (c.in-Some.part.now ∷ behind) c.loop-part.count (omega arith) (omega arith))
      | then-count-eq-NAMES_MOST-via-else-count-eq-NAMES_MOST+then-not-is_name w ↦
          sym (here ∙ count_none c.loop-part.count c.in-Some.part.now behind (sym w.is_name.ensures ∙ w.if-not-is_name.true))
    ]

pub returns : goal.returns
returns c =
    let split = c.split-part-items.ensures in
    let known = c.loop-part.invariant in
    let end = YieldsList-end
    (YieldsList-at c.into_iter-part-iterator.ensures.into_iter_gives
    (YieldsList-from_slice_split _ (λ b. eqb b slash) c.args.path.now split.rest split.done split.closure (λ x r q h. search (rules, tests))))
    c.loop-part.yielded _ c.loop-part.yielded_by _ _ c.in-None.is c.next.ensures.steps in
    sym (count_end c.args.path.now c.loop-part.count (length c.loop-part.yielded) known.counted end.1 known.few known.left)
