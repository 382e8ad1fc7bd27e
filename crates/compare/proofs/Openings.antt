-- The order of Compare's answers: the images' shape, the kept image's refusal, the new one's, and what both opened come to. And
-- that of the lists only the entries up to their counts matter.
use mathlib.Core.Path.{◌≡◌, refl, sym, ap, ◌∙◌}
use mathlib.Core.Bool.{true, false, ◌&&◌, and-eq-true_iff}
use mathlib.Core.List.{List}
use Prim.Native.Nat.{ℕ}
use native.Mathlib.Omega.{arith}
use lib.ListN.{length}
use Rattle.std.proofs.Common.{Ok, Err}
use Rattle.field.specs.Card.{Card, card_of}
use Rattle.superblock.specs.Shape.{in_shape}
use Rattle.checkpoint.specs.declared.Volume.{Volume}
use Rattle.checkpoint.specs.Volume.{Opening, Opened, Refused, Opening, Opened, Refused, opened, opened_image}
use Rattle.checkpoint.proofs.Ways.{shape_opens}
use Rattle.checkpoint.proofs.Inside.{image_shaped}
use Rattle.walk.specs.Walk.{view_of}
use Rattle.list.proofs.Entries.{length_numbers}
use Rattle.node.specs.Node.{Bounds, bounds_of}
use Rattle.compare.specs.declared.Difference.TheVariants.{BoundsDiffer, NodeDiffers, BlockDiffers}
use Rattle.list.specs.Lists.{Listed, entries, count_fits}
use Rattle.compare.specs.Lists.{lists_in_shape}
use Rattle.compare.specs.Difference.{Told, same, difference}
use Rattle.compare.specs.Compare.{refused, verdict, compared_open, after_fresh, after_kept, compared}

-- ---- "same" is said of no difference, and "changed" of any other
pub says_same : (d : Told) → (verdict d).answer ≡ 15 → d ≡ same
says_same (Ok none) h = refl
says_same (Err BoundsDiffer) h = absurd (omega arith)
says_same (Err (NodeDiffers k)) h = absurd (omega arith)
says_same (Err (BlockDiffers b)) h = absurd (omega arith)

pub says_changed : (d : Told) → (d ≡ same → ⊥) → (verdict d).answer ≡ 16
says_changed (Ok none) h = absurd (h refl)
says_changed (Err BoundsDiffer) h = refl
says_changed (Err (NodeDiffers k)) h = refl
says_changed (Err (BlockDiffers b)) h = refl

-- ---- both opened: the lists' shape, then the difference
module _ (kept : Card) (v : Volume) (fresh : Card) (u : Volume) (nodes blocks : Listed) where
  pub lists_refused : lists_in_shape (bounds_of v) nodes blocks ≡ false → compared_open kept v fresh u nodes blocks ≡ refused 4 0
  unfolding compared_open
  lists_refused h = rw h

  pub lists_compared : lists_in_shape (bounds_of v) nodes blocks ≡ true → compared_open kept v fresh u nodes blocks
      ≡ verdict (difference (bounds_of v) (bounds_of u) (view_of kept v) (view_of fresh u) (entries nodes) (entries blocks))
  unfolding compared_open
  lists_compared h = rw h

-- ---- the images
module _ (kept fresh : List ℕ) (nodes blocks : Listed) where
  pub shape_refused : (in_shape (length kept) && in_shape (length fresh)) ≡ false → compared kept fresh nodes blocks ≡ refused 4 0
  unfolding compared
  shape_refused h = rw h

  module _ (shaped : (in_shape (length kept) && in_shape (length fresh)) ≡ true) where
    both_shaped : compared kept fresh nodes blocks ≡ after_kept (card_of kept) (opened (card_of kept)) (card_of fresh) nodes blocks
    unfolding compared
    both_shaped = rw shaped

    pub kept_refused_lem : (answer : ℕ) → opened_image kept ≡ Refused answer → compared kept fresh nodes blocks ≡ refused answer 1
    kept_refused_lem answer e = both_shaped ∙ rw (sym (shape_opens kept ((and-eq-true_iff _ _).0 shaped).0) ∙ e)

    pub fresh_refused_lem : (v : Volume) → opened_image kept ≡ Opened v → (answer : ℕ) → opened_image fresh ≡ Refused answer
        → compared kept fresh nodes blocks ≡ refused answer 2
    fresh_refused_lem v e answer f =
        let s = (and-eq-true_iff _ _).0 shaped in
        both_shaped ∙ rw (sym (shape_opens kept s.0) ∙ e, sym (shape_opens fresh s.1) ∙ f)

  pub compared_opened : (v u : Volume) → opened_image kept ≡ Opened v → opened_image fresh ≡ Opened u
      → compared kept fresh nodes blocks ≡ compared_open (card_of kept) v (card_of fresh) u nodes blocks
  compared_opened v u e f =
      let s = image_shaped kept v e in
      let t = image_shaped fresh u f in
      both_shaped (rw s t) ∙ rw (sym (shape_opens kept s) ∙ e, sym (shape_opens fresh t) ∙ f)

-- ---- the lists up to their counts

-- the same numbers up to the counts, and both or neither count past its slice; the counts are then the same
pub record SameListed (l k : Listed) : Type 0 where
  pub numbers : entries l ≡ entries k
  pub fits : count_fits l ≡ count_fits k

same_count : {l k : Listed} → SameListed l k → l.count ≡ k.count
same_count {l = l} {k = k} s =
    sym (length_numbers l.bytes 0 l.count) ∙ ap length s.numbers ∙ length_numbers k.bytes 0 k.count

module _ {nodes nodes' blocks blocks' : Listed} (ns : SameListed nodes nodes') (bs : SameListed blocks blocks') where
  shape_listed : (m : Bounds) → lists_in_shape m nodes blocks ≡ lists_in_shape m nodes' blocks'
  unfolding lists_in_shape
  shape_listed m = rw (ns.fits, bs.fits, ns.numbers, bs.numbers, same_count ns)

  open_listed : (kept : Card) (v : Volume) (fresh : Card) (u : Volume)
      → compared_open kept v fresh u nodes blocks ≡ compared_open kept v fresh u nodes' blocks'
  unfolding compared_open
  open_listed kept v fresh u = rw (shape_listed (bounds_of v), ns.numbers, bs.numbers)

  fresh_listed : (kept : Card) (v : Volume) (fresh : Card) (o : Opening)
      → after_fresh kept v fresh o nodes blocks ≡ after_fresh kept v fresh o nodes' blocks'
  fresh_listed kept v fresh (Opened u) = open_listed kept v fresh u
  fresh_listed kept v fresh (Refused answer) = refl

  kept_listed : (kept : Card) (o : Opening) (fresh : Card) → after_kept kept o fresh nodes blocks ≡ after_kept kept o fresh nodes' blocks'
  kept_listed kept (Opened v) fresh = fresh_listed kept v fresh (opened fresh)
  kept_listed kept (Refused answer) fresh = refl

  pub compared_listed : (kept fresh : List ℕ) → compared kept fresh nodes blocks ≡ compared kept fresh nodes' blocks'
  unfolding compared
  compared_listed kept fresh = rw (kept_listed (card_of kept) (opened (card_of kept)) (card_of fresh))
