-- What is so of every compare, whatever the images, lists and counts. Stated over `compared`, the definition that the contract cites.
use Prim.Native.Nat.{ℕ, ◌≤◌}
use native.Mathlib.Omega.{arith}
use mathlib.Core.Path.{◌≡◌, refl, ◌∙◌}
use mathlib.Core.Bool.{Bool, true, false, ◌&&◌}
use mathlib.Core.Logic.{◌⊎◌, inl, inr, ⊎_elim}
use mathlib.Core.List.{List}
use lib.ListN.{length}
use Rattle.std.proofs.Common.{Ok, Err}
use Rattle.field.specs.Card.{card_of}
use Rattle.field.proofs.Choosing.{either}
use Rattle.superblock.specs.Shape.{in_shape}
use Rattle.checkpoint.specs.declared.Volume.{Volume}
use Rattle.checkpoint.specs.Volume.{Opening, Opened, Refused, Opening, Opened, Refused, opened_image}
use Rattle.checkpoint.proofs.Inside.{refusals}
use Rattle.walk.specs.Walk.{view_of}
use Rattle.node.specs.Node.{bounds_of}
use Rattle.compare.specs.declared.Compared.{Compared}
use Rattle.compare.specs.declared.Difference.TheVariants.{BoundsDiffer, NodeDiffers, BlockDiffers}
use Rattle.list.specs.Lists.{Listed, entries}
use Rattle.compare.specs.Lists.{lists_in_shape}
use Rattle.compare.specs.Difference.{Told, difference}
use Rattle.compare.specs.Compare.{refused, verdict, compared}
use Rattle.compare.proofs.Openings.{lists_refused, lists_compared, shape_refused, kept_refused_lem, fresh_refused_lem, compared_opened}

-- what Compare says of two opened images and lists in shape: their first difference
abbrev pub told_of : List ℕ → Volume → List ℕ → Volume → Listed → Listed → Compared
told_of kept v fresh u nodes blocks =
    verdict (difference (bounds_of v) (bounds_of u) (view_of (card_of kept) v) (view_of (card_of fresh) u) (entries nodes) (entries blocks))

-- The ways that a compare ends, each with its cause: an image's length; the kept image's refusal, or the new one's, with the side; the
-- lists' shape; or the first difference is told.
pub data CompareEnds (kept fresh : List ℕ) (nodes blocks : Listed) (r : Compared) : Type 0 where
  bad_length : (in_shape (length kept) && in_shape (length fresh)) ≡ false → r ≡ refused 4 0 → CompareEnds kept fresh nodes blocks r
  kept_refused : (answer : ℕ) → opened_image kept ≡ Refused answer → r ≡ refused answer 1 → CompareEnds kept fresh nodes blocks r
  fresh_refused : (v : Volume) → opened_image kept ≡ Opened v → (answer : ℕ) → opened_image fresh ≡ Refused answer → r ≡ refused answer 2
      → CompareEnds kept fresh nodes blocks r
  bad_lists : (v u : Volume) → opened_image kept ≡ Opened v → opened_image fresh ≡ Opened u → lists_in_shape (bounds_of v) nodes blocks ≡ false
      → r ≡ refused 4 0 → CompareEnds kept fresh nodes blocks r
  told : (v u : Volume) → opened_image kept ≡ Opened v → opened_image fresh ≡ Opened u → lists_in_shape (bounds_of v) nodes blocks ≡ true
      → r ≡ told_of kept v fresh u nodes blocks → CompareEnds kept fresh nodes blocks r

module _ (kept fresh : List ℕ) (nodes blocks : Listed) where
  both : (v u : Volume) → opened_image kept ≡ Opened v → opened_image fresh ≡ Opened u
      → CompareEnds kept fresh nodes blocks (compared kept fresh nodes blocks)
  both v u e f =
      let is = compared_opened kept fresh nodes blocks v u e f in
      ⊎_elim (λ h. told v u e f h (is ∙ lists_compared (card_of kept) v (card_of fresh) u nodes blocks h))
      (λ h. bad_lists v u e f h (is ∙ lists_refused (card_of kept) v (card_of fresh) u nodes blocks h))
      (either (lists_in_shape (bounds_of v) nodes blocks))

  pub ends : CompareEnds kept fresh nodes blocks (compared kept fresh nodes blocks)
  ends = go (in_shape (length kept) && in_shape (length fresh)) refl (opened_image kept) refl (opened_image fresh) refl
    where
      go : (b : Bool) → (in_shape (length kept) && in_shape (length fresh)) ≡ b → (o : Opening) → opened_image kept ≡ o
          → (p : Opening) → opened_image fresh ≡ p → CompareEnds kept fresh nodes blocks (compared kept fresh nodes blocks)
      go false h o e p f = bad_length h (shape_refused kept fresh nodes blocks h)
      go true h (Refused answer) e p f = kept_refused answer e (kept_refused_lem kept fresh nodes blocks h answer e)
      go true h (Opened v) e (Refused answer) f = fresh_refused v e answer f (fresh_refused_lem kept fresh nodes blocks h v e answer f)
      go true h (Opened v) e (Opened u) f = both v u e f

  -- the answer is a number of the table: 4 to 8, 15 or 16
  pub answers : ((4 ≤ (compared kept fresh nodes blocks).answer) × ((compared kept fresh nodes blocks).answer ≤ 8))
      ⊎ ((15 ≤ (compared kept fresh nodes blocks).answer) × ((compared kept fresh nodes blocks).answer ≤ 16))
  answers = go ends
    where
      ended : (d : Told) → (15 ≤ (verdict d).answer) × ((verdict d).answer ≤ 16)
      ended (Ok none) = (omega arith, omega arith)
      ended (Err BoundsDiffer) = (omega arith, omega arith)
      ended (Err (NodeDiffers n)) = (omega arith, omega arith)
      ended (Err (BlockDiffers b)) = (omega arith, omega arith)

      go : {r : Compared} → CompareEnds kept fresh nodes blocks r → ((4 ≤ r.answer) × (r.answer ≤ 8)) ⊎ ((15 ≤ r.answer) × (r.answer ≤ 16))
      go (bad_length h e) = rw e (inl (omega arith, omega arith))
      go (kept_refused answer o e) = rw e (inl (refusals kept answer o))
      go (fresh_refused v k answer o e) = rw e (inl (refusals fresh answer o))
      go (bad_lists v u p q h e) = rw e (inl (omega arith, omega arith))
      go (told v u p q h e) =
          rw e (inr (ended (difference (bounds_of v) (bounds_of u) (view_of (card_of kept) v) (view_of (card_of fresh) u) (entries nodes) (entries blocks))))
