-- An image in shape: its card has as many blocks as are read.
use mathlib.Core.Path.{◌≡◌, refl}
use mathlib.Core.List.{List}
use mathlib.Core.Logic.{⊎_elim}
use mathlib.Core.Bool.{true, false, and-false}
use Prim.Native.Nat.{ℕ, ◌*◌, ◌/◌, ◌%◌, ◌<◌, ◌≤◌}
use native.Mathlib.Omega.{arith}
use borrow.Author.Tests.{le-leb}
use lib.ListN.{length}
use Rattle.field.specs.Card.{card_of}
use Rattle.field.proofs.Choosing.{either, needed_eq, needed_le}
use Rattle.superblock.specs.Shape.{most_blocks, in_shape, InShape}

module _ (image : List ℕ) (h : in_shape (length image) ≡ true) where
  pub shape_card : InShape (card_of image)
  unfolding in_shape
  shape_card =
      record {
        least = needed_le (λ p. simp (p, and-false)) h;
        most = needed_le (λ p. simp (p, and-false)) h;
      }

-- ---- K8 by its own numbers: with these two laws every length of whole blocks, two or more, is decided

-- "4,194,304 is in shape", and so is every smaller number of blocks, down to 2
pub up_to_the_limit : (blocks : ℕ) → 2 ≤ blocks → blocks ≤ 4194304 → in_shape (4096 * blocks) ≡ true
unfolding in_shape
up_to_the_limit blocks least most =
    let whole : 4096 * blocks % 4096 ≡ 0 = omega arith in
    let each : 4096 * blocks / 4096 ≡ blocks = omega arith in
    rw (whole, each, le-leb 2 blocks least, le-leb blocks most_blocks (omega arith))

-- "one more is 4": one more, and every greater length, is out of shape
pub past_the_limit : (bytes : ℕ) → 4096 * 4194304 < bytes → in_shape bytes ≡ false
unfolding in_shape
past_the_limit bytes longer = ⊎_elim (λ h. absurd (not_in h)) (λ h. h) (either (in_shape bytes))
  where
    not_in : in_shape bytes ≡ true → ⊥
    not_in h =
        let whole = needed_eq {m = bytes % 4096} {n = 0} (λ p. rw p refl) h in
        let few = needed_le {m = bytes / 4096} {n = most_blocks} (λ p. simp (p, and-false)) h in
        omega arith
