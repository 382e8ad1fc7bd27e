-- What is so of every comparison of a keep file, whatever the bytes of the file and of the new image.
use Prim.Native.Nat.{ℕ}
use native.Mathlib.Omega.{arith}
use mathlib.Core.Path.{◌≡◌, refl, ap}
use mathlib.Core.Bool.{Bool, true, false}
use mathlib.Core.List.{List}
use mathlib.Core.Logic.{⊎_elim, ◌↔◌}
use lib.ListN.{length}
use Rattle.std.proofs.Common.{Ok, Err}
use Rattle.field.specs.Card.{card_of}
use Rattle.field.proofs.Choosing.{either}
use Rattle.superblock.specs.Shape.{in_shape}
use Rattle.checkpoint.specs.declared.Volume.{Volume}
use Rattle.checkpoint.specs.Volume.{Opening, Opened, Refused, opened_image}
use Rattle.checkpoint.proofs.Inside.{refusals}
use Rattle.compare.specs.declared.Compared.{Compared}
use Rattle.compare.specs.declared.Difference.TheVariants.{BoundsDiffer, NodeDiffers, BlockDiffers}
use Rattle.compare.specs.Difference.{Told}
use Rattle.compare.specs.Compare.{refused, verdict}
use Rattle.keep_file.specs.Reading.{keep_in, readable}
use Rattle.keep_file.specs.Readable.{Readable}
use Rattle.keep_file.proofs.Refusing.{readable_exactly, refused_exactly, read_readable, read_refused}
use Rattle.keep_compare.specs.Compare.{keep_difference, keep_compared}
use Rattle.keep_compare.proofs.Openings.{file_refused, shape_refused, fresh_refused_lem, fresh_opened}

-- A comparison refuses the file, then the new image, or tells the first difference.
pub data KeepCompareEnds (file fresh : List ℕ) (r : Compared) : Type 0 where
  no_keep_file : (Readable file → ⊥) → r ≡ refused 18 0 → KeepCompareEnds file fresh r
  bad_length : Readable file → in_shape (length fresh) ≡ false → r ≡ refused 4 0 → KeepCompareEnds file fresh r
  fresh_refused : Readable file → (answer : ℕ) → opened_image fresh ≡ Refused answer → r ≡ refused answer 2 → KeepCompareEnds file fresh r
  told : Readable file → (u : Volume) → opened_image fresh ≡ Opened u → r ≡ verdict (keep_difference (keep_in file) (card_of fresh) u)
      → KeepCompareEnds file fresh r

module _ (file fresh : List ℕ) where
  pub ends : KeepCompareEnds file fresh (keep_compared file fresh)
  ends = ⊎_elim reads (λ h. let e = read_refused file h in no_keep_file ((refused_exactly file).0 e) (file_refused file fresh e)) (either (readable file))
    where
      reads : readable file ≡ true → KeepCompareEnds file fresh (keep_compared file fresh)
      reads h = go (in_shape (length fresh)) refl (opened_image fresh) refl
        where
          is : Readable file
          is = (readable_exactly file).0 h

          go : (b : Bool) → in_shape (length fresh) ≡ b → (o : Opening) → opened_image fresh ≡ o → KeepCompareEnds file fresh (keep_compared file fresh)
          go false e o f = bad_length is e (shape_refused file fresh (read_readable file h) e)
          go true e (Refused answer) f = fresh_refused is answer f (fresh_refused_lem file fresh (read_readable file h) e answer f)
          go true e (Opened u) f = told is u f (fresh_opened file fresh (read_readable file h) u f)

  -- "Reading refuses, with 18 and before a new image is tested, exactly the files with .."
  pub refuses_exactly : ((keep_compared file fresh).answer ≡ 18) ↔ (Readable file → ⊥)
  refuses_exactly = (λ a. go ends a, λ none. ap (λ (c : Compared). c.answer) (file_refused file fresh ((refused_exactly file).1 none)))
    where
      no_18 : (d : Told) → (verdict d).answer ≡ 18 → ⊥
      no_18 (Ok none) a = omega arith
      no_18 (Err BoundsDiffer) a = omega arith
      no_18 (Err (NodeDiffers n)) a = omega arith
      no_18 (Err (BlockDiffers b)) a = omega arith

      go : {r : Compared} → KeepCompareEnds file fresh r → r.answer ≡ 18 → Readable file → ⊥
      go (no_keep_file none e) a is = none is
      go (bad_length r s e) a is = let n = rw e at a in omega arith
      go (fresh_refused r answer o e) a is = let n = rw e at a in let few = refusals fresh answer o in omega arith
      go (told r u o e) a is = no_18 (keep_difference (keep_in file) (card_of fresh) u) (rw e at a)
