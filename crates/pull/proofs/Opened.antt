-- What is so of an opened file's card, inode number and inode is so of those that it was opened with, and the other way round.
use Prim.Native.Nat.{ℕ}
use mathlib.Core.Path.{sym, subst}
use Rattle.checkpoint.specs.declared.open_image.OpenImage.{OpenImage}
use Rattle.pull.specs.declared.file.OpenFile.{OpenFile}
use Rattle.pull.specs.Walk.{FileOpened}
use Rattle.std.specs.Prelude.{Ok}

module _ (P : OpenImage → ℕ → ℕ → Type 0) {card : OpenImage} {ino at : ℕ} (o : OpenFile) (opened : FileOpened card ino at (Ok o)) where
  pub as_opened : P o.file.card o.file.ino o.file.inode → P card ino at
  as_opened h =
      subst (λ (c : OpenImage). P c ino at) opened.0
      (subst (λ (n : ℕ). P o.file.card n at) opened.1 (subst (λ (a : ℕ). P o.file.card o.file.ino a) opened.2 h))

  pub of_opened : P card ino at → P o.file.card o.file.ino o.file.inode
  of_opened h =
      subst (λ (c : OpenImage). P c o.file.ino o.file.inode) (sym opened.0)
      (subst (λ (n : ℕ). P card n o.file.inode) (sym opened.1) (subst (λ (a : ℕ). P card ino a) (sym opened.2) h))
