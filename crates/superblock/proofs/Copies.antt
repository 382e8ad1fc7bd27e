-- The part of a block that a copy is.
use mathlib.Core.Path.{◌≡◌}
use mathlib.Core.List.{List}
use Prim.Native.Nat.{ℕ, ◌-◌}
use native.Mathlib.Omega.{arith}
use lib.ListN.{length, take, drop, length-take, length-drop}
use lib.Seq.{take_all}
use Rattle.superblock.specs.Superblock.{copy_of}

module _ (block : List ℕ) where
  pub copy_length : length block ≡ 4096 → length (take (length block - 1024) (drop 1024 block)) ≡ 3072
  copy_length h = simp (length-take, length-drop) (omega arith)

  pub copy_is : take (length block - 1024) (drop 1024 block) ≡ copy_of block
  copy_is = take_all (length block - 1024) (drop 1024 block) (rw (length-drop 1024 block) (omega arith))
