-- What the directory level decides: of a directory whether it is read, of a file nothing.
use Prim.Native.Nat.{ℕ, ◌/◌, ◌≤◌, ◌<◌}
use native.Mathlib.Omega.{arith}
use mathlib.Core.Path.{◌≡◌, refl, sym, ap, ◌∙◌}
use mathlib.Core.Bool.{Bool, true, false, not, ◌&&◌, ◌||◌, and-false}
use mathlib.Core.Logic.{⊎_elim}
use lib.Dec.{ltb, leb, eqb}
use borrow.Author.Tests.{lt-ltb, le-ltb, ltb-true, ltb-false}
use Rattle.field.proofs.Choosing.{either, clash}
use Rattle.inode.specs.declared.Inode.{Inode}
use Rattle.inode.proofs.Counting.{shallow, chosen_le}
use Rattle.inode.specs.Inode.{has_inline_data, has_inline_dentry, has_extra_attr, data_room, dentry_room, is_directory, is_regular}
use Rattle.inode.specs.Inode.{levels_in, dir_level_in, addresses_in, is_past, count_in}

-- an inode with another level
abbrev pub with_level : Inode → ℕ → Inode
with_level i level = record { mode = i.mode; inline = i.inline; size = i.size; depth = i.depth; level = level }

module _ (i : Inode) (level : ℕ) where
  -- all that is tested of a directory but its level
  abbrev read : Bool
  read =
      eqb (i.mode / 4096) 4 && not (has_inline_data i) && not (has_extra_attr i) && (not (has_inline_dentry i) || leb i.size dentry_room)
      && leb i.depth 63

  by_level : {low : Bool} → ltb level 31 ≡ low → is_directory (with_level i level) ≡ (read && low)
  unfolding is_directory has_inline_data has_extra_attr has_inline_dentry
  by_level e = ap (λ (low : Bool). read && low) e

  -- "refusal 12 for a level now starts at 31"
  pub level_refused : 31 ≤ level → is_directory (with_level i level) ≡ false
  level_refused h = by_level (le-ltb level 31 h) ∙ rw and-false

  -- a file's level isn't consulted
  pub file_level : (index : ℕ) → (is_regular (with_level i level) ≡ is_regular i) × (addresses_in (with_level i level) ≡ addresses_in i)
      × (is_past (with_level i level) index ≡ is_past i index) × (count_in (with_level i level) index ≡ count_in i index)
  unfolding is_regular has_inline_data has_extra_attr has_inline_dentry data_room addresses_in is_past count_in
  file_level index = (refl, refl, refl, refl)

-- a directory of a level below 31 is read exactly if it is at level 0
pub level_read : (i : Inode) (level : ℕ) → level < 31 → is_directory (with_level i level) ≡ is_directory (with_level i 0)
level_read i level h = by_level i level (lt-ltb level 31 h) ∙ sym (by_level i 0 refl)

-- so one that is read has a table
pub low_level : (i : Inode) → is_directory i ≡ true → i.level < 31
low_level i h =
    ⊎_elim (λ e. ltb-true i.level 31 e) (λ e. absurd (clash h (level_refused i i.level (ltb-false i.level 31 e)))) (either (ltb i.level 31))

-- ---- the numbers that the code goes by

-- of a directory that is read
module _ (i : Inode) (is : is_directory i ≡ true) where
  pub few_levels : levels_in i ≤ 63
  unfolding levels_in
  few_levels = chosen_le (has_inline_dentry i) (omega arith) (shallow i is)

  pub has_table : dir_level_in i < 31
  unfolding dir_level_in
  has_table =
      let low = low_level i is in
      let most = chosen_le {x = 0} {y = i.level} {most = 30} (has_inline_dentry i) (omega arith) (omega arith) in
      omega arith

-- an inline directory is one level; another has its own numbers
module _ (i : Inode) where
  pub one_level : has_inline_dentry i ≡ true → (dir_level_in i ≡ 0) × (levels_in i ≡ 1)
  unfolding levels_in dir_level_in
  one_level own = (rw own, rw own)

  pub own_levels : has_inline_dentry i ≡ false → (dir_level_in i ≡ i.level) × (levels_in i ≡ i.depth)
  unfolding levels_in dir_level_in
  own_levels apart = (rw apart, rw apart)
