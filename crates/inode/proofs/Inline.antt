-- What is so of a file whose bytes are in its inode: they lie in the address area, before the five node numbers, and are its block 0.
use Prim.Native.Nat.{ℕ, ◌+◌, ◌-◌, ◌*◌, ◌%◌, ◌≤◌}
use native.Mathlib.Omega.{arith}
use mathlib.Core.Path.{◌≡◌}
use mathlib.Core.Bool.{true, false, and-false}
use lib.Dec.{eqb}
use borrow.Author.Tests.{lt-leb}
use Rattle.field.proofs.Choosing.{needed_le}
use Rattle.inode.specs.declared.Inode.{Inode}
use Rattle.inode.specs.Inode.{has_inline_data, inline_start, data_room, is_regular, is_past, count_in}
use Rattle.inode.proofs.Counting.{begins_inside, chosen_le}

-- "3,488 bytes, without them 3,688"
pub room_most : (i : Inode) → data_room i ≤ 3688
unfolding data_room
room_most i = chosen_le (eqb (i.inline % 2) 1) (omega arith) (omega arith)

module _ (i : Inode) (regular : is_regular i ≡ true) (own : has_inline_data i ≡ true) where
  -- "A size above the room is 12"
  pub inline_fits : i.size ≤ data_room i
  unfolding is_regular
  inline_fits = needed_le (λ e. rw (own, e, and-false)) regular

  pub inline_small : i.size ≤ 3688
  inline_small = let most = room_most i in let fits = inline_fits in omega arith

  module _ (index : ℕ) (inside : is_past i index ≡ false) where
    -- so it has one block, which holds all of it
    pub inline_first : (index ≡ 0) × (count_in i index ≡ i.size)
    unfolding count_in
    inline_first =
        let e = first in
        let most = inline_small in
        (e, rw (lt-leb 4096 (i.size - index * 4096) (omega arith)) (omega arith))
      where
        first : index ≡ 0
        first = let begins = begins_inside i index inside in let most = inline_small in omega arith

    pub inline_room : inline_start + count_in i index ≤ 4052
    inline_room =
        let all = inline_first.1 in
        let most = inline_small in
        omega arith
