-- The tree of a file by cases: no run and no list is named. Then what the code found as what the walk comes to, and how far an index goes.
use Prim.Native.Nat.{ℕ, ◌*◌, ◌<◌}
use native.Mathlib.Omega.{arith}
use mathlib.Core.Path.{◌≡◌, refl}
use mathlib.Core.Bool.{Bool, true, false, ◌||◌}
use mathlib.Core.List.{List}
use lib.ListN.{drop}
use Rattle.std.specs.Prelude.{Option, Some, None}
use lib.Dec.{leb, ltb}
use borrow.Author.Tests.{ltb-false}
use Rattle.field.specs.Card.{Card}
use Rattle.field.proofs.Choosing.{clash}
use Rattle.place.specs.Place.{last_index}
use Rattle.walk.specs.Walk.{View, Walk, done, Outcome, ok, stop, bind, onward, and_then, Lists, Walked}
use Rattle.walk.proofs.Reached.{reached_start, reached_then, reached_done}
use Rattle.inode.specs.declared.Inode.{Inode}
use Rattle.inode.specs.Inode.{inode_of, has_inline_data, inline_start, is_regular, addresses_in, is_past, count_in}
use Rattle.inode.proofs.Counting.{few_addresses}
use Rattle.node.specs.Node.{Bounds}
use Rattle.node.specs.Block.{Fetched, held, block_walk}
use Rattle.node.specs.Found.{fetched}
use Rattle.pull.specs.Walk.{counted, content_walk, at_file, block_of}

-- ---- a file, once its inode is read
module _ (m : Bounds) (index ino : ℕ) (inode : List ℕ) {i : Inode} (read : i ≡ inode_of inode) where
  pub file_other : is_regular i ≡ false → at_file m index ino inode ≡ done (stop 12)
  unfolding at_file
  file_other r = rw (← read, r)

  pub file_past : is_regular i ≡ true → is_past i index ≡ true → at_file m index ino inode ≡ done (stop 3)
  unfolding at_file
  file_past r p = rw (← read, r, p)

  content_inline : has_inline_data i ≡ true → content_walk m index ino inode ≡ done (ok (held (drop inline_start inode)))
  unfolding content_walk
  content_inline d = rw (← read, d)

  content_block : (A : ℕ) → has_inline_data i ≡ false → A ≡ addresses_in i → content_walk m index ino inode ≡ block_walk m ino inode A index
  unfolding content_walk
  content_block A d a = rw (← read, d, a)

  module _ (count : ℕ) (r : is_regular i ≡ true) (p : is_past i index ≡ false) (c : count ≡ count_in i index) where
    by_content : {w : Walk (Outcome Fetched)} → content_walk m index ino inode ≡ w → at_file m index ino inode ≡ and_then w (counted count)
    unfolding at_file
    by_content {w = w} e = rw (← read, r, p, ← c, e)

    pub file_inline : has_inline_data i ≡ true → at_file m index ino inode ≡ counted count (held (drop inline_start inode))
    unfolding and_then bind onward
    file_inline d = by_content (content_inline d)

    pub file_block : (A : ℕ) → has_inline_data i ≡ false → A ≡ addresses_in i
        → at_file m index ino inode ≡ and_then (block_walk m ino inode A index) (counted count)
    file_block A d a = by_content (content_block A d a)

-- ---- a data block with its count
pub counted_walked : (card : Card) (got : Option ℕ) (count : ℕ) {v : View} {p : Walk (Outcome Fetched)} {s t : Lists}
    → Walked v p s (ok (fetched card got)) t
    → Walked v (and_then p (counted count)) s (ok (block_of card (record { «data» = got; start = 0; bytes = count }))) t
counted_walked card None count left = reached_done (reached_then (counted count) (reached_start _ _ _) left refl)
counted_walked card (Some address) count left = reached_done (reached_then (counted count) (reached_start _ _ _) left refl)

-- ---- an index that isn't past the end of a file is far below 32 bits
pub inside_near : (i : Inode) (index : ℕ) → is_past i index ≡ false → index < 2147483648
unfolding is_past
inside_near i index h = go (leb i.size (index * 4096)) (ltb (last_index (addresses_in i)) index) refl h
  where
    go : (a b : Bool) → ltb (last_index (addresses_in i)) index ≡ b → a || b ≡ false → index < 2147483648
    go a false e f = let far = ltb-false (last_index (addresses_in i)) index e in let few = few_addresses i in omega arith
    go true true e f = absurd (clash refl f)
    go false true e f = absurd (clash refl f)
