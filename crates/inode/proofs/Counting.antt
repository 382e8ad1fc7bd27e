-- What is so of an index that isn't past a file's end: its block begins inside the file, so it holds 1 to 4,096 of its bytes.
use Prim.Native.Nat.{ℕ, min, ◌-◌, ◌*◌, ◌%◌, ◌<◌, ◌≤◌}
use native.Mathlib.Omega.{arith}
use mathlib.Core.Path.{◌≡◌, refl}
use mathlib.Core.Bool.{Bool, true, false, ◌||◌, and-false}
use lib.Dec.{leb, ltb, eqb}
use borrow.Author.Tests.{leb-true, leb-false}
use Rattle.field.specs.Choice.{choose}
use Rattle.place.specs.Place.{last_index}
use Rattle.inode.specs.declared.Inode.{Inode}
use Rattle.inode.specs.Inode.{is_directory, addresses_in, is_past, count_in}
use Rattle.field.proofs.Choosing.{needed_le}

pub begins_inside : (i : Inode) (index : ℕ) → is_past i index ≡ false → index * 4096 < i.size
unfolding is_past
begins_inside i index h = leb-false i.size (index * 4096) (first (leb i.size (index * 4096)) (ltb (last_index (addresses_in i)) index) h)
  where
    first : (a b : Bool) → a || b ≡ false → a ≡ false
    first true b e = e
    first false b e = refl

pub count_in_block : (i : Inode) (index : ℕ) → is_past i index ≡ false → (1 ≤ count_in i index) × (count_in i index ≤ 4096)
unfolding count_in
count_in_block i index h = go (leb 4096 (i.size - index * 4096)) refl
  where
    inside : index * 4096 < i.size
    inside = begins_inside i index h

    go : (b : Bool) → leb 4096 (i.size - index * 4096) ≡ b → (1 ≤ choose b 4096 (i.size - index * 4096)) × (choose b 4096 (i.size - index * 4096) ≤ 4096)
    go true e = (omega arith, omega arith)
    go false e =
        let l = leb-false 4096 (i.size - index * 4096) e in
        let m = inside in
        (omega arith, omega arith)

-- "the smaller of 4,096" and what is left
pub least_in : (i : Inode) (index : ℕ) → min (i.size - index * 4096) 4096 ≡ count_in i index
unfolding count_in
least_in i index = go (leb 4096 (i.size - index * 4096)) refl
  where
    go : (b : Bool) → leb 4096 (i.size - index * 4096) ≡ b → min (i.size - index * 4096) 4096 ≡ choose b 4096 (i.size - index * 4096)
    go true e = let l = leb-true 4096 (i.size - index * 4096) e in omega arith
    go false e = let l = leb-false 4096 (i.size - index * 4096) e in omega arith

-- whichever of two numbers is chosen
pub chosen_le : {x y most : ℕ} (b : Bool) → x ≤ most → y ≤ most → choose b x y ≤ most
chosen_le true p q = p
chosen_le false p q = q

-- the inode holds at most 923 addresses
pub few_addresses : (i : Inode) → addresses_in i ≤ 923
unfolding addresses_in
few_addresses i = chosen_le (eqb (i.inline % 2) 1) (omega arith) (omega arith)

-- a directory that is read has at most 63 levels
pub shallow : (i : Inode) → is_directory i ≡ true → i.depth ≤ 63
unfolding is_directory
shallow i h = needed_le (λ e. rw (e, and-false) refl) h
