-- An image joined from runs of whole blocks has just these blocks: so the sample image is the sample card.
use mathlib.Core.Path.{◌≡◌, refl, ap, ◌∙◌}
use mathlib.Core.Bool.{true}
use mathlib.Core.List.{List, [], ◌∷◌, ◌++◌}
use mathlib.Core.List as List
use mathlib.Core.Logic.{⊎_elim}
use Prim.Native.Nat.{ℕ, zero, suc, ◌+◌, ◌-◌, ◌*◌, ◌/◌, ◌<◌, ◌≤◌}
use native.Mathlib.Omega.{arith}
use lib.Dec.{ltb}
use borrow.Author.Tests.{leb-true, leb-false}
use lib.ListN.{length, get_or, replicate, length-append, length-replicate, get_or-replicate, get_or-append}
use lib.Seq.{take_at, drop-append-add, drop-nil, get_or-append-add}
use Rattle.field.specs.Card.{card_of, block_of}
use Rattle.field.specs.Choice.{choose}
use Rattle.field.proofs.Choosing.{either}
use Rattle.superblock.specs.Shape.{most_blocks, in_shape}
use Rattle.list.specs.Lists.{bytes_of}
use Rattle.sample_card.specs.Image.{filled, zeros, superblock, pack, journal, sit_block, nat_block, root_inode, file_inode, inline_inode}
use Rattle.sample_card.specs.Image.{dots_block, dentry_block, folder_inode, inner_inode, inner_block, data_block}
use Rattle.sample_card.specs.Image.{Run, runs, laid_out, joined, image, block_in, card}

-- ---- any blocks

-- each block has 4,096 bytes
infixr 20 ◌then◌
data Whole : List (List ℕ) → Type 0 where
  none : Whole []
  ◌then◌ : {b : List ℕ} {bs : List (List ℕ)} → length b ≡ 4096 → Whole bs → Whole (b ∷ bs)

whole_run : (n : ℕ) (b : List ℕ) {bs : List (List ℕ)} → length b ≡ 4096 → Whole bs → Whole (replicate n b ++ bs)
whole_run zero b e w = w
whole_run (suc n) b e w = e then whole_run n b e w

length_joined : (bs : List (List ℕ)) → Whole bs → length (joined bs) ≡ length bs * 4096
unfolding joined
length_joined [] none = refl
length_joined (b ∷ bs) (e then w) = let h = length_joined bs w in rw (length-append b (joined bs)) (omega arith)

block_joined : (bs : List (List ℕ)) → Whole bs → (b : ℕ) → block_of (joined bs) b ≡ get_or bs b []
unfolding block_of joined
block_joined [] none b = rw (drop-nil {A = ℕ} (b * 4096)) refl
block_joined (x ∷ bs) (e then w) zero = take_at x (joined bs) 4096 e
block_joined (x ∷ bs) (e then w) (suc b) =
    let n : suc b * 4096 ≡ length x + b * 4096 = omega arith in
    rw (n, drop-append-add x (joined bs) (b * 4096)) (block_joined bs w b)

-- ---- any runs

laid_whole : (rs : List Run) → Whole (List.map (λ r. r.block) rs) → Whole (laid_out rs)
unfolding laid_out
laid_whole [] none = none
laid_whole (r ∷ rs) (e then w) = whole_run r.times r.block e (laid_whole rs w)

-- how many blocks
abbrev count : List Run → ℕ
count [] = 0
count (r ∷ rs) = r.times + count rs

laid_count : (rs : List Run) → length (laid_out rs) ≡ count rs
unfolding laid_out
laid_count [] = refl
laid_count (r ∷ rs) =
    rw (length-append (replicate r.times r.block) (laid_out rs), length-replicate r.times r.block, laid_count rs)

-- a block of a run, or one behind it
module _ (n : ℕ) (x : List ℕ) (ys : List (List ℕ)) (b : ℕ) where
  inside_run : b < n → get_or (replicate n x ++ ys) b [] ≡ x
  inside_run h = get_or-append (replicate n x) ys [] b (rw (length-replicate n x) h) ∙ get_or-replicate n b x [] h

  behind_run : n ≤ b → get_or (replicate n x ++ ys) b [] ≡ get_or ys (b - n) []
  behind_run h =
      let long = length-replicate n x in
      let e : b ≡ length (replicate n x) + (b - n) = omega arith in
      ap (λ (i : ℕ). get_or (replicate n x ++ ys) i []) e ∙ get_or-append-add (replicate n x) ys (b - n) []

  run_at : get_or (replicate n x ++ ys) b [] ≡ choose (ltb b n) x (get_or ys (b - n) [])
  run_at =
      ⊎_elim (λ h. rw h (inside_run (leb-true (suc b) n h))) (λ h. let l = leb-false (suc b) n h in rw h (behind_run (omega arith)))
      (either (ltb b n))

laid_block : (rs : List Run) (b : ℕ) → get_or (laid_out rs) b [] ≡ block_in rs b
unfolding laid_out block_in
laid_block [] b = refl
laid_block (r ∷ rs) b = run_at r.times r.block (laid_out rs) b ∙ rw (laid_block rs (b - r.times))

-- ---- the sample's
zeros_length : length zeros ≡ 4096
unfolding zeros
zeros_length = refl

-- one each for the runs in their order
runs_whole : Whole (List.map (λ r. r.block) runs)
unfolding
    runs superblock pack journal sit_block nat_block root_inode file_inode inline_inode dots_block dentry_block
    folder_inode inner_inode inner_block data_block filled bytes_of
runs_whole =
    refl then refl then zeros_length
    then refl then refl then refl then zeros_length
    then refl then zeros_length
    then refl then zeros_length
    then zeros_length
    then refl then refl then refl then refl then refl
    then refl then refl then refl then zeros_length then refl
    then none

sample_whole : Whole (laid_out runs)
sample_whole = laid_whole runs runs_whole

sample_count : count runs ≡ most_blocks
unfolding runs
sample_count = refl

pub image_length : length image ≡ most_blocks * 4096
unfolding image
image_length = rw (length_joined (laid_out runs) sample_whole, laid_count runs, sample_count)

pub image_shape : in_shape (length image) ≡ true
unfolding in_shape
image_shape = rw image_length

image_blocks : (b : ℕ) → block_of image b ≡ block_in runs b
unfolding image
image_blocks b = block_joined (laid_out runs) sample_whole b ∙ laid_block runs b

pub image_card : card_of image ≡ card
image_card = let e = ap (λ (n : ℕ). n / 4096) image_length in λ i. record { blocks = e i; block = λ b. image_blocks b i }
