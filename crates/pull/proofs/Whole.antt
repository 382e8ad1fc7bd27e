-- A pull leaves the block buffer with as many bytes as it has: what is put into it are 4,096, also where they are an inode's own.
use Prim.Native.Nat.{ℕ, ◌-◌, ◌≤◌}
use native.Mathlib.Omega.{arith}
use mathlib.Core.Path.{◌≡◌, ◌∙◌}
use mathlib.Core.Bool.{true, false}
use mathlib.Core.List.{List}
use lib.ListN.{length, take, drop, replicate, length-append, length-drop, length-replicate}
use lib.Seq.{length-take-le}
use Rattle.field.specs.Card.{card_of}
use Rattle.field.proofs.Blocks.{length_block}
use Rattle.checkpoint.specs.declared.Volume.{Volume}
use Rattle.checkpoint.specs.Volume.{VolumeIn}
use Rattle.walk.specs.Walk.{View, view_of, empty, Outcome, ok, stop}
use Rattle.walk.proofs.Comes.{Comes, IfOk, comes_done, comes_stop, comes_if, comes_then, comes_map, comes_any}
use Rattle.inode.specs.Inode.{inode_of, has_inline_data, inline_start, is_regular, addresses_in, is_past, count_in}
use Rattle.inode.proofs.Counting.{count_in_block}
use Rattle.inode.proofs.Inline.{inline_room}
use Rattle.node.specs.Node.{Bounds, bounds_of}
use Rattle.node.specs.Block.{Fetched, hole, held}
use Rattle.node.proofs.Sizes.{in_card_lem}
use Rattle.node.proofs.Whole.{WholeMain, HeldWhole, node_whole, block_whole}
use Rattle.path.specs.Path.{parts_of}
use Rattle.path_lookup.specs.Lookup.{ino_of_root, names_walk}
use Rattle.pull.specs.Walk.{Block, counted, content_walk, at_file, file_walk, named_file_walk, pull_walk}
use Rattle.pull.specs.Pull.{content_bytes, buffer_after, pull_run}

-- the bytes that are there are at least as many as are counted, and at most 4,096 are
abbrev pub Enough : ℕ → Fetched → Type 0
Enough count hole = count ≤ 4096
Enough count (held block) = (count ≤ 4096) × (count ≤ length block)

abbrev HasEnough : Block → Type 0
HasEnough b = Enough b.count b.content

-- ---- what the walk of a pull comes to
module _ (v : View) (m : Bounds) (whole : WholeMain v m) (index : ℕ) where
  fetched_enough : (count : ℕ) → count ≤ 4096 → (f : Fetched) → HeldWhole f → Enough count f
  fetched_enough count c hole h = c
  fetched_enough count c (held block) h = (c, omega arith)

  at_file_enough : (ino : ℕ) (inode : List ℕ) → length inode ≡ 4096 → Comes v HasEnough (at_file m index ino inode)
  unfolding at_file content_walk
  at_file_enough ino inode size =
      comes_if (is_regular (inode_of inode))
      (λ regular.
      comes_if (is_past (inode_of inode) index) (λ _. comes_stop 3)
      (λ inside.
      comes_then (counted (count_in (inode_of inode) index)) (content inside regular)
      (λ f q. comes_done (ok (record { count = count_in (inode_of inode) index; content = f })) q)))
      (λ _. comes_stop 12)
    where
      in_inode_lem : is_past (inode_of inode) index ≡ false → is_regular (inode_of inode) ≡ true → has_inline_data (inode_of inode) ≡ true
          → Enough (count_in (inode_of inode) index) (held (drop inline_start inode))
      in_inode_lem inside regular own =
          let few = count_in_block (inode_of inode) index inside in
          let fits = inline_room (inode_of inode) regular own index inside in
          let left = length-drop inline_start inode in
          (few.1, omega arith)

      content : is_past (inode_of inode) index ≡ false → is_regular (inode_of inode) ≡ true
          → Comes v (Enough (count_in (inode_of inode) index)) (content_walk m index ino inode)
      content inside regular =
          comes_if (has_inline_data (inode_of inode)) (λ own. comes_done (ok (held (drop inline_start inode))) (in_inode_lem inside regular own))
          (λ _.
          comes_map (fetched_enough _ (count_in_block (inode_of inode) index inside).1)
          (block_whole v m whole ino inode (addresses_in (inode_of inode)) index))

  pull_enough : (path : List ℕ) → Comes v HasEnough (pull_walk m path index)
  unfolding pull_walk named_file_walk file_walk
  pull_enough path =
      comes_then (file_walk m index) (comes_any (names_walk m (parts_of path) ino_of_root))
      (λ ino _. comes_then (at_file m index ino) (node_whole v m whole ino ino 0) (at_file_enough ino))

-- ---- the buffer
content_length : (count : ℕ) (f : Fetched) → Enough count f → length (content_bytes count f) ≡ 4096
content_length count hole h = length-replicate {A = ℕ} 4096 0
content_length count (held block) h =
    length-append (take count block) (replicate (4096 - count) 0)
    ∙ rw (length-take-le count block h.1, length-replicate {A = ℕ} (4096 - count) 0) (omega arith)

pub buffer_length : (image : List ℕ) (v : Volume) → VolumeIn (card_of image) v → (path : List ℕ) (index : ℕ) (buffer : List ℕ) → length buffer ≡ 4096
    → length (buffer_after (pull_run (card_of image) v path index).value buffer) ≡ 4096
unfolding pull_run
buffer_length image v known path index buffer size = go (pull_run (card_of image) v path index).value ((pull_enough _ _ whole index path).value empty)
  where
    whole : WholeMain (view_of (card_of image) v) (bounds_of v)
    whole b inside = length_block image b (in_card_lem b inside known)

    go : (o : Outcome Block) → IfOk HasEnough o → length (buffer_after o buffer) ≡ 4096
    go (ok b) h = content_length b.count b.content h
    go (stop answer) h = size
