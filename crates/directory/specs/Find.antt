-- The search of a name in a directory: levels, in each its bucket's blocks, in each its slots; in an inline directory, the slots of its inode.
use Rattle.std.specs.Prelude.{ℕ, zero, suc, ◌+◌, Bool, List, eqb, Result, Ok, Err}
use Rattle.answer.specs.declared.Stop.{Stop}
use Rattle.answer.specs.Number.{stop_number}
use Rattle.field.specs.Choice.{choose}
use Rattle.walk.specs.Walk.{Walk, done, Outcome, ok, stop, and_then}
use Rattle.node.specs.Node.{Bounds, bounds_of}
use Rattle.node.specs.Found.{inode_of}
use Rattle.node.specs.Block.{Fetched, hole, held, block_walk}
use Rattle.hash_level.specs.Level.{blocks_of, bucket_of}
use Rattle.directory.specs.declared.dir.Directory as code
use Rattle.dentry.specs.Slot.{layout_of, Wanted, Sought, absent, found, malformed, in_slots, in_inode}

-- a directory: the main area bounds, its inode's number and bytes, how many addresses the inode holds, whether it is inline, and its
-- directory level
pub record Directory : Type 0 where
  pub bounds : Bounds
  pub ino : ℕ
  pub inode : List ℕ
  pub addresses : ℕ
  pub inline : Bool
  pub dir_level : ℕ

abbrev pub directory : Bounds → ℕ → List ℕ → ℕ → Bool → ℕ → Directory
directory m ino inode A inline dir =
    record { bounds = m; ino = ino; inode = inode; addresses = A; inline = inline; dir_level = dir }

-- the directory that the code has
abbrev pub directory_of : code.Directory → Directory
directory_of d = directory (bounds_of d.file.card.volume) d.file.ino (inode_of d.file) d.file.addresses d.inline d.dir_level

-- its block of an index. K4: of an inline directory the inode's own is the first, and there is no other
unfoldable pub fetch_from : Bool → Bounds → ℕ → List ℕ → ℕ → ℕ → Walk (Outcome Fetched)
fetch_from inline m ino inode A index =
    choose inline (done (ok (choose (eqb index 0) (held inode) hole))) (block_walk m ino inode A index)

abbrev pub fetch_walk : Directory → ℕ → Walk (Outcome Fetched)
fetch_walk d index = fetch_from d.inline d.bounds d.ino d.inode d.addresses index

-- "stopping at the first match"; 14 is "malformed directory slot"
abbrev pub after_slots : Walk (Outcome ℕ) → Sought → Walk (Outcome ℕ)
after_slots rest absent = rest
after_slots rest (found ino) = done (ok ino)
after_slots rest malformed = done (stop 14)

-- "A hole is an empty block"
unfoldable pub after_block : Bool → Wanted → Walk (Outcome ℕ) → Fetched → Walk (Outcome ℕ)
after_block inline w rest hole = rest
after_block inline w rest (held block) = after_slots rest (in_slots (layout_of inline) block w)

-- "its blocks in order": n blocks of a level's bucket from block k on, and then `rest`
unfoldable pub bucket_walk : Directory → Wanted → ℕ → Walk (Outcome ℕ) → ℕ → ℕ → Walk (Outcome ℕ)
bucket_walk d w level rest zero k = rest
bucket_walk d w level rest (suc n) k =
    and_then (fetch_walk d (bucket_of d.dir_level level w.hash + k)) (after_block d.inline w (bucket_walk d w level rest n (k + 1)))

-- n levels from a level on; 2 is "no such name"
unfoldable pub levels_walk : Directory → Wanted → ℕ → ℕ → Walk (Outcome ℕ)
levels_walk d w zero level = done (stop 2)
levels_walk d w (suc n) level = bucket_walk d w level (levels_walk d w n (level + 1)) (blocks_of level) 0

-- "Search levels 0 to depth − 1": the inode number in the name's entry. K4: an inline directory's slots are "scanned at any depth up to
-- 63", and there is "no data block of its own" to read
unfoldable pub find_walk : Directory → Wanted → ℕ → Walk (Outcome ℕ)
find_walk d w depth =
    choose d.inline (after_slots (done (stop 2)) (in_inode d.inode w)) (levels_walk d w depth 0)

-- the code's answer as the walk's
abbrev pub entry_of : Result ℕ Stop → Outcome ℕ
entry_of (Ok ino) = ok ino
entry_of (Err e) = stop (stop_number e)
