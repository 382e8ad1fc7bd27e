-- The walk of a pull: the path's names from the root on, the file, the block of the index. "walks the root, then the file, and stops at
-- the first of 2, 3, 9 to 14 that it meets. At a node: 9, 10, then the block is read and listed, then 11, then 12, then 2 or 3."
use Rattle.std.specs.Prelude.{ℕ, ◌+◌, ◌≤◌, ◌≡◌, false, List, drop, Option, Some, None, Result, Ok, Err}
use Rattle.answer.specs.declared.Stop.{Stop}
use Rattle.answer.specs.Number.{stop_number}
use Rattle.field.specs.Card.{Card}
use Rattle.field.specs.Choice.{choose}
use Rattle.checkpoint.specs.declared.open_image.OpenImage.{OpenImage}
use Rattle.checkpoint.specs.OpenImage.{card_in}
use Rattle.walk.specs.Walk.{Walk, done, Outcome, ok, stop, and_then}
use Rattle.node.specs.declared.file.File.{File}
use Rattle.node.specs.Node.{Bounds, bounds_of, inode_walk}
use Rattle.node.specs.Block.{Fetched, hole, held, block_walk}
use Rattle.node.specs.Found.{BlockIn}
use Rattle.inode.specs.Inode.{inode_of, has_inline_data, inline_start, is_regular, addresses_in, is_past, count_in}
use Rattle.path.specs.Path.{parts_of}
use Rattle.path_lookup.specs.Lookup.{ino_of_root, names_walk}
use Rattle.pull.specs.declared.FileBlock.{FileBlock}
use Rattle.pull.specs.declared.file.OpenFile.{OpenFile}

-- a block of a file: how many of its bytes are the file's, and what it holds
pub record Block : Type 0 where
  pub count : ℕ
  pub content : Fetched

abbrev pub counted : ℕ → Fetched → Walk (Outcome Block)
counted count content = done (ok (record { count = count; content = content }))

-- K4: an inline file's bytes are the inode's own, "one address word into the address area", and "no data block" is read for them
unfoldable pub content_walk : Bounds → ℕ → ℕ → List ℕ → Walk (Outcome Fetched)
content_walk m index ino inode =
    choose (has_inline_data (inode_of inode)) (done (ok (held (drop inline_start inode))))
    (block_walk m ino inode (addresses_in (inode_of inode)) index)

unfoldable pub at_file : Bounds → ℕ → ℕ → List ℕ → Walk (Outcome Block)
at_file m index ino inode =
    choose (is_regular (inode_of inode))
    (choose (is_past (inode_of inode) index) (done (stop 3))
    (and_then (content_walk m index ino inode) (counted (count_in (inode_of inode) index))))
    (done (stop 12))

-- block `index` of the file of an inode number
unfoldable pub file_walk : Bounds → ℕ → ℕ → Walk (Outcome Block)
file_walk m index ino = and_then (inode_walk m ino) (at_file m index ino)

-- block `index` of the file that some names lead to, from the directory of an inode number
unfoldable pub named_file_walk : Bounds → List (List ℕ) → ℕ → ℕ → Walk (Outcome Block)
named_file_walk m names index ino = and_then (names_walk m names ino) (file_walk m index)

-- block `index` of the file that a path leads to, from the root
unfoldable pub pull_walk : Bounds → List ℕ → ℕ → Walk (Outcome Block)
pull_walk m path index = named_file_walk m (parts_of path) index ino_of_root

-- ---- what the code found

-- the bytes of a block on the card from a start on, or that it is a hole
abbrev pub content_at : Card → Option ℕ → ℕ → Fetched
content_at card None start = hole
content_at card (Some address) start = held (drop start (card.block address))

abbrev pub block_of : Card → FileBlock → Block
block_of card b = record { count = b.bytes; content = content_at card b.data b.start }

-- a block of the file, or the number of the answer that ended the walk to it
abbrev pub block_found : Card → Result FileBlock Stop → Outcome Block
block_found card (Ok b) = ok (block_of card b)
block_found card (Err e) = stop (stop_number e)

-- the same, where it is the number that came
abbrev pub block_ended : Card → Result FileBlock ℕ → Outcome Block
block_ended card (Ok b) = ok (block_of card b)
block_ended card (Err answer) = stop answer

-- it lies on the card, and the file's bytes lie in it
abbrev pub InBlock : Card → FileBlock → Type 0
InBlock card b = BlockIn card b.data × (b.start + b.bytes ≤ 4096)

-- ---- a file that is opened

-- block `index` of a file, once its inode is read
abbrev pub inode_file_walk : File → ℕ → Walk (Outcome Block)
inode_file_walk file index = at_file (bounds_of file.card.volume) index file.ino ((card_in file.card).block file.inode)

-- the file of an inode number, whose inode is a block of the card; or 12, of an inode that is no regular file's
abbrev pub FileOpened : OpenImage → ℕ → ℕ → Result OpenFile Stop → Type 0
FileOpened card ino at (Ok o) = (o.file.card ≡ card) × (o.file.ino ≡ ino) × (o.file.inode ≡ at)
FileOpened card ino at (Err e) = (stop_number e ≡ 12) × (is_regular (inode_of ((card_in card).block at)) ≡ false)
