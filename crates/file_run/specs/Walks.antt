-- The walks that fill a buffer with blocks of one file, and what the code asks of the file and the buffer.
use Rattle.std.specs.Prelude.{ℕ, ◌+◌, ◌*◌, ◌≤◌, ◌≡◌, List, ◌++◌, length, take, drop}
use Rattle.checkpoint.specs.OpenImage.{card_in}
use Rattle.walk.specs.Walk.{Walk, bind}
use Rattle.node.specs.declared.file.File.{File}
use Rattle.node.specs.Node.{Bounds, bounds_of, inode_walk}
use Rattle.pull.specs.Walk.{at_file}
use Rattle.file_run.specs.declared.BlockBuffer.{BlockBuffer}
use Rattle.file_run.specs.Standing.{Standing, many_walk, unless_stopped}

-- n blocks from an index on, of the file with these inode bytes
abbrev pub blocks_walk : Bounds → ℕ → List ℕ → ℕ → ℕ → Walk Standing
blocks_walk m ino inode n index = many_walk (λ j. at_file m j ino inode) n index

-- the same of a file of the code's
abbrev pub file_blocks_walk : File → ℕ → ℕ → Walk Standing
file_blocks_walk file n index = blocks_walk (bounds_of file.card.volume) file.ino ((card_in file.card).block file.inode) n index

-- of the file of an inode number, its inode walked to once
unfoldable pub file_run_walk : Bounds → ℕ → ℕ → ℕ → Walk Standing
file_run_walk m n index ino = bind (inode_walk m ino) (unless_stopped (λ inode. blocks_walk m ino inode n index))

-- a block's bytes put into a buffer from an offset on
abbrev pub put_at : ℕ → List ℕ → List ℕ → List ℕ
put_at at bytes buffer = take at buffer ++ (bytes ++ drop (at + 4096) buffer)

-- room for n blocks, 1 to 512
pub record RoomFor (n : ℕ) (buffer : List ℕ) : Type 0 where
  pub some : 1 ≤ n
  pub few : n ≤ 512
  pub room : 4096 * n ≤ length buffer

-- a buffer in which no block stands yet
pub record NoneStand (buffer : BlockBuffer) : Type 0 where
  pub none : buffer.count ≡ 0
  pub no_last : buffer.last ≡ 0
