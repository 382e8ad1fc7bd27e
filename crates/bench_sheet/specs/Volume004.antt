-- Source 004's 100 MB volume: its superblock as 004 dumps it.
use Rattle.std.specs.Prelude.{List, [], ◌∷◌, ◌++◌, ℕ, replicate}
use Rattle.field.specs.Card.{Card}
use Rattle.list.specs.Lists.{bytes_of}
use Rattle.superblock.specs.declared.Areas.{Areas}
use Rattle.superblock.specs.Areas.{Found, At, Refused}

-- its first 108 bytes, four a number
abbrev pub words : List ℕ
words =
    -- the mark; version 1.16; logs of sector, sectors a block, block and segment; segments a section, sections a zone; block count
    (0xF2F52010 ∷ 0x100001 ∷ 9 ∷ 3 ∷ 12 ∷ 9 ∷ 1 ∷ 1 ∷ 0 ∷ 25600 ∷ 0 ∷ [])
    -- sections; segments: all, checkpoint, SIT, NAT, SSA, main
    ++ (42 ∷ 49 ∷ 2 ∷ 2 ∷ 2 ∷ 1 ∷ 42 ∷ [])
    -- addresses: segment 0, checkpoint, SIT, NAT, SSA, main; inodes: root, node, meta
    ++ (512 ∷ 512 ∷ 1536 ∷ 2560 ∷ 3584 ∷ 4096 ∷ 3 ∷ 1 ∷ 2 ∷ [])

-- the whole copy, with a payload and a feature word
abbrev pub superblock : ℕ → ℕ → List ℕ
superblock payload feature =
    bytes_of words ++ replicate 1556 0 ++ bytes_of (payload ∷ []) ++ replicate 512 0 ++ bytes_of (feature ∷ []) ++ replicate 888 0

-- a card of its size, with two such copies, each 1,024 bytes into its block
abbrev pub card004 : (ℕ → List ℕ) → Card
card004 copy = record { blocks = 25600; block = λ b. replicate 1024 0 ++ copy b }

-- the main area that was found, or the answer
abbrev pub main_numbers : Found → List ℕ
main_numbers (At a) = a.main ∷ a.main_segments ∷ a.main_end ∷ []
main_numbers (Refused answer) = answer ∷ []
