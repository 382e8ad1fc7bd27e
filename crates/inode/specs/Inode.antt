-- What is read of an inode, and which inodes are read. "In an inode: mode 0 (16 bits; top four bits 4 directory, 8 regular), inline
-- byte 3, size 16 (64 bits), depth 72, directory level 347 (one byte)"
use Rattle.std.specs.Prelude.{ℕ, ◌-◌, ◌*◌, ◌/◌, ◌%◌, Bool, not, ◌&&◌, ◌||◌, List, get_or, ltb, leb, eqb}
use Rattle.field.specs.Number.{le16, le32, le64}
use Rattle.field.specs.Choice.{choose}
use Rattle.place.specs.Place.{last_index}
use Rattle.inode.specs.declared.Inode.{Inode}

unfoldable pub inode_of : List ℕ → Inode
inode_of block =
    record { mode = le16 block 0; inline = get_or block 3 0; size = le64 block 16; depth = le32 block 72; level = get_or block 347 0 }

-- ---- K4: contents that are in the inode itself

-- "inline data (inline bit 2)"
unfoldable pub has_inline_data : Inode → Bool
has_inline_data i = eqb (i.inline / 2 % 2) 1

-- "inline directories (bit 4)"
unfoldable pub has_inline_dentry : Inode → Bool
has_inline_dentry i = eqb (i.inline / 4 % 2) 1

-- of "inline bits 2, 4 and 20 hex clear, else 12" K4 leaves 20 hex: extra attributes
unfoldable pub has_extra_attr : Inode → Bool
has_extra_attr i = eqb (i.inline / 32 % 2) 1

-- "Both start one address word into the address area": "addresses from 360"
abbrev pub inline_start : ℕ
inline_start = 364

-- a file's room: "With 50 words kept for attributes that is 3,488 bytes, without them 3,688". Inline bit 1 keeps them.
unfoldable pub data_room : Inode → ℕ
data_room i = choose (eqb (i.inline % 2) 1) 3488 3688

-- "an inline directory always keeps the 50, attribute bit or not"
abbrev pub dentry_room : ℕ
dentry_room = 3488

-- ---- which inodes are read

-- "The root must be a directory .., else 12"; K7: "Each name but the last must be a directory, else 12"; "2 on a directory .. stay[s]
-- 12", and bit 20 hex; "A size above the room is 12."; "Depth over 63 ..: 12"; "refusal 12 for a level now starts at 31"
unfoldable pub is_directory : Inode → Bool
is_directory i =
    eqb (i.mode / 4096) 4 && not (has_inline_data i) && not (has_extra_attr i)
    && (not (has_inline_dentry i) || leb i.size dentry_room)
    && leb i.depth 63 && ltb i.level 31

-- ".. and the file regular .., else 12"; "4 on a regular file stay[s] 12", and bit 20 hex; "A size above the room is 12."
unfoldable pub is_regular : Inode → Bool
is_regular i =
    eqb (i.mode / 4096) 8 && not (has_inline_dentry i) && not (has_extra_attr i)
    && (not (has_inline_data i) || leb i.size (data_room i))

-- ---- how much of it there is

-- how many hash levels the code searches, and by which directory level: an inline directory as one level of level 0, whatever its own
-- numbers are
unfoldable pub levels_in : Inode → ℕ
levels_in i = choose (has_inline_dentry i) 1 i.depth

unfoldable pub dir_level_in : Inode → ℕ
dir_level_in i = choose (has_inline_dentry i) 0 i.level

-- "Inline bit 1 set: A = 873 addresses, else A = 923."
unfoldable pub addresses_in : Inode → ℕ
addresses_in i = choose (eqb (i.inline % 2) 1) 873 923

-- "Answer 3 if index × 4,096 ≥ size or the index is larger."
unfoldable pub is_past : Inode → ℕ → Bool
is_past i index = leb i.size (index * 4096) || ltb (last_index (addresses_in i)) index

-- "Count: the smaller of 4,096 and size − 4,096 × index."
unfoldable pub count_in : Inode → ℕ → ℕ
count_in i index = choose (leb 4096 (i.size - index * 4096)) 4096 (i.size - index * 4096)
