-- The leaf of a place: the node that holds the block's address, the last one on the way. The blocks of a leaf follow each other in the file.
use Rattle.std.specs.Prelude.{ℕ, ◌+◌}
use Rattle.place.specs.declared.Place.{Place}
use Rattle.place.specs.declared.Place.TheVariants.{Inode, Direct, Indirect, Double, Past}

-- the first place of the same leaf, by which leaves are told apart
abbrev pub leaf_of : Place → Place
leaf_of (Inode s) = Inode 0
leaf_of (Direct n s) = Direct n 0
leaf_of (Indirect n k s) = Indirect n k 0
leaf_of (Double n k s) = Double n k 0
leaf_of Past = Past

-- which of its leaf's addresses is the block's
abbrev pub slot_of : Place → ℕ
slot_of (Inode s) = s
slot_of (Direct n s) = s
slot_of (Indirect n k s) = s
slot_of (Double n k s) = s
slot_of Past = 0

-- how many addresses its leaf holds: the inode A, "other nodes hold 1,018 numbers"; behind the last index there is none
abbrev pub slots_of : ℕ → Place → ℕ
slots_of A (Inode s) = A
slots_of A (Direct n s) = 1018
slots_of A (Indirect n k s) = 1018
slots_of A (Double n k s) = 1018
slots_of A Past = 0

-- the next address of the same leaf
abbrev pub next_slot : Place → Place
next_slot (Inode s) = Inode (s + 1)
next_slot (Direct n s) = Direct n (s + 1)
next_slot (Indirect n k s) = Indirect n k (s + 1)
next_slot (Double n k s) = Double n k (s + 1)
next_slot Past = Past
