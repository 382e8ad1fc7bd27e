-- File place (document 01): which node holds the address of a file's block, and the slots that lead to it.
-- "Other nodes hold 1,018 numbers": so 1,018 blocks lie below a direct node, 1,018² = 1,036,324 below an indirect one and
-- 1,018³ = 1,054,977,832 below the double indirect one.
use Rattle.std.specs.Prelude.{ℕ, ◌+◌, ◌-◌, ◌*◌, ◌/◌, ◌%◌, ◌<◌, ltb}
use Rattle.field.specs.Choice.{choose}
use Rattle.place.specs.declared.Place.{Place}
use Rattle.place.specs.declared.Place.TheVariants.{Inode, Direct, Indirect, Double, Past}

-- "The five are two direct nodes, two indirect, one double indirect", here from the last to the first: i counts from the
-- first block that the double indirect node leads to, then from the first of the indirect nodes, then of the direct ones
abbrev pub in_double : ℕ → Place
in_double i = choose (ltb i 1054977832) (Double (i / 1036324) (i % 1036324 / 1018) (i % 1018)) Past

abbrev pub in_indirect : ℕ → Place
in_indirect i = choose (ltb i 2072648) (Indirect (i / 1036324) (i % 1036324 / 1018) (i % 1018)) (in_double (i - 2072648))

abbrev pub in_direct : ℕ → Place
in_direct i = choose (ltb i 2036) (Direct (i / 1018) (i % 1018)) (in_indirect (i - 2036))

-- the place of a block index, where the inode holds A addresses
unfoldable pub place_of : ℕ → ℕ → Place
place_of A index = choose (ltb index A) (Inode index) (in_direct (index - A))

-- "Indexes run to A + 1,057,052,515."
abbrev pub last_index : ℕ → ℕ
last_index A = A + 1057052515

-- the index that a place is for; Past stands for the first index behind the last
abbrev pub index_of : ℕ → Place → ℕ
index_of A (Inode s) = s
index_of A (Direct n s) = A + (1018 * n + s)
index_of A (Indirect n k s) = A + 2036 + (1036324 * n + (1018 * k + s))
index_of A (Double n k s) = A + 2074684 + (1036324 * n + (1018 * k + s))
index_of A Past = A + 1057052516

-- each node and slot of a place is one that there is
abbrev pub SlotsIn : ℕ → Place → Type 0
SlotsIn A (Inode s) = s < A
SlotsIn A (Direct n s) = (n < 2) × (s < 1018)
SlotsIn A (Indirect n k s) = (n < 2) × (k < 1018) × (s < 1018)
SlotsIn A (Double n k s) = (n < 1018) × (k < 1018) × (s < 1018)
SlotsIn A Past = Unit {0}

-- the nodes on the way are ones that there are, whatever the slot taken in the last
abbrev pub NodesIn : Place → Type 0
NodesIn (Inode s) = Unit {0}
NodesIn (Direct n s) = n < 2
NodesIn (Indirect n k s) = (n < 2) × (k < 1018)
NodesIn (Double n k s) = (n < 1018) × (k < 1018)
NodesIn Past = Unit {0}
