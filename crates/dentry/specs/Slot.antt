-- The slots of a directory block and of an inline directory.
use Rattle.std.specs.Prelude.{ℕ, zero, suc, ◌+◌, ◌*◌, ◌/◌, ◌≤◌, Bool, ◌&&◌, List, length, drop, ltb, leb, eqb}
use Rattle.field.specs.Number.{le16, le32}
use Rattle.field.specs.Map.{low_bit}
use Rattle.field.specs.Choice.{choose}
use Rattle.field.specs.Bytes.{same_at}
use Rattle.inode.specs.Inode.{inline_start}
use Rattle.dentry.specs.declared.Layout.{Layout}
use Rattle.dentry.specs.declared.Name.{Name}
use Rattle.dentry.specs.declared.Slot.{Slot}
use Rattle.dentry.specs.declared.Slot.TheVariants.{Free, Match, Other, Malformed}

-- the name that is sought, and its hash
pub record Wanted : Type 0 where
  pub hash : ℕ
  pub name : List ℕ

abbrev pub wanted : ℕ → List ℕ → Wanted
wanted hash name = record { hash = hash; name = name }

-- the same as the code has it
abbrev pub wanted_in : Name → Wanted
wanted_in n = wanted n.hash n.bytes.now

-- ---- where slots are

-- "A block has 214 slots: map 27 bytes, 3 reserved, entries of 11 (hash, inode, 16-bit length, type) from 30, names of 8 bytes a slot
-- from 2,384."
abbrev pub block_layout : Layout
block_layout = record { start = 0; slots = 214; names = 2384 }

-- K4: "Its 3,488 bytes are a 23-byte map, 7 reserved, 182 entries, 182 name slots": entries from 30 here too
abbrev pub inline_layout : Layout
inline_layout = record { start = inline_start; slots = 182; names = 2032 }

abbrev pub layout_of : Bool → Layout
layout_of inline = choose inline inline_layout block_layout

-- what the code asks of a layout and of as many bytes: map, entries and names follow each other, and fit
pub record LayoutIn (l : Layout) (bytes : ℕ) : Type 0 where
  pub map : l.slots ≤ 240
  pub entries : 30 + 11 * l.slots ≤ l.names
  pub names : l.names + 8 * l.slots ≤ bytes

-- ---- what a slot holds, by the bytes from the start on

abbrev pub entry_at : ℕ → ℕ
entry_at slot = 30 + 11 * slot

abbrev pub length_in : List ℕ → ℕ → ℕ
length_in part slot = le16 part (entry_at slot + 8)

-- "⌈length/8⌉ slots"
abbrev pub slots_for : ℕ → ℕ
slots_for len = (len + 7) / 8

-- "A set one needs length 1 to 255 and ⌈length/8⌉ slots before the end"
unfoldable pub well_formed : Layout → ℕ → ℕ → Bool
well_formed l slot len = leb 1 len && leb len 255 && leb (slot + slots_for len) l.slots

-- "it matches by hash, length and bytes"
unfoldable pub matches : Layout → List ℕ → Wanted → ℕ → Bool
matches l part w slot =
    eqb (le32 part (entry_at slot)) w.hash && eqb (length_in part slot) (length w.name)
    && same_at part (l.names + 8 * slot) w.name

-- free, the name's inode number, another entry with its slots, or malformed
unfoldable pub slot_at : Layout → List ℕ → Wanted → ℕ → Slot
slot_at l part w slot =
    choose (eqb (low_bit part slot) 0) Free
    (choose (well_formed l slot (length_in part slot))
    (choose (matches l part w slot) (Match (le32 part (entry_at slot + 4))) (Other (slots_for (length_in part slot))))
    Malformed)

-- ---- what all slots come to

pub data Sought : Type 0 where
  absent : Sought
  found : ℕ → Sought
  malformed : Sought

-- "A clear bit moves on one slot"; "or the search moves past its slots": `next` seeks on from a slot
abbrev pub after_slot : (ℕ → Sought) → ℕ → Slot → Sought
after_slot next slot Free = next (slot + 1)
after_slot next slot (Match ino) = found ino
after_slot next slot (Other slots) = next (slot + slots)
after_slot next slot Malformed = malformed

-- "slots rising": from a slot on. Each step moves on by a slot at least, so as many steps as there are slots are enough for n, which
-- is there only so that the recursion ends
unfoldable pub slots_from : Layout → List ℕ → Wanted → ℕ → ℕ → Sought
slots_from l part w zero slot = absent
slots_from l part w (suc n) slot =
    choose (ltb slot l.slots) (after_slot (slots_from l part w n) slot (slot_at l part w slot)) absent

abbrev pub in_part : Layout → List ℕ → Wanted → Sought
in_part l part w = slots_from l part w l.slots 0

-- of a block, by a layout
abbrev pub in_slots : Layout → List ℕ → Wanted → Sought
in_slots l block w = in_part l (drop l.start block) w

-- of an inline directory, by the bytes of its inode
abbrev pub in_inode : List ℕ → Wanted → Sought
in_inode inode w = in_slots inline_layout inode w
