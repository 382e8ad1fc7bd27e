-- The scan of a block's slots, or of an inline directory's in its inode, as it crosses, in the answer numbers of document 01: 0 and the
-- inode number in the name's entry, 2 "no such name" among these slots, 14 "malformed directory slot", 4 for bytes that are no block
-- or a bad name.
use Rattle.std.specs.Prelude.{ℕ, Bool, ◌&&◌, List, length, drop, eqb}
use Rattle.field.specs.Choice.{choose}
use Rattle.name_hash.specs.Name.{is_name}
use Rattle.name_hash.specs.Hash.{hash_of}
use Rattle.dentry.specs.declared.Layout.{Layout}
use Rattle.dentry.specs.Slot.{Wanted, wanted, Sought, absent, found, malformed, in_slots}
use Rattle.dentry.specs.Scan.{turns_in}
use Rattle.scan_export.specs.declared.Scanned.{Scanned}

abbrev pub crossing : Sought → ℕ → Scanned
crossing absent turns = record { answer = 2; inode = 0; turns = turns }
crossing (found ino) turns = record { answer = 0; inode = ino; turns = turns }
crossing malformed turns = record { answer = 14; inode = 0; turns = turns }

-- the name that a call seeks
abbrev pub seeks : List ℕ → Wanted
seeks name = wanted (hash_of name) name

abbrev pub is_scan : List ℕ → List ℕ → Bool
is_scan block name = eqb (length block) 4096 && is_name name

unfoldable pub scanned : Layout → List ℕ → List ℕ → Scanned
scanned l block name =
    choose (is_scan block name) (crossing (in_slots l block (seeks name)) (turns_in l (drop l.start block) (seeks name)))
    (record { answer = 4; inode = 0; turns = 0 })
