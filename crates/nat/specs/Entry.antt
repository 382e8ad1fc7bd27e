-- Entries of the node address table (NAT), in the checkpoint's journal and in the table.
use Rattle.std.specs.Prelude.{List, ℕ, ◌+◌, Option, Some, None}
use Rattle.field.specs.Number.{le32}
use Rattle.journal.specs.Journal.{journal_find}
use Rattle.nat.specs.declared.Entry.{Entry}

-- "entries of 9 bytes: version, inode, address": a table answer is "these two numbers without the version byte"
abbrev pub inode_at : List ℕ → ℕ → ℕ
inode_at bytes at = le32 bytes (at + 1)

abbrev pub address_at : List ℕ → ℕ → ℕ
address_at bytes at = le32 bytes (at + 5)

abbrev pub entry_at : List ℕ → ℕ → Entry
entry_at bytes at = record { inode = inode_at bytes at; address = address_at bytes at }

-- what the search of a journal came to: "13-byte entries: number, then a NAT entry"
abbrev pub held_at : List ℕ → Option ℕ → Option Entry
held_at journal (Some at) = Some (entry_at journal (at + 4))
held_at journal None = None

-- what a journal says of a number
unfoldable pub in_journal : List ℕ → ℕ → Option Entry
in_journal journal number = held_at journal (journal_find 13 journal number)
