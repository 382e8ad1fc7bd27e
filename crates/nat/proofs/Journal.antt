-- K9: the journal of an opened volume names no number twice. So whatever entry of it has a number says what the volume says of it, and
-- if none has it the table does: a reader may search the journal in any order.
use mathlib.Core.Path.{◌≡◌, ap}
use mathlib.Core.Bool.{true}
use mathlib.Core.List.{List}
use Rattle.std.specs.Prelude.{Some, None}
use Prim.Native.Nat.{ℕ, ◌+◌, ◌<◌}
use Rattle.field.specs.Number.{le16}
use Rattle.field.specs.Card.{Card}
use Rattle.journal.specs.Journal.{entry_start, number_of}
use Rattle.journal.proofs.Once.{only_entry, no_entry}
use Rattle.checkpoint.specs.declared.Volume.{Volume}
use Rattle.checkpoint.specs.Volume.{VolumeIn, journal_of}
use Rattle.nat.specs.Table.{Entry, in_range, in_table, table_answer}
use Rattle.nat.specs.Entry.{inode_at, address_at, entry_at, held_at, in_journal}

module _ (card : Card) (v : Volume) (inside : VolumeIn card v) where
  abbrev journal : List ℕ
  journal = journal_of card v

  module _ (i number : ℕ) (counted : i < le16 journal 0) (named : number_of 13 journal i ≡ number) where
    -- the entry's inode and address
    abbrev inode : ℕ
    inode = inode_at journal (entry_start 13 i + 4)

    abbrev address : ℕ
    address = address_at journal (entry_start 13 i + 4)

    held : in_journal journal number ≡ Some (entry_at journal (entry_start 13 i + 4))
    unfolding in_journal
    held = ap (held_at journal) (only_entry 13 journal inside.journal_once i number counted named)

    pub any_entry_decides : in_range v number ≡ true → table_answer card v number ≡ Entry inode address
    unfolding table_answer
    any_entry_decides r = rw (r, held)

module _ (card : Card) (v : Volume) (number : ℕ) (none : (i : ℕ) → i < le16 (journal_of card v) 0 → number_of 13 (journal_of card v) i ≡ number → ⊥)
  where
    absent : in_journal (journal_of card v) number ≡ None
    unfolding in_journal
    absent = ap (held_at (journal_of card v)) (no_entry 13 (journal_of card v) number none)

    pub no_entry_decides : in_range v number ≡ true → table_answer card v number ≡ in_table card v number
    unfolding table_answer
    no_entry_decides r = rw (r, absent)
