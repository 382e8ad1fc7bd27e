-- Node lookup: what an opened volume says of a node number.
use Rattle.std.specs.Prelude.{List, Bool, ◌&&◌, ℕ, ◌+◌, ◌-◌, ◌*◌, ◌/◌, ◌%◌, drop, leb, ltb, Option, Some, None}
use Rattle.field.specs.Map.{top_bit}
use Rattle.field.specs.Card.{Card}
use Rattle.field.specs.Choice.{choose}
use Rattle.checkpoint.specs.declared.Volume.{Volume}
use Rattle.checkpoint.specs.Volume.{journal_of}
use Rattle.nat.specs.declared.Entry as e
use Rattle.nat.specs.Entry.{inode_at, address_at, in_journal}

-- a table answer, a term of document 01: "9 if out of range", "or these two numbers without the version byte"
pub data TableAnswer : Type 0 where
  OutOfRange : TableAnswer
  Entry : ℕ → ℕ → TableAnswer

-- the code's answer as this: an entry that was found, or none
abbrev pub answered : e.Entry → TableAnswer
answered entry = Entry entry.inode entry.address

abbrev pub answer_in : Option e.Entry → TableAnswer
answer_in (Some entry) = answered entry
answer_in None = OutOfRange

-- "Valid numbers are 1 to 455 × 256 × NAT segments − 1."
unfoldable pub in_range : Volume → ℕ → Bool
in_range v number = leb 1 number && ltb number (455 * 256 * v.areas.nat_segments)

-- "A NAT block has 455 entries": "table block b = number / 455"
abbrev pub table_block : ℕ → ℕ
table_block number = number / 455

-- "it lies at NAT address + 2b − (b mod 512), plus 512 if bit b of the NAT map is set"
abbrev pub copy_address : ℕ → ℕ → ℕ → ℕ
copy_address nat b bit = nat + 2 * b - b % 512 + 512 * bit

-- the NAT map's bytes in the pack's first block, and what follows them there
abbrev pub nat_map_in : Volume → List ℕ → List ℕ
nat_map_in v first = drop v.nat_map first

abbrev pub nat_map_of : Card → Volume → List ℕ
nat_map_of card v = nat_map_in v (card.block v.pack)

-- the address of the copy of table block b that is in use
unfoldable pub table_address : Card → Volume → ℕ → ℕ
table_address card v b = copy_address v.areas.nat b (top_bit (nat_map_of card v) b)

-- the entry of a number in its table block: "455 entries of 9 bytes"
unfoldable pub entry_in : List ℕ → ℕ → TableAnswer
entry_in block number = Entry (inode_at block (9 * (number % 455))) (address_at block (9 * (number % 455)))

-- what the table says of a number
unfoldable pub in_table : Card → Volume → ℕ → TableAnswer
in_table card v number = entry_in (card.block (table_address card v (table_block number))) number

-- the journal comes before the table: "Otherwise table block .."
abbrev pub or_table : Option e.Entry → TableAnswer → TableAnswer
or_table (Some entry) other = answered entry
or_table None other = other

-- a number's table answer
unfoldable pub table_answer : Card → Volume → ℕ → TableAnswer
table_answer card v number = choose (in_range v number) (or_table (in_journal (journal_of card v) number) (in_table card v number)) OutOfRange
