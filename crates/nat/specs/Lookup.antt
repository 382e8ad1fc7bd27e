-- Node lookup as a call on an image: the numbers that cross to C.
use Rattle.std.specs.Prelude.{List, ℕ}
use Rattle.field.specs.Card.{Card, card_of}
use Rattle.checkpoint.specs.Volume.{Opening, Opened, Refused, opened_image}
use Rattle.nat.specs.Table.{TableAnswer, OutOfRange, Entry, table_answer}
use Rattle.nat.specs.declared.Lookup.{Lookup}

-- "9 if out of range, else 0 with the table's inode and address as stored"; "a result number that the answer doesn't name .. is 0"
abbrev pub table_numbers : TableAnswer → Lookup
table_numbers OutOfRange = record { answer = 9; inode = 0; address = 0 }
table_numbers (Entry i a) = record { answer = 0; inode = i; address = a }

-- "4 to 8 as a pull"
abbrev pub lookup_in : Card → ℕ → Opening → Lookup
lookup_in card number (Opened v) = table_numbers (table_answer card v number)
lookup_in card number (Refused n) = record { answer = n; inode = 0; address = 0 }

-- what Node lookup answers of an image and a number
unfoldable pub lookup_of : List ℕ → ℕ → Lookup
lookup_of image number = lookup_in (card_of image) number (opened_image image)
