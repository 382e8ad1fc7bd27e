-- A walk as a tree that asks for blocks alone: a lookup becomes the journal's entry, or one block of the node address table.
use Rattle.std.specs.Prelude.{ℕ, ◌+◌, ◌*◌, ◌%◌, ◌≤◌, ◌≡◌, List, length, take, drop, Option, Some, None}
use Rattle.field.specs.Number.{le16}
use Rattle.field.specs.Map.{top_bit}
use Rattle.field.specs.Card.{Card}
use Rattle.field.specs.Choice.{choose}
use Rattle.checkpoint.specs.declared.Volume.{Volume}
use Rattle.nat.specs.declared.Entry.{Entry}
use Rattle.nat.specs.Entry.{in_journal}
use Rattle.nat.specs.Table.{TableAnswer, OutOfRange, answered, in_range, table_block, copy_address, nat_map_in, entry_in}
use Rattle.walk.specs.Walk.{Seen, saw_node, saw_block, Walk, done, look, read, Ran, ran}
use Rattle.asking.specs.Asking.{Asking, answer, ask}

-- What is kept of an opened card, so that no block of opening is asked for again: its volume, the first block of its pack, which has the
-- NAT map, and the NAT journal.
pub record Kept : Type 0 where
  pub volume : Volume
  pub first : List ℕ
  pub journal : List ℕ

abbrev pub keeping : Volume → List ℕ → List ℕ → Kept
keeping v first journal = record { volume = v; first = first; journal = journal }

-- a journal's bytes in its block: a count and at most 38 entries are 496 of them
abbrev pub journal_in : ℕ → List ℕ → List ℕ
journal_in at block = take 512 (drop at block)

abbrev pub kept_of : Card → Volume → Kept
kept_of card v = keeping v (card.block v.pack) (journal_in v.journal_at (card.block v.journal_block))

-- what a reader knows of it: the map lies in the block, the table has whole pairs of segments, and the journal can be searched
pub record KeptIn (t : Kept) : Type 0 where
  pub first_size : length t.first ≡ 4096
  pub map_inside : t.volume.nat_map + 32 * t.volume.areas.nat_segments ≤ 4092
  pub table_ends : t.volume.areas.ssa ≡ t.volume.areas.nat + 512 * t.volume.areas.nat_segments
  pub nat_even : t.volume.areas.nat_segments % 2 ≡ 0
  pub journal_size : length t.journal ≡ 512
  pub journal_count : le16 t.journal 0 ≤ 38

-- the address of a number's table block
unfoldable pub address_for : Kept → ℕ → ℕ
address_for t number =
    copy_address t.volume.areas.nat (table_block number) (top_bit (nat_map_in t.volume t.first) (table_block number))

-- the journal's entry, or else the table's
abbrev pub or_ask : {A : Type 0} → Kept → ℕ → (TableAnswer → Asking A) → Option Entry → Asking A
or_ask t number k (Some entry) = k (answered entry)
or_ask t number k None = ask (address_for t number) (λ block. k (entry_in block number))

unfoldable pub lookup : {A : Type 0} → Kept → ℕ → (TableAnswer → Asking A) → Asking A
lookup t number k = choose (in_range t.volume number) (or_ask t number k (in_journal t.journal number)) (k OutOfRange)

-- a walk from what was seen; `end` makes an answer of what it comes to
unfoldable pub asking : {A B : Type 0} → Kept → (Ran A → B) → Seen → Walk A → Asking B
asking t end s (done a) = answer (end (ran a s))
asking t end s (look n k) = lookup t n (λ e. asking t end (saw_node n s) (k e))
asking t end s (read b k) = ask b (λ l. asking t end (saw_block b s) (k l))
