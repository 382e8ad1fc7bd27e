-- Opening as a tree: the superblock's copies, the two packs by their first and last blocks, the journal. `k` is what follows.
use Rattle.std.specs.Prelude.{ℕ, ◌+◌, ◌-◌, Bool, true, false, List, drop, Option, Some, None}
use Rattle.field.specs.Card.{Card}
use Rattle.field.specs.Choice.{choose}
use Rattle.superblock.specs.declared.Areas.{Areas}
use Rattle.superblock.specs.Areas as f
use Rattle.superblock.specs.Superblock.{copy_of, superblock_of, passes}
use Rattle.superblock.specs.Areas.{Found, accepted}
use Rattle.checkpoint.specs.declared.Volume.{Volume}
use Rattle.checkpoint.specs.Checkpoint.{checkpoint_of}
use Rattle.checkpoint.specs.Pack.{first_passes, last_passes, newer, second_pack}
use Rattle.checkpoint.specs.Volume.{Opening, Opened, Refused, header_readable, volume_of, journal_readable}
use Rattle.asking.specs.Asking.{Asking, ask}
use Rattle.asking.specs.Table.{Kept, keeping, journal_in, kept_of}

-- what opening comes to: what is kept of an opened card, or the answer that refuses it
pub data Opens : Type 0 where
  opens : Kept → Opens
  refuses : ℕ → Opens

-- the same of a card
abbrev pub opens_of : Card → Opening → Opens
opens_of card (Opened v) = opens (kept_of card v)
opens_of card (Refused n) = refuses n

-- a pack that was tried: its first block, if it passes
abbrev pub tried_by : Bool → List ℕ → Option (List ℕ)
tried_by true first = Some first
tried_by false first = None

-- "block total − 1" of a pack
abbrev pub last_of : ℕ → List ℕ → ℕ
last_of start first = start + ((checkpoint_of first).cp_pack_total_block_count - 1)

module _ {A : Type 0} (k : Opens → Asking A) where
  -- the journal's block came: 8 unless it is readable
  unfoldable pub journal_came : Volume → List ℕ → List ℕ → Asking A
  journal_came v first block =
      choose (journal_readable (drop v.journal_at block)) (k (opens (keeping v first (journal_in v.journal_at block)))) (k (refuses 8))

  -- the pack is chosen: 8 unless its header is readable
  unfoldable pub journal_ask : Areas → ℕ → List ℕ → Asking A
  journal_ask a start first =
      choose (header_readable a (checkpoint_of first))
      (ask (volume_of a start (checkpoint_of first)).journal_block (journal_came (volume_of a start (checkpoint_of first)) first)) (k (refuses 8))

  -- which pack, by what was tried; 7 is "no checkpoint pack passes"
  unfoldable pub choose_pack : Areas → Option (List ℕ) → Option (List ℕ) → Asking A
  choose_pack a (Some one) (Some two) =
      choose (newer (checkpoint_of one) (checkpoint_of two)) (journal_ask a (second_pack a.checkpoint) two) (journal_ask a a.checkpoint one)
  choose_pack a (Some one) None = journal_ask a a.checkpoint one
  choose_pack a None (Some two) = journal_ask a (second_pack a.checkpoint) two
  choose_pack a None None = k (refuses 7)

  -- the second pack's last block came
  abbrev pub two_last : Areas → Option (List ℕ) → List ℕ → List ℕ → Asking A
  two_last a one first last = choose_pack a one (tried_by (last_passes last (checkpoint_of first).checkpoint_ver) first)

  -- its first block came
  unfoldable pub two_first : Areas → Option (List ℕ) → List ℕ → Asking A
  two_first a one first = choose (first_passes first) (ask (last_of (second_pack a.checkpoint) first) (two_last a one first)) (choose_pack a one None)

  abbrev pub two_ask : Areas → Option (List ℕ) → Asking A
  two_ask a one = ask (second_pack a.checkpoint) (two_first a one)

  -- the same of the first pack, and then the second
  abbrev pub one_last : Areas → List ℕ → List ℕ → Asking A
  one_last a first last = two_ask a (tried_by (last_passes last (checkpoint_of first).checkpoint_ver) first)

  unfoldable pub one_first : Areas → List ℕ → Asking A
  one_first a first = choose (first_passes first) (ask (last_of a.checkpoint first) (one_last a first)) (two_ask a None)

  -- the areas are found, or 6
  abbrev pub areas_ask : Found → Asking A
  areas_ask (f.At a) = ask a.checkpoint (one_first a)
  areas_ask (f.Refused n) = k (refuses n)

  -- the copy in block 1 came, of a card of so many blocks; 5 is "no superblock copy passes"
  unfoldable pub second_copy_after : ℕ → List ℕ → Asking A
  second_copy_after blocks block = choose (passes blocks (copy_of block)) (areas_ask (accepted (superblock_of (copy_of block)))) (k (refuses 5))

  -- the copy in block 0 came
  unfoldable pub first_copy_after : ℕ → List ℕ → Asking A
  first_copy_after blocks block =
      choose (passes blocks (copy_of block)) (areas_ask (accepted (superblock_of (copy_of block)))) (ask 1 (second_copy_after blocks))

  -- opening a card of so many blocks
  unfoldable pub open_ask : ℕ → Asking A
  open_ask blocks = ask 0 (first_copy_after blocks)
