-- Fed a card's blocks, a tree comes to what the walk comes to that it was made of; opening likewise.
use Prim.Native.Nat.{ℕ, ◌≤◌}
use mathlib.Core.Path.{◌≡◌, refl, ◌∙◌}
use mathlib.Core.Bool.{Bool, true, false, ◌&&◌}
use mathlib.Core.List.{List}
use Rattle.std.proofs.Common.{Option, Some, None}
use Rattle.field.specs.Number.{le16}
use Rattle.field.specs.Card.{Card}
use Rattle.field.specs.Choice.{choose}
use Rattle.superblock.specs.declared.Areas.{Areas}
use Rattle.superblock.specs.Areas as f
use Rattle.superblock.specs.Superblock.{copy_passes}
use Rattle.superblock.specs.Areas.{Found, accepted_copy, found}
use Rattle.checkpoint.specs.declared.Volume.{Volume}
use Rattle.checkpoint.specs.Checkpoint.{header_of}
use Rattle.checkpoint.specs.Pack.{first_passes, last_passes, last_block, pack_passes, newer, second_pack, chosen}
use Rattle.checkpoint.specs.Volume.{Opening, Opened, Refused, header_readable, volume_of, journal_of, journal_readable}
use Rattle.checkpoint.specs.Volume.{open_pack, open_chosen, open_areas, opened}
use Rattle.nat.specs.declared.Entry.{Entry}
use Rattle.nat.specs.Entry.{in_journal}
use Rattle.nat.specs.Table.{TableAnswer, OutOfRange, in_range, table_address, in_table, or_table, table_answer}
use Rattle.walk.specs.Walk.{Seen, saw_node, saw_block, Walk, done, look, read, Ran, run, view_of}
use Rattle.asking.specs.Asking.{Asking, ask, fed}
use Rattle.asking.specs.Table.{kept_of, address_for, or_ask, lookup, asking}
use Rattle.asking.specs.Open.{Opens, opens, refuses, opens_of, tried_by, journal_came, journal_ask, choose_pack}
use Rattle.asking.specs.Open.{two_last, two_first, two_ask, one_last, one_first, areas_ask, second_copy_after, first_copy_after, open_ask}
use Rattle.asking.proofs.Journal.{short_journal}

-- ---- a walk
module _ (card : Card) (v : Volume) (few : le16 (journal_of card v) 0 ≤ 38) where
  fed_said : {A : Type 0} (n : ℕ) (k : TableAnswer → Asking A) (j : Option Entry)
      → fed card.block (or_ask (kept_of card v) n k j) ≡ fed card.block (k (or_table j (in_table card v n)))
  unfolding fed in_table address_for table_address
  fed_said n k (Some entry) = refl
  fed_said n k None = refl

  fed_lookup : {A : Type 0} (n : ℕ) (k : TableAnswer → Asking A)
      → fed card.block (lookup (kept_of card v) n k) ≡ fed card.block (k (table_answer card v n))
  unfolding lookup table_answer
  fed_lookup n k = go (in_range v n)
    where
      go : (t : Bool) → fed card.block (choose t (or_ask (kept_of card v) n k (in_journal (kept_of card v).journal n)) (k OutOfRange))
          ≡ fed card.block (k (choose t (or_table (in_journal (journal_of card v) n) (in_table card v n)) OutOfRange))
      go true = rw (short_journal (journal_of card v) few n) (fed_said n k (in_journal (journal_of card v) n))
      go false = refl

  -- the main law: a walk that asks for blocks alone comes to what the walk comes to, with its lists
  pub fed_asking : {A B : Type 0} (end : Ran A → B) (s : Seen) (w : Walk A)
      → fed card.block (asking (kept_of card v) end s w) ≡ end (run (view_of card v) s w)
  unfolding fed asking run
  fed_asking end s (done a) = refl
  fed_asking end s (look n k) =
      fed_lookup n (λ e. asking (kept_of card v) end (saw_node n s) (k e)) ∙ fed_asking end (saw_node n s) (k (table_answer card v n))
  fed_asking end s (read b k) = fed_asking end (saw_block b s) (k (card.block b))

-- ---- opening
module _ {A : Type 0} (card : Card) (k : Opens → Asking A) where
  -- what follows once the opening is known
  abbrev follows : Opening → A
  follows o = fed card.block (k (opens_of card o))

  module _ (a : Areas) where
    -- the volume of the pack that starts at a block
    abbrev at_pack : ℕ → Volume
    at_pack start = volume_of a start (header_of card start)

    fed_journal : (start : ℕ) → fed card.block (journal_ask k a start (card.block start)) ≡ follows (open_pack card a start)
    unfolding fed journal_ask journal_came open_pack
    fed_journal start = go (header_readable a (header_of card start))
      where
        came : (j : Bool) → fed card.block (choose j (k (opens (kept_of card (at_pack start)))) (k (refuses 8)))
            ≡ follows (choose j (Opened (at_pack start)) (Refused 8))
        came true = refl
        came false = refl

        go : (m : Bool)
            → fed card.block
            (choose m (ask (at_pack start).journal_block (journal_came k (at_pack start) (card.block start))) (k (refuses 8)))
            ≡ follows (choose (m && journal_readable (journal_of card (at_pack start))) (Opened (at_pack start)) (Refused 8))
        go true = came (journal_readable (journal_of card (at_pack start)))
        go false = refl

    abbrev one : ℕ
    one = a.checkpoint

    abbrev two : ℕ
    two = second_pack a.checkpoint

    abbrev wins : Bool
    wins = newer (header_of card one) (header_of card two)

    -- which pack, by what was tried
    fed_choose : (p q : Bool) → fed card.block (choose_pack k a (tried_by p (card.block one)) (tried_by q (card.block two)))
        ≡ follows (open_chosen card a (choose p (choose (q && wins) (Some two) (Some one)) (choose q (Some two) None)))
    unfolding choose_pack
    fed_choose true true = go wins
      where
        go : (n : Bool) → fed card.block (choose n (journal_ask k a two (card.block two)) (journal_ask k a one (card.block one)))
            ≡ follows (open_chosen card a (choose n (Some two) (Some one)))
        go true = fed_journal two
        go false = fed_journal one
    fed_choose true false = fed_journal one
    fed_choose false true = fed_journal two
    fed_choose false false = refl

    -- the last block of a pack
    abbrev last_passes_lem : ℕ → Bool
    last_passes_lem start = last_passes (card.block (last_block card start)) (header_of card start).checkpoint_ver

    -- a pack is tried by its first block, and if that passes by its last one
    fed_two : (t : Option (List ℕ)) → fed card.block (two_ask k a t) ≡ fed card.block (choose_pack k a t (tried_by (pack_passes card two) (card.block two)))
    unfolding fed two_first pack_passes
    fed_two t = go (first_passes (card.block two))
      where
        go : (p : Bool) → fed card.block (choose p (ask (last_block card two) (two_last k a t (card.block two))) (choose_pack k a t None))
            ≡ fed card.block (choose_pack k a t (tried_by (p && last_passes_lem two) (card.block two)))
        go true = refl
        go false = refl

    fed_one : fed card.block (areas_ask k (f.At a)) ≡ fed card.block (two_ask k a (tried_by (pack_passes card one) (card.block one)))
    unfolding fed one_first pack_passes
    fed_one = go (first_passes (card.block one))
      where
        go : (p : Bool) → fed card.block (choose p (ask (last_block card one) (one_last k a (card.block one))) (two_ask k a None))
            ≡ fed card.block (two_ask k a (tried_by (p && last_passes_lem one) (card.block one)))
        go true = refl
        go false = refl

    fed_packs : fed card.block (areas_ask k (f.At a)) ≡ follows (open_areas card (f.At a))
    unfolding chosen
    fed_packs = fed_one ∙ fed_two (tried_by (pack_passes card one) (card.block one)) ∙ fed_choose (pack_passes card one) (pack_passes card two)

  fed_areas : (w : Found) → fed card.block (areas_ask k w) ≡ follows (open_areas card w)
  fed_areas (f.At a) = fed_packs a
  fed_areas (f.Refused n) = refl

  fed_second : fed card.block (second_copy_after k card.blocks (card.block 1))
      ≡ follows (open_areas card (choose (copy_passes card 1) (accepted_copy card 1) (f.Refused 5)))
  unfolding second_copy_after
  fed_second = go (copy_passes card 1)
    where
      go : (t : Bool) → fed card.block (choose t (areas_ask k (accepted_copy card 1)) (k (refuses 5)))
          ≡ follows (open_areas card (choose t (accepted_copy card 1) (f.Refused 5)))
      go true = fed_areas (accepted_copy card 1)
      go false = refl

  -- opening block by block goes on as opening the card does
  pub fed_open : fed card.block (open_ask k card.blocks) ≡ fed card.block (k (opens_of card (opened card)))
  unfolding fed open_ask first_copy_after opened found
  fed_open = go (copy_passes card 0)
    where
      go : (t : Bool) → fed card.block (choose t (areas_ask k (accepted_copy card 0)) (ask 1 (second_copy_after k card.blocks)))
          ≡ follows (open_areas card (choose t (accepted_copy card 0) (choose (copy_passes card 1) (accepted_copy card 1) (f.Refused 5))))
      go true = fed_areas (accepted_copy card 0)
      go false = fed_second
