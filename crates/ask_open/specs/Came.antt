-- What is left of opening when a block comes, by the stage that it is asked for in, and where opening goes then.
use Rattle.std.specs.Prelude.{ℕ, ◌+◌, ◌*◌, ◌%◌, ◌≤◌, ◌<◌, ◌≡◌, Bool, true, false, List}
use Rattle.answer.specs.Number.{refusal_number}
use Rattle.superblock.specs.declared.Areas.{Areas}
use Rattle.checkpoint.specs.declared.Volume.{Volume}
use Rattle.checkpoint.specs.Checkpoint.{checkpoint_of}
use Rattle.asking.specs.Asking.{Asking, ask}
use Rattle.asking.specs.Open.{Opens, refuses, tried_by, first_copy_after, second_copy_after, one_first, one_last, two_first, two_last, journal_came}
use Rattle.asking.specs.Pull.{Ending}
use Rattle.ask_open.specs.declared.Stage.{Stage}
use Rattle.ask_open.specs.declared.Stage.TheVariants.{FirstCopy, SecondCopy, OneFirst, OneLast, TwoFirst, TwoLast, Journal, Refused}
use Rattle.ask_open.specs.declared.Keep.{Keep}
use Rattle.ask_open.specs.declared.Keep.TheVariants.{Nothing, First, Second, SecondAsFirst}
use Rattle.ask_open.specs.declared.Opening.{Opening}

-- What a stage waits for: a copy of the superblock, a block of a pack, or the journal's. `first` is the first pack's first block, or the chosen
-- one's; `second` is the second pack's.
unfoldable pub open_came : (Opens → Asking Ending) → ℕ → Volume → List ℕ → List ℕ → Stage → List ℕ → Asking Ending
open_came k blocks v first second FirstCopy l = first_copy_after k blocks l
open_came k blocks v first second SecondCopy l = second_copy_after k blocks l
open_came k blocks v first second OneFirst l = one_first k v.areas l
open_came k blocks v first second OneLast l = one_last k v.areas first l
open_came k blocks v first second (TwoFirst passed) l = two_first k v.areas (tried_by passed first) l
open_came k blocks v first second (TwoLast passed) l = two_last k v.areas (tried_by passed first) second l
open_came k blocks v first second Journal l = journal_came k v first l
open_came k blocks v first second (Refused refusal) l = k (refuses (refusal_number refusal))

-- a stage that asks for a block, or the refusal
abbrev pub stage_ask : (Opens → Asking Ending) → ℕ → Volume → List ℕ → List ℕ → ℕ → Stage → Asking Ending
stage_ask k blocks v first second b FirstCopy = ask b (open_came k blocks v first second FirstCopy)
stage_ask k blocks v first second b SecondCopy = ask b (open_came k blocks v first second SecondCopy)
stage_ask k blocks v first second b OneFirst = ask b (open_came k blocks v first second OneFirst)
stage_ask k blocks v first second b OneLast = ask b (open_came k blocks v first second OneLast)
stage_ask k blocks v first second b (TwoFirst passed) = ask b (open_came k blocks v first second (TwoFirst passed))
stage_ask k blocks v first second b (TwoLast passed) = ask b (open_came k blocks v first second (TwoLast passed))
stage_ask k blocks v first second b Journal = ask b (open_came k blocks v first second Journal)
stage_ask k blocks v first second b (Refused refusal) = k (refuses (refusal_number refusal))

-- ---- which blocks are kept, of the one that came

abbrev pub first_after : Keep → List ℕ → List ℕ → List ℕ → List ℕ
first_after Nothing first second bytes = first
first_after First first second bytes = bytes
first_after Second first second bytes = first
first_after SecondAsFirst first second bytes = second

abbrev pub second_after : Keep → List ℕ → List ℕ → List ℕ
second_after Nothing second bytes = second
second_after First second bytes = second
second_after Second second bytes = bytes
second_after SecondAsFirst second bytes = second

-- where opening goes
unfoldable pub open_goes : (Opens → Asking Ending) → ℕ → List ℕ → List ℕ → List ℕ → Opening → Asking Ending
open_goes k blocks first second bytes o =
    stage_ask k blocks o.volume (first_after o.keep first second bytes) (second_after o.keep second bytes) o.block o.stage

-- ---- what a reader knows in a stage

-- the areas lie below 2 ^ 32, and the table has whole pairs of segments
pub record AreasFit (a : Areas) : Type 0 where
  pub packs : a.checkpoint + 1024 < 4294967296
  pub table_ends : a.ssa ≡ a.nat + 512 * a.nat_segments
  pub nat_even : a.nat_segments % 2 ≡ 0

-- a pack's first block names 2 to 512 blocks
abbrev pub PackFits : List ℕ → Type 0
PackFits first = (2 ≤ (checkpoint_of first).cp_pack_total_block_count) × ((checkpoint_of first).cp_pack_total_block_count ≤ 512)

abbrev pub IfPassed : Bool → List ℕ → Type 0
IfPassed true first = PackFits first
IfPassed false first = Unit {0}

abbrev pub StageIn : Volume → List ℕ → List ℕ → Stage → Type 0
StageIn v first second FirstCopy = Unit {0}
StageIn v first second SecondCopy = Unit {0}
StageIn v first second OneFirst = AreasFit v.areas
StageIn v first second OneLast = AreasFit v.areas × PackFits first
StageIn v first second (TwoFirst passed) = AreasFit v.areas × IfPassed passed first
StageIn v first second (TwoLast passed) = AreasFit v.areas × IfPassed passed first × PackFits second
StageIn v first second Journal =
    AreasFit v.areas × (v.nat_map + 32 * v.areas.nat_segments ≤ 4092) × (v.journal_at ≤ 3584)
StageIn v first second (Refused refusal) = Unit {0}

abbrev pub OpeningIn : List ℕ → List ℕ → List ℕ → Opening → Type 0
OpeningIn first second bytes o =
    StageIn o.volume (first_after o.keep first second bytes) (second_after o.keep second bytes) o.stage
