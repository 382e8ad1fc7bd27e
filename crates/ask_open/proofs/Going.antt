-- Where opening goes, by the stage that the code gives: the tree that waits there, and that it is the one that is left of the block that came.
use Prim.Native.Nat.{ℕ, ◌+◌, ◌-◌}
use mathlib.Core.Path.{◌≡◌, refl, sym, ◌∙◌}
use mathlib.Core.Bool.{Bool, true, false}
use mathlib.Core.List.{List}
use Rattle.field.specs.Choice.{choose}
use Rattle.superblock.specs.declared.Areas.{Areas}
use Rattle.superblock.specs.declared.Superblock.{Superblock}
use Rattle.answer.specs.declared.Refusal.{Refusal}
use Rattle.answer.specs.Number.{refusal_number}
use Rattle.superblock.specs.Areas.{At, accepted}
use Rattle.superblock.specs.Superblock.{copy_of, passes}
use Rattle.checkpoint.specs.declared.Checkpoint.{Checkpoint}
use Rattle.checkpoint.specs.declared.Volume.{Volume}
use Rattle.checkpoint.specs.Checkpoint.{checkpoint_of}
use Rattle.checkpoint.specs.Pack.{first_passes, last_passes, second_pack}
use Rattle.checkpoint.specs.Volume.{header_readable, volume_of}
use Rattle.asking.specs.Asking.{Asking, ask}
use Rattle.asking.specs.Open.{Opens, refuses, tried_by, last_of, areas_ask, first_copy_after}
use Rattle.asking.specs.Open.{second_copy_after, one_first, one_last, two_first, two_last, journal_came, journal_ask}
use Rattle.asking.specs.Pull.{Ending}
use Rattle.ask_open.specs.declared.Stage.{Stage}
use Rattle.ask_open.specs.declared.Stage.TheVariants.{SecondCopy, OneFirst, OneLast, TwoFirst, TwoLast, Journal, Refused}
use Rattle.ask_open.specs.declared.Keep.{Keep}
use Rattle.ask_open.specs.declared.Keep.TheVariants.{Nothing, First, Second}
use Rattle.ask_open.specs.declared.Opening.{Opening}
use Rattle.ask_open.specs.Came.{first_after, open_came, open_goes}
use Rattle.ask_open.proofs.Cases.{first_fails, one_passes, one_fails, two_passes, header_reads}

abbrev opening : Stage → ℕ → Volume → Keep → Opening
opening stage block volume keep = record { stage = stage; block = block; volume = volume; keep = keep }

module _ (k : Opens → Asking Ending) (blocks : ℕ) (first second bytes : List ℕ) where
  pub goes_refused : (o : Opening) (n : Refusal) → o.stage ≡ Refused n → open_goes k blocks first second bytes o ≡ k (refuses (refusal_number n))
  unfolding open_goes
  goes_refused o n e = rw e

  module _ (b : ℕ) (v : Volume) where
    goes_second_copy : open_goes k blocks first second bytes (opening SecondCopy b v Nothing) ≡ ask b (second_copy_after k blocks)
    unfolding open_goes open_came
    goes_second_copy = refl

    goes_one_first : open_goes k blocks first second bytes (opening OneFirst b v Nothing) ≡ ask b (one_first k v.areas)
    unfolding open_goes open_came
    goes_one_first = refl

    goes_one_last : open_goes k blocks first second bytes (opening OneLast b v First) ≡ ask b (one_last k v.areas bytes)
    unfolding open_goes open_came
    goes_one_last = refl

    goes_two_first : (passed : Bool)
        → open_goes k blocks first second bytes (opening (TwoFirst passed) b v Nothing) ≡ ask b (two_first k v.areas (tried_by passed first))
    unfolding open_goes open_came
    goes_two_first passed = refl

    goes_two_last : (passed : Bool)
        → open_goes k blocks first second bytes (opening (TwoLast passed) b v Second) ≡ ask b (two_last k v.areas (tried_by passed first) bytes)
    unfolding open_goes open_came
    goes_two_last passed = refl

    goes_journal : (keep : Keep)
        → open_goes k blocks first second bytes (opening Journal b v keep) ≡ ask b (journal_came k v (first_after keep first second bytes))
    unfolding open_goes open_came
    goes_journal keep = refl

  -- ---- from the block that came
  module _ (v : Volume) where
    pub to_second_copy : (second-copy : Bool) → second-copy ≡ false → passes blocks (copy_of bytes) ≡ false
        → open_goes k blocks first second bytes (opening SecondCopy 1 v Nothing)
        ≡ choose second-copy (second_copy_after k blocks bytes) (first_copy_after k blocks bytes)
    to_second_copy second-copy e p = goes_second_copy 1 v ∙ sym (first_fails k blocks bytes second-copy e p)

    pub to_areas : (s : Superblock) {a : Areas} → v.areas ≡ a → accepted s ≡ At a
        → open_goes k blocks first second bytes (opening OneFirst a.checkpoint v Nothing) ≡ areas_ask k (accepted s)
    to_areas s {a = a} e f = goes_one_first a.checkpoint v ∙ rw (e, f)

    pub one_to_last : {cp : Checkpoint} → cp ≡ checkpoint_of bytes → first_passes bytes ≡ true
        → open_goes k blocks first second bytes (opening OneLast (v.areas.checkpoint + (cp.cp_pack_total_block_count - 1)) v First)
        ≡ one_first k v.areas bytes
    one_to_last e p = rw e (goes_one_last (last_of v.areas.checkpoint bytes) v ∙ sym (one_passes k v.areas bytes p))

    -- the second pack's first block
    module _ {b : ℕ} (second-pack : b ≡ second_pack v.areas.checkpoint) where
      pub one_to_second : first_passes bytes ≡ false
          → open_goes k blocks first second bytes (opening (TwoFirst false) b v Nothing) ≡ one_first k v.areas bytes
      one_to_second p = goes_two_first b v false ∙ rw second-pack (sym (one_fails k v.areas bytes p))

      pub last_to_second : {cp : Checkpoint} {passed : Bool} → cp ≡ checkpoint_of first → passed ≡ last_passes bytes cp.checkpoint_ver
          → open_goes k blocks first second bytes (opening (TwoFirst passed) b v Nothing) ≡ one_last k v.areas first bytes
      last_to_second {passed = passed} e p = goes_two_first b v passed ∙ rw (second-pack, p, e)

      pub two_to_last : (passed : Bool) {cp : Checkpoint} → cp ≡ checkpoint_of bytes → first_passes bytes ≡ true
          → open_goes k blocks first second bytes (opening (TwoLast passed) (b + (cp.cp_pack_total_block_count - 1)) v Second)
          ≡ two_first k v.areas (tried_by passed first) bytes
      two_to_last passed e p =
          rw (e, second-pack)
          (goes_two_last (last_of (second_pack v.areas.checkpoint) bytes) v passed ∙ sym (two_passes k v.areas bytes (tried_by passed first) p))

    -- the journal's block of the pack whose first block is kept
    pub to_journal : (a : Areas) (start : ℕ) (keep : Keep) {cp : Checkpoint} {pack : List ℕ} → first_after keep first second bytes ≡ pack
        → cp ≡ checkpoint_of pack → v ≡ volume_of a start cp → header_readable a cp ≡ true
        → open_goes k blocks first second bytes (opening Journal v.journal_block v keep) ≡ journal_ask k a start pack
    to_journal a start keep {pack = pack} kept e same h =
        goes_journal v.journal_block v keep ∙ rw (kept, same, e) (sym (header_reads k a start pack (rw e at h)))
