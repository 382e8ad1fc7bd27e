-- The journal of the chosen pack is asked for, if its header is readable.
use Prim.Native.Nat.{◌≤◌}
use native.Mathlib.Omega.{arith}
use mathlib.Core.Path.{◌≡◌, sym, ◌∙◌}
use mathlib.Core.Bool.{true}
use Rattle.answer.specs.declared.Refusal.TheVariants.{Unreadable}
use Rattle.checkpoint.specs.Volume.{header_readable}
use Rattle.checkpoint.proofs.Reading.{readable_maps}
use Rattle.checkpoint.proofs.Negated.{fails, holds}
use Rattle.ask_open.proofs.Cases.{header_refuses}
use Rattle.ask_open.proofs.Going.{goes_refused, to_journal}
use Rattle.ask_open.proofs.Knowing.{knows_refused, knows_journal}
use Rattle.ask_open.proofs.choose_pack.Goals as goal
use Rattle.ask_open.proofs.choose_pack.Goals.{After-checkpoint_of-cp, Else-not-header_readable}

total : (k : After-checkpoint_of-cp) → let cp = k.checkpoint_of-cp.result in
    (2 ≤ cp.cp_pack_total_block_count) × (cp.cp_pack_total_block_count ≤ 512)
total k = rw k.checkpoint_of-cp.ensures k.requires.first_len.1

readable : (k : Else-not-header_readable) → header_readable k.args.areas k.checkpoint_of-cp.result ≡ true
readable k = holds k.header_readable.ensures k.if-not-header_readable.false

pub header_readable-requires : goal.header_readable-requires
header_readable-requires c = (total c).0

pub returns-then-not-header_readable : goal.returns-then-not-header_readable
returns-then-not-header_readable c =
    let a = c.args in
    let o = c.refuse.result in
    let refused = c.refuse.ensures.0 in
    let fails-here = rw c.checkpoint_of-cp.ensures at (fails c.header_readable.ensures c.if-not-header_readable.true) in
    record {
      result_value = λ k blocks one second bytes kept.
          goes_refused k blocks one second bytes o Unreadable refused ∙ sym (header_refuses k a.areas a.start a.first.now fails-here);
      by_index = λ one second bytes. knows_refused one second bytes o refused;
    }

pub volume_of-volume-requires : goal.volume_of-volume-requires
volume_of-volume-requires c =
    let here = goal.at.volume_of-volume-requires c in
    record {
      cp_pack_total_block_count_bound = omega (arith, total here.After-checkpoint_of-cp, c.requires.areas_fit.1, c.requires.areas_fit.0.packs);
      cp_value = readable_maps _ _ (readable c);
    }

pub returns : goal.returns
returns c =
    let here = goal.at.returns c in
    let a = c.args in
    let cp = c.checkpoint_of-cp.result in
    let v = c.volume_of-volume.result in
    record {
      result_value = λ k blocks one second bytes kept.
          to_journal k blocks one second bytes v a.areas a.start a.keep kept c.checkpoint_of-cp.ensures c.volume_of-volume.ensures
          (readable here.Else-not-header_readable);
      by_index = λ one second bytes. knows_journal a.areas a.start cp c.volume_of-volume.ensures c.requires.areas_fit.0
          (readable_maps _ _ (readable here.Else-not-header_readable));
    }
