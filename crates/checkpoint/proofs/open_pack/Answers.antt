use Rattle.std.proofs.Common.{◌≡◌, ◌<◌, ◌≤◌, true, sym, arith}
use Rattle.field.specs.Card.{card_of}
use Rattle.field.proofs.Blocks.{length_of_block}
use Rattle.checkpoint.specs.Checkpoint.{header_of}
use Rattle.checkpoint.specs.Volume.{maps_readable, header_readable}
use Rattle.checkpoint.proofs.Passing.{passing_total}
use Rattle.checkpoint.proofs.Reading.{journal_at_most, journal_inside_lem, readable_maps}
use Rattle.checkpoint.proofs.Inside.{journal_room}
use Rattle.checkpoint.proofs.Ways.{header_refuses, journal_refuses, pack_opens}
use Rattle.checkpoint.proofs.Negated.{fails, holds}
use Rattle.checkpoint.proofs.open_pack.Goals as goal
use Rattle.checkpoint.proofs.open_pack.Goals.{After-checkpoint_of-cp, After-volume_of-volume, Else-not-header_readable}

-- the header is the pack's, whose total is 2 to 512
read_of : (k : After-checkpoint_of-cp) → let a = k.args in k.checkpoint_of-cp.result ≡ header_of (card_of a.image.bytes.now) a.start
read_of k = rw k.block_at.ensures at k.checkpoint_of-cp.ensures

total : (k : After-checkpoint_of-cp) → let cp = k.checkpoint_of-cp.result in
    (2 ≤ cp.cp_pack_total_block_count) × (cp.cp_pack_total_block_count ≤ 512)
total k = rw (read_of k) (passing_total _ _ k.requires.start_value)

-- the header is readable
readable : (k : Else-not-header_readable) → header_readable k.args.areas k.checkpoint_of-cp.result ≡ true
readable k = holds k.header_readable.ensures k.if-not-header_readable.false

maps : (k : Else-not-header_readable) → maps_readable k.args.areas k.checkpoint_of-cp.result ≡ true
maps k = readable_maps _ _ (readable k)

-- the journal lies in the card
placed : (k : After-volume_of-volume) → let v = k.volume_of-volume.result in
    (v.journal_block < (card_of k.args.image.bytes.now).blocks) × (v.journal_at ≤ 3584)
placed k =
    let read = rw k.block_at.ensures at k.checkpoint_of-cp.ensures in
    let few : (2 ≤ k.checkpoint_of-cp.result.cp_pack_total_block_count) × (k.checkpoint_of-cp.result.cp_pack_total_block_count ≤ 512) =
    rw read (passing_total _ _ k.requires.start_value) in
    let readable = holds k.header_readable.ensures k.if-not-header_readable.false in
    rw k.volume_of-volume.ensures (omega (arith, few, journal_inside_lem _ _ (readable_maps _ _ readable)), journal_at_most _)

pub checkpoint_of-cp-requires : goal.checkpoint_of-cp-requires
checkpoint_of-cp-requires c =
    length_of_block _ _ (omega arith) c.block_at.ensures

pub header_readable-requires : goal.header_readable-requires
header_readable-requires c =
    (total c).0

pub returns-then-not-header_readable : goal.returns-then-not-header_readable
returns-then-not-header_readable c =
    sym (header_refuses _ _ _ _ (read_of (goal.at.returns-then-not-header_readable c).After-checkpoint_of-cp)
    (fails c.header_readable.ensures c.if-not-header_readable.true))

pub volume_of-volume-requires : goal.volume_of-volume-requires
volume_of-volume-requires c =
    let few = total (goal.at.volume_of-volume-requires c).After-checkpoint_of-cp in
    record { cp_pack_total_block_count_bound = omega arith; cp_value = maps c }

pub journal_of-requires : goal.journal_of-requires
journal_of-requires c =
    let whole = placed (goal.at.journal_of-requires c).After-volume_of-volume in
    record { journal_block_bound = whole.0; journal_at_bound = whole.1 }

pub journal_readable-requires : goal.journal_readable-requires
journal_readable-requires c =
    let image = c.args.image.bytes.now in
    rw c.journal_of.ensures (journal_room image c.volume_of-volume.result (placed (goal.at.journal_readable-requires c).After-volume_of-volume).0
    (placed (goal.at.journal_readable-requires c).After-volume_of-volume).1)

pub returns-then-not-journal_readable : goal.returns-then-not-journal_readable
returns-then-not-journal_readable c =
    let journal = rw c.journal_of.ensures at c.journal_readable.ensures in
    sym (journal_refuses _ _ _ _ (read_of (goal.at.returns-then-not-journal_readable c).After-checkpoint_of-cp) _ c.volume_of-volume.ensures
    (readable (goal.at.returns-then-not-journal_readable c).Else-not-header_readable) (fails journal c.if-not-journal_readable.true))

pub returns : goal.returns
returns c =
    let journal = rw c.journal_of.ensures at c.journal_readable.ensures in
    sym (pack_opens _ _ _ _ (read_of (goal.at.returns c).After-checkpoint_of-cp) _ c.volume_of-volume.ensures
    (readable (goal.at.returns c).Else-not-header_readable) (holds journal c.if-not-journal_readable.false))
