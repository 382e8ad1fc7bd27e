use mathlib.Core.Path.{◌≡◌, sym, ap, ◌∙◌}
use Prim.Native.Nat.{◌*◌, ◌/◌}
use native.Mathlib.Omega.{arith}
use lib.ListN.{length, drop}
use Rattle.crc32.specs.Checksum.{crc_from}
use Rattle.crc32.proofs.Turns.{turn, end}
use Rattle.crc32.proofs.EightBytes.{word_turn}
use Rattle.crc32.proofs.Steps.bytes.Goals as goal

pub loop-word-preserved : goal.loop-word-preserved
loop-word-preserved c =
    c.loop-word.invariant
    ∙ word_turn c.args.bytes.now (λ i. (c.type_inv.bytes i).fits) c.as_chunks.result.0.now _ c.loop-word.word-index c.loop-word.c _ _
    c.as_chunks.ensures.front (omega arith) c.from_le_bytes.ensures c.word-c.ensures

pub loop-byte-init : goal.loop-byte-init
loop-byte-init c =
    let bytes = c.args.bytes.now in
    let e : 8 * c.loop-word.word-index ≡ length bytes / 8 * 8 = omega arith in
    c.loop-word.invariant ∙ ap (λ i. crc_from c.loop-word.c (drop i bytes)) e ∙ ap (crc_from c.loop-word.c) (sym c.as_chunks.ensures.back)

pub loop-byte-preserved : goal.loop-byte-preserved
loop-byte-preserved c =
    c.loop-byte.invariant ∙ turn c.loop-byte.c c.loop-byte.byte-index c.as_chunks.result.1.now (omega arith) ∙ rw c.byte-c.ensures

pub returns : goal.returns
returns c = sym (c.loop-byte.invariant ∙ end c.loop-byte.c c.loop-byte.byte-index c.as_chunks.result.1.now (omega arith))
