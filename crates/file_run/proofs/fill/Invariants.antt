-- `fill` meets its contract. The loop's invariant: k blocks stand in the buffer, and a leaf may be kept for the next index.
use mathlib.Core.Path.{◌≡◌}
use Rattle.walk.specs.Lent.{lent, SameLent}
use Rattle.file_run.proofs.Turns.{Turn}
use Rattle.file_run.proofs.fill.Given as goal

abbrev pub invariant-loop-k : goal.invariant-loop-k
invariant-loop-k l = record {
  turn : Turn l.file.file l.wanted l.index l.initial.buffer.bytes.now (lent l.initial.seen) l.kept l.k l.buffer (lent l.seen);
  same : SameLent l.initial.seen l.seen;
  same_bytes : l.buffer.bytes.ghost_name ≡ l.initial.buffer.bytes.ghost_name;
}
