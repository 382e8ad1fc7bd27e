-- `keep_journal` meets its contract.
use Prim.Native.Nat.{ℕ, ◌+◌, ◌-◌}
use native.Mathlib.Omega.{arith}
use mathlib.Core.Path.{◌≡◌, sym, ap, ◌∙◌}
use mathlib.Core.Bool.{Bool}
use lib.ListN.{length, take, drop, length-drop}
use lib.Seq.{length-take-le}
use Rattle.field.specs.Choice.{choose}
use Rattle.asking.specs.Table.{journal_in}
use Rattle.reader.proofs.Listing.{copied_whole}
use borrow.Author.Rules.{rules}
use Rattle.reader.proofs.keep_journal.Goals as goal

pub slice_bounds-copy-end : goal.slice_bounds-copy-end
slice_bounds-copy-end c = omega (arith, (c.requires c.if-keeps.true).0, (c.requires c.if-keeps.true).1)

pub returns-then-keeps : goal.returns-then-keeps
returns-then-keeps c =
    let at = c.args.at in
    let block = c.args.block.now in
    let old = c.args.into.now in
    let taken = c.if-keeps.true in
    let size : at + 512 - at ≡ 512 = omega arith in
    let whole : length (take (at + 512 - at) (drop at block)) ≡ 512 =
    rw size (length-take-le 512 (drop at block) (rw (length-drop at block) (omega (arith, (c.requires taken).0, (c.requires taken).1))))
    in
    let room : length old ≡ 512 = search rules in
    copied_whole (take (at + 512 - at) (drop at block)) old (room ∙ sym whole) c.copy.ensures
    ∙ ap (λ (n : ℕ). take n (drop at block)) size
    ∙ ap (λ (t : Bool). choose t (journal_in at block) old) (sym taken)
