-- `keep_path` meets its contract.
use Prim.Native.Nat.{◌≤◌}
use native.Mathlib.Omega.{arith}
use mathlib.Core.Path.{◌≡◌, ◌∙◌}
use lib.ListN.{length}
use Rattle.reader.proofs.Listing.{copied_front, copied_length}
use borrow.Author.Rules.{rules}
use Rattle.reader.proofs.keep_path.Goals as goal

pub returns : goal.returns
returns c =
    let from = c.args.from.now in
    let into = c.args.into.now in
    let whole : length into ≡ 2048 = search rules in
    let room : length from ≤ length into = omega arith in
    (copied_front from into room c.copy.ensures, copied_length from into room c.copy.ensures ∙ whole)
