-- `keep_block` meets its contract: each arm is a case of what is kept.
use native.Mathlib.Omega.{arith}
use mathlib.Core.Path.{◌≡◌, refl, sym, ◌∙◌}
use lib.ListN.{length}
use Rattle.reader.proofs.Listing.{copied_whole}
use borrow.Author.Rules.{rules}
use Rattle.reader.proofs.keep_block.Goals as goal

pub copy-requires : goal.copy-requires
copy-requires c =
    let whole : length c.args.first.now ≡ 4096 = search rules in
    let came = c.requires (λ none. cc) in
    omega arith

pub copy-requires-in-Second : goal.copy-requires-in-Second
copy-requires-in-Second c =
    let whole : length c.args.held.now ≡ 4096 = search rules in
    let came = c.requires (λ none. cc) in
    omega arith

pub returns-in-Nothing : goal.returns-in-Nothing
returns-in-Nothing c = rw c.in-Nothing.is (refl, refl)

pub returns-in-First : goal.returns-in-First
returns-in-First c =
    let whole : length c.args.first.now ≡ 4096 = search rules in
    let came = c.requires (λ none. cc) in
    rw c.in-First.is (copied_whole c.args.bytes.now c.args.first.now (whole ∙ sym came) c.copy.ensures, refl)

pub returns-in-Second : goal.returns-in-Second
returns-in-Second c =
    let whole : length c.args.held.now ≡ 4096 = search rules in
    let came = c.requires (λ none. cc) in
    rw c.in-Second.is (refl, copied_whole c.args.bytes.now c.args.held.now (whole ∙ sym came) c.copy-in-Second.ensures)

pub returns-in-SecondAsFirst : goal.returns-in-SecondAsFirst
returns-in-SecondAsFirst c =
    let whole : length c.args.first.now ≡ length c.args.held.now = search rules in
    rw c.in-SecondAsFirst.is (copied_whole c.args.held.now c.args.first.now whole c.copy-in-SecondAsFirst.ensures, refl)
