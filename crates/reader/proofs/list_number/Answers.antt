-- `list_number` meets its contract: the number is inserted, if there is one.
use native.Mathlib.Omega.{arith}
use borrow.Author.Rules.{rules}
use Rattle.reader.proofs.Listing.{one_more, inserted_few, number_listed}
use Rattle.reader.proofs.list_number.Goals as goal

pub insert-requires : goal.insert-requires
insert-requires c =
    let room = c.requires.0 in
    one_more c.args.list.now c.args.count c.in-Some.x c.requires.2 (search rules)

pub overflow_cast-result : goal.overflow_cast-result
overflow_cast-result c =
    let few = inserted_few c.args.list.now c.args.count c.in-Some.x c.insert.ensures.inserted in
    omega (arith, few, c.requires.1)

pub returns : goal.returns
returns c = number_listed c.args.list.now c.args.count c.in-Some.x c.insert.ensures.inserted c.in-Some.is (search rules)
