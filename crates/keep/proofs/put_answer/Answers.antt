-- A table answer of either kind is three numbers.
use Rattle.keep.proofs.put_answer.Goals as goal

pub returns-in-Some : goal.returns-in-Some
returns-in-Some c = rw c.in-Some.is c.put_three.ensures

pub returns-in-None : goal.returns-in-None
returns-in-None c = rw c.in-None.is (rw c.number.ensures at c.put_three-in-None.ensures)
