-- `search` meets its contract. The invariant of both loops: what is left of the search is what it was begun for.
use Rattle.ask_node.specs.Wants.{kept_in}
use Rattle.ask_directory.proofs.Searching.{SearchOn}
use Rattle.ask_directory.proofs.search.Given as goal

abbrev pub invariant-loop-n : goal.invariant-loop-n
invariant-loop-n l = SearchOn (kept_in l.kept) l.inode l.from.ino l.hash l.from.level l.from.block l.n l.start

abbrev pub invariant-loop-k : goal.invariant-loop-k
invariant-loop-k l = SearchOn (kept_in l.kept) l.inode l.from.ino l.hash l.from.level l.from.block l.n l.k
