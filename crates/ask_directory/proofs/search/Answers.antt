-- `search` meets its contract: a block of a bucket is fetched or passed over, and so is a level; behind the last the name isn't there.
use Prim.Native.Nat.{◌<◌}
use native.Mathlib.Omega.{arith}
use mathlib.Core.Path.{◌≡◌, sym, subst, ◌∙◌}
use mathlib.Core.Bool.{true}
use Rattle.inode.specs.declared.Inode.{Inode}
use Rattle.inode.specs.Inode.{is_directory}
use Rattle.inode.proofs.DirectoryLevel.{low_level}
use Rattle.ask_directory.proofs.Searching.{turn_of, block_small, search_start, search_next, search_end, end_in, search_hole, search_found, found_in}
use Rattle.ask_directory.proofs.search.Goals as goal
use Rattle.ask_directory.proofs.search.Goals.{After-inode_of-i, else-loop-n-test, then-loop-n-test+else-loop-k-test+then-depth-n}

has_table : (k : After-inode_of-i) → k.inode_of-i.result.level < 31
has_table k = low_level k.inode_of-i.result (subst (λ (i : Inode). is_directory i ≡ true) (sym k.inode_of-i.ensures) k.requires.inode_len.1)

pub loop-n-init : goal.loop-n-init
loop-n-init c = search_start _ _ _ _ _ _ c.requires.inode_len.2 c.requires.inode_len.3

pub level_at-here-requires : goal.level_at-here-requires
level_at-here-requires c = (has_table (goal.at.level_at-here-requires c).After-inode_of-i, c.loop-n.invariant.deep)

pub overflow_add-here : goal.overflow_add-here
overflow_add-here c = omega (arith, block_small (turn_of c.loop-k.invariant c.inode_of-i.ensures c.level_at-here.ensures))

pub returns-then-not-is_empty : goal.returns-then-not-is_empty
returns-then-not-is_empty c =
    let here = turn_of c.loop-k.invariant c.inode_of-i.ensures c.level_at-here.ensures in
    let on = c.loop-k-test.true in
    let at = c.args.from.name_at in
    let full = sym c.is_empty.ensures ∙ c.if-not-is_empty.true in
    record {
      by_index = search_found here at on c.in_bucket-next.ensures.value full;
      by_index_2 = found_in here at on c.in_bucket-next.ensures.value full c.requires.inode_len.1 c.in_bucket-next.ensures.hop_bound;
    }

pub loop-k-preserved : goal.loop-k-preserved
loop-k-preserved c =
    let here = turn_of c.loop-k.invariant c.inode_of-i.ensures c.level_at-here.ensures in
    search_hole here c.args.from.name_at c.loop-k-test.true c.in_bucket-next.ensures.value (sym c.is_empty.ensures ∙ c.if-not-is_empty.false)

pub loop-n-preserved : goal.loop-n-preserved
loop-n-preserved c =
    let here = turn_of c.loop-k.invariant c.inode_of-i.ensures c.level_at-here.ensures in
    search_next here c.loop-k-test.false c.requires.inode_len.1 c.if-depth-n.false

pub returns : goal.returns
returns c =
    elim c.loop-n-test.branch [
      | else-loop-n-test w ↦ absurd (omega (arith, c.loop-n.invariant.deep))
      | then-loop-n-test+else-loop-k-test+then-depth-n w ↦
          let here = turn_of w.loop-k.invariant c.inode_of-i.ensures w.level_at-here.ensures in
          let over = w.loop-k-test.false in
          let at = c.args.from.name_at in
          let last = w.if-depth-n.true in
          record { by_index = search_end here over at last c.go_to.ensures; by_index_2 = end_in here over at last c.go_to.ensures }
    ]
