-- `seek` meets its contract: out of range, by the journal's entry, or the table's block.
use mathlib.Core.Path.{◌≡◌, sym, ap, ◌∙◌}
use mathlib.Core.Bool.{true}
use Rattle.nat.specs.Table.{in_range}
use Rattle.nat.proofs.Range.{block_in_range}
use Rattle.asking.specs.Table.{address_for}
use Rattle.ask_node.specs.declared.Wants.TheVariants.{Table}
use Rattle.ask_node.specs.Wants.{seek_wants}
use Rattle.ask_node.proofs.kept.Kept.seek.Goals as goal
use Rattle.ask_node.proofs.kept.Kept.seek.Goals.{Else-not-in_range}

in_range_here : (k : Else-not-in_range) → let a = k.args in in_range a.self.volume a.number ≡ true
in_range_here k = sym k.in_range.ensures ∙ k.if-not-in_range.false

pub returns-then-not-in_range : goal.returns-then-not-in_range
unfolding seek_wants
returns-then-not-in_range c = rw (← c.in_range.ensures, c.if-not-in_range.true)

pub table_address-requires : goal.table_address-requires
table_address-requires c =
    let kept = c.args.self.fits in
    record {
      first_len = (kept.first_size, kept.map_inside);
      ssa_value = (kept.table_ends, kept.nat_even);
      b_bound = block_in_range _ _ (in_range_here (goal.at.table_address-requires c).Else-not-in_range);
    }

pub returns-in-Some : goal.returns-in-Some
unfolding seek_wants
returns-in-Some c =
    rw (in_range_here (goal.at.returns-in-Some c).Else-not-in_range, ← c.journal_entry.ensures, c.in-Some.is) c.from_entry.ensures

pub returns-in-None : goal.returns-in-None
unfolding seek_wants address_for
returns-in-None c =
    rw (in_range_here (goal.at.returns-in-None c).Else-not-in_range, ← c.journal_entry.ensures, c.in-None.is) (ap Table c.table_address.ensures)
