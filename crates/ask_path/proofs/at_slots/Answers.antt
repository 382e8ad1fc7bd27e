-- `at_slots` meets its contract: each return is what the block's slots come to.
use Prim.Native.Nat.{ℕ, ◌+◌, ◌-◌, ◌≤◌}
use native.Mathlib.Omega.{arith}
use mathlib.Core.Path.{◌≡◌, sym, ap, ◌∙◌}
use Rattle.std.specs.Prelude.{Ok}
use mathlib.Core.List.{◌∷◌}
use lib.ListN.{length, take, drop}
use Rattle.path.proofs.Parts.{part_inside}
use Rattle.walk.specs.Walk.{Seen}
use Rattle.node.specs.Block.{held}
use Rattle.dentry.specs.Scan.{sought_of}
use Rattle.directory.specs.Find.{after_slots}
use Rattle.asking.specs.Table.{asking}
use Rattle.asking.specs.Pull.{came}
use Rattle.ask_node.specs.Wants.{kept_in}
use Rattle.ask_directory.specs.Left.{question, names_from, data_then}
use Rattle.ask_path.proofs.Names.{names_from_lem}
use Rattle.ask_path.proofs.Directories.{then_names, turn_found, turn_malformed, turn_on, search_from, block_came_lem}
use Rattle.ask_path.proofs.at_slots.Goals as goal
use Rattle.ask_path.proofs.at_slots.Goals.{After-part_end-end, After-scan}

-- ---- what is known there
inside : (k : After-part_end-end) → let a = k.args in
    (a.spot.name_at ≤ k.part_end-end.result) × (k.part_end-end.result ≤ length a.path.now)
inside k = part_inside _ _ _ k.requires.inode_len.2 k.part_end-end.ensures

-- the name, and those behind it
names : (k : After-part_end-end) → let a = k.args in
    let at = a.spot.name_at in
    names_from a.path.now at ≡ take (k.part_end-end.result - at) (drop at a.path.now) ∷ names_from a.path.now (k.part_end-end.result + 1)
names k = names_from_lem _ _ k.requires.inode_len.2 k.part_end-end.ensures

-- the slots of the block
slots : (k : After-scan) → (index : ℕ) (seen : Seen) → let a = k.args in
    let q = question (kept_in k.args.kept) a.path.now index in
    let at = a.spot.name_at in
    asking q.kept came seen (data_then q a.spot a.inode.now (names_from a.path.now at) (held a.bytes.now))
    ≡ then_names q seen (names_from a.path.now (k.part_end-end.result + 1))
    (after_slots (search_from q a.spot a.inode.now (take (k.part_end-end.result - at) (drop at a.path.now))) (sought_of k.scan.result))
slots k index seen =
    let q = question (kept_in k.args.kept) k.args.path.now index in
    let left = names_from_lem _ _ k.requires.inode_len.2 k.part_end-end.ensures in
    block_came_lem q k.args.spot _ seen _ _ left _ k.scan.result k.name_of-name.ensures.0 (rw k.name_of-name.ensures.1 at k.scan.ensures.value)

pub slice_bounds-name_of-end : goal.slice_bounds-name_of-end
slice_bounds-name_of-end c = let known = inside c in omega arith

pub scan-requires : goal.scan-requires
scan-requires c =
    c.requires.inode_len.1

pub overflow_cast-end : goal.overflow_cast-end
overflow_cast-end c =
    let known = inside (goal.at.overflow_cast-end c).After-part_end-end in
    let few = c.requires.inode_len.3 in
    omega arith

pub overflow_add-end : goal.overflow_add-end
overflow_add-end c =
    let known = inside (goal.at.overflow_add-end c).After-part_end-end in
    let few = c.requires.inode_len.3 in
    omega arith

pub search-requires : goal.search-requires
search-requires c =
    let few = c.requires.inode_value.2 in
    record { inode_len = (c.requires.inode_len.0, c.requires.inode_value.0, c.requires.inode_value.1, omega arith) }

pub returns-in-Ok-Some : goal.returns-in-Ok-Some
returns-in-Ok-Some c =
    let here = goal.at.returns-in-Ok-Some c in
    let a = c.args in
    let found = c.in-Ok-Some.is ∙ ap Ok c.in-Ok-Some.field-0-is in
    record {
      by_index = λ index seen.
          let q = question (kept_in c.args.kept) a.path.now index in
          c.enter.ensures.by_index a.path.now index a.inode.now seen ∙ sym (slots here.After-scan index seen ∙ turn_found q seen _ _ _ _ found);
      by_index_2 = λ index. c.enter.ensures.by_index_2 a.path.now index a.inode.now;
    }

pub returns-in-Err : goal.returns-in-Err
returns-in-Err c =
    record {
      by_index = λ index seen.
          let q = question (kept_in c.args.kept) c.args.path.now index in
          let malformed = turn_malformed q seen _ _ _ c.args.inode.now c.args.spot c.in-Err.is c.in-Err.ensures.stop_value in
          rw c.go_to.ensures (malformed ∙ sym (slots (goal.at.returns-in-Err c).After-scan index seen));
      by_index_2 = λ index. rw c.go_to.ensures tt;
    }

pub returns-in-Ok-None : goal.returns-in-Ok-None
returns-in-Ok-None c =
    let here = goal.at.returns-in-Ok-None c in
    let a = c.args in
    let absent = c.in-Ok-None.is ∙ ap Ok c.in-Ok-None.field-0-is in
    record {
      by_index = λ index seen.
          let q = question (kept_in c.args.kept) a.path.now index in
          c.search.ensures.by_index a.path.now index _ _ seen c.name_of-name.ensures.0 (names here.After-part_end-end)
          ∙ sym (slots here.After-scan index seen ∙ turn_on q seen _ _ _ absent);
      by_index_2 = λ index. c.search.ensures.by_index_2 a.path.now index c.requires.inode_len.2;
    }
