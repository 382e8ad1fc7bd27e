-- `data_came` meets its contract: the file's block is the answer, a directory's is scanned.
use Prim.Native.Nat.{◌≤◌}
use native.Mathlib.Omega.{arith}
use mathlib.Core.Path.{◌≡◌, ap, ◌∙◌}
use mathlib.Core.Bool.{false}
use lib.ListN.{length}
use borrow.Author.Tests.{lt-ltb, le-ltb}
use Rattle.inode.specs.declared.Inode.{Inode}
use Rattle.inode.specs.Inode.{inode_of, is_past, count_in}
use Rattle.ask_node.specs.Wants.{kept_in}
use Rattle.ask_directory.specs.Left.{question}
use Rattle.ask_path.proofs.Names.{no_names}
use Rattle.ask_path.proofs.Spots.{file_has, directory_has}
use Rattle.ask_path.proofs.Files.{full_came}
use Rattle.ask_path.proofs.data_came.Goals as goal
use Rattle.ask_path.proofs.data_came.Goals.{After-count_in-count, Else-path-spot, Then-path-spot}

-- ---- what is known there
has_index : (k : Then-path-spot) → let a = k.args in is_past (inode_of a.inode.now) a.index ≡ false
has_index k = file_has k.args.path.now _ _ k.args.spot k.if-path-spot.true k.requires.spot_in

count_is : (k : After-count_in-count) → let a = k.args in k.count_in-count.result ≡ count_in (inode_of a.inode.now) a.index
count_is k = k.count_in-count.ensures.0 ∙ ap (λ (i : Inode). count_in i k.args.index) k.inode_of.ensures

named : (k : Else-path-spot) → let a = k.args in a.spot.name_at ≤ length a.path.now
named k = omega (arith, k.if-path-spot.false)

pub count_in-count-requires : goal.count_in-count-requires
count_in-count-requires c = rw c.inode_of.ensures (has_index (goal.at.count_in-count-requires c).Then-path-spot)

pub returns-then-path-spot : goal.returns-then-path-spot
returns-then-path-spot c =
    let here = goal.at.returns-then-path-spot c in
    let a = c.args in
    let behind = c.if-path-spot.true in
    let q = question (kept_in a.kept) a.path.now a.index in
    let no = no_names a.path.now a.spot.name_at behind in
    record {
      result_value = λ seen. rw (lt-ltb _ _ behind, c.go_to.ensures)
          (full_came q a.spot a.inode.now seen no a.bytes.now _ (count_is here.After-count_in-count));
      move_in = rw (lt-ltb _ _ behind, c.go_to.ensures) c.count_in-count.ensures.2;
    }

pub at_slots-requires : goal.at_slots-requires
at_slots-requires c =
    let known = directory_has c.args.path.now c.args.index _ c.args.spot (named c) c.requires.spot_in in
    record {
      inode_len = (c.requires.inode_len.0, c.requires.inode_len.1, named c, c.requires.inode_len.2);
      inode_value = known;
    }

pub returns : goal.returns
returns c =
    let a = c.args in
    let name = named (goal.at.returns c).Else-path-spot in
    record {
      result_value = λ seen. rw (le-ltb _ _ name) (c.at_slots.ensures.by_index a.index seen);
      move_in = rw (le-ltb _ _ name) (c.at_slots.ensures.by_index_2 a.index);
    }
