-- `node_came` meets its contract: the node belongs elsewhere, is one on the way, the file's inode or a directory's.
use native.Mathlib.Omega.{arith}
use mathlib.Core.Path.{◌≡◌, sym, ap, ◌∙◌}
use borrow.Author.Tests.{eq-eqb, ne_eqb}
use Rattle.node.specs.Node.{at_block}
use Rattle.walk.specs.Walk.{Seen, and_then}
use Rattle.asking.specs.Table.{asking}
use Rattle.asking.specs.Pull.{came}
use Rattle.ask_node.specs.Wants.{kept_in}
use Rattle.ask_directory.specs.Left.{question, names_at, inode_then, node_then}
use Rattle.ask_path.proofs.Nodes.{foreign_came, own_came, inode_next}
use Rattle.ask_path.proofs.node_came.Goals as goal
use Rattle.ask_path.proofs.node_came.Goals.{Else-not-belongs, Else-target-ne0}

-- ---- what is known there
own : (k : Else-not-belongs) → (seen : Seen) → let a = k.args in
    let q = question (kept_in a.kept) a.path.now a.index in
    let next = node_then q a.spot a.inode.now a.target.index a.target.hop in
    asking q.kept came seen (and_then (at_block a.target.number a.spot.ino a.target.place a.table_inode a.bytes.now) next)
    ≡ asking q.kept came seen (next a.bytes.now)
own k seen =
    let a = k.args in
    let q = question (kept_in a.kept) a.path.now a.index in
    own_came q a.target.number a.spot.ino a.target.place a.table_inode a.bytes.now seen (node_then q a.spot a.inode.now a.target.index a.target.hop)
    (sym k.belongs.ensures ∙ k.if-not-belongs.false)

-- an inode, with the names that are left
inode_left : (k : Else-target-ne0) → (seen : Seen) → let a = k.args in
    let q = question (kept_in a.kept) a.path.now a.index in
    asking q.kept came seen
    (and_then (at_block a.target.number a.spot.ino a.target.place a.table_inode a.bytes.now)
    (node_then q a.spot a.inode.now a.target.index a.target.hop))
    ≡ asking q.kept came seen (inode_then q a.spot.ino (names_at q a.spot) a.bytes.now)
inode_left k seen =
    let a = k.args in
    let q = question (kept_in a.kept) a.path.now a.index in
    let own-here = own_came q a.target.number a.spot.ino a.target.place a.table_inode a.bytes.now seen
    (node_then q a.spot a.inode.now a.target.index a.target.hop) (sym k.belongs.ensures ∙ k.if-not-belongs.false) in
    let next = inode_next q a.spot a.inode.now a.target.index a.target.hop a.bytes.now k.if-target-ne0.false in
    own-here ∙ ap (asking q.kept came seen) next

pub returns-then-not-belongs : goal.returns-then-not-belongs
returns-then-not-belongs c =
    let a = c.args in
    let q = question (kept_in a.kept) a.path.now a.index in
    let other = sym c.belongs.ensures ∙ c.if-not-belongs.true in
    record { result_value = λ seen. rw c.go_to.ensures (foreign_came q _ _ _ _ _ seen _ _ a.spot other); move_in = rw c.go_to.ensures tt }

pub at_way-requires : goal.at_way-requires
at_way-requires c =
    let hop = c.if-target-ne0.true in
    let inodes = c.requires.inode_len in
    record {
      inode_len = (inodes.0, inodes.1, inodes.2, omega (arith, hop), inodes.3);
      spot_in = c.requires.spot_in hop;
    }

pub returns-then-target-ne0 : goal.returns-then-target-ne0
returns-then-target-ne0 c =
    let e = ne_eqb _ 0 c.if-target-ne0.true in
    let here = (goal.at.returns-then-target-ne0 c).Else-not-belongs in
    record {
      result_value = λ seen. rw e (c.at_way.ensures.result_value seen ∙ sym (own here seen));
      move_in = rw e c.at_way.ensures.move_in;
    }

pub returns-then-path-spot : goal.returns-then-path-spot
returns-then-path-spot c =
    let a = c.args in
    let e = eq-eqb _ 0 c.if-target-ne0.false in
    let behind = c.if-path-spot.true in
    let here = (goal.at.returns-then-path-spot c).Else-target-ne0 in
    record {
      result_value = λ seen. rw e (c.at_file.ensures.by_index a.path.now seen behind ∙ sym (inode_left here seen));
      move_in = rw e (c.at_file.ensures.by_index_2 a.path.now behind);
    }

pub returns : goal.returns
returns c =
    let a = c.args in
    let e = eq-eqb _ 0 c.if-target-ne0.false in
    let here = (goal.at.returns c).Else-target-ne0 in
    record {
      result_value = λ seen. rw e (c.at_directory.ensures.by_index a.index seen ∙ sym (inode_left here seen));
      move_in = rw e (c.at_directory.ensures.by_index_2 a.index);
    }
