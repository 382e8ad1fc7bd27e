-- `at_directory` meets its contract: each return is a case of the directory's inode.
use Prim.Native.Nat.{ℕ, ◌+◌, ◌-◌, ◌≤◌}
use native.Mathlib.Omega.{arith}
use mathlib.Core.Path.{◌≡◌, refl, sym, ap, ◌∙◌}
use Rattle.std.specs.Prelude.{Ok}
use mathlib.Core.Bool.{true, false}
use mathlib.Core.List.{◌∷◌}
use lib.ListN.{length, take, drop}
use Rattle.answer.specs.declared.Stop.TheVariants.{NoName}
use Rattle.path.proofs.Parts.{part_inside}
use Rattle.walk.specs.Walk.{Seen, done, stop}
use Rattle.inode.specs.Inode.{has_inline_dentry, is_directory}
use Rattle.dentry.specs.Scan.{sought_of}
use Rattle.directory.specs.Find.{after_slots}
use Rattle.asking.specs.Table.{asking}
use Rattle.asking.specs.Pull.{came}
use Rattle.ask_node.specs.Wants.{kept_in}
use Rattle.ask_directory.specs.declared.Spot.{Spot}
use Rattle.ask_directory.specs.Left.{question, names_from, inode_then}
use Rattle.ask_path.proofs.Names.{names_from_lem}
use Rattle.ask_path.proofs.Directories.{then_names, stopped, turn_found, turn_malformed, turn_on}
use Rattle.ask_path.proofs.Directories.{other_came, empty_came, slots_came, no_levels, levels_came}
use Rattle.ask_path.proofs.at_directory.Goals as goal
use Rattle.ask_path.proofs.at_directory.Goals.{After-part_end-end, After-scan, Else-has_inline_dentry, Else-not-is_directory}

-- ---- what is known there
is_directory_lem : (k : Else-not-is_directory) → is_directory k.inode_of-i.result ≡ true
is_directory_lem k = sym k.is_directory.ensures ∙ k.if-not-is_directory.false

inside : (k : After-part_end-end) → let a = k.args in (a.name_at ≤ k.part_end-end.result) × (k.part_end-end.result ≤ length a.path.now)
inside k = part_inside _ _ _ k.requires.bytes_len.1 k.part_end-end.ensures

-- the name, and those behind it
names : (k : After-part_end-end) → let a = k.args in
    names_from a.path.now a.name_at
    ≡ take (k.part_end-end.result - a.name_at) (drop a.name_at a.path.now) ∷ names_from a.path.now (k.part_end-end.result + 1)
names k = names_from_lem _ _ k.requires.bytes_len.1 k.part_end-end.ensures

is_inline : (k : After-scan) → has_inline_dentry k.inode_of-i.result ≡ true
is_inline k = sym k.has_inline_dentry.ensures ∙ k.if-has_inline_dentry.true

has_blocks : (k : Else-has_inline_dentry) → has_inline_dentry k.inode_of-i.result ≡ false
has_blocks k = sym k.has_inline_dentry.ensures ∙ k.if-has_inline_dentry.false

-- the slots of an inline directory
slots : (k : After-scan) → (index : ℕ) (seen : Seen) → let a = k.args in
    let q = question (kept_in k.args.kept) a.path.now index in
    asking q.kept came seen (inode_then q a.ino (names_from a.path.now a.name_at) a.bytes.now)
    ≡ then_names q seen (names_from a.path.now (k.part_end-end.result + 1)) (after_slots (done (stop 2)) (sought_of k.scan.result))
slots k index seen =
    let q = question (kept_in k.args.kept) k.args.path.now index in
    let left = names_from_lem _ _ k.requires.bytes_len.1 k.part_end-end.ensures in
    let directory = sym k.is_directory.ensures ∙ k.if-not-is_directory.false in
    slots_came q _ _ seen _ _ left k.inode_of-i.ensures directory k.if-i-eq0.false k.scan.result (is_inline k)
    k.name_of-name.ensures.0 (rw k.name_of-name.ensures.1 at k.scan.ensures.value)

pub returns-then-not-is_directory : goal.returns-then-not-is_directory
returns-then-not-is_directory c =
    let p : Spot = record { ino = c.args.ino; name_at = c.args.name_at; level = 0; block = 0 } in
    let a = c.args in
    let other = sym c.is_directory.ensures ∙ c.if-not-is_directory.true in
    record {
      by_index = λ index seen.
          let q = question (kept_in c.args.kept) a.path.now index in
          let e = names_from_lem a.path.now a.name_at c.requires.bytes_len.1 refl in
          rw c.go_to.ensures (other_came q _ _ _ _ _ e c.inode_of-i.ensures p other);
      by_index_2 = λ index. rw c.go_to.ensures tt;
    }

pub returns-then-i-eq0 : goal.returns-then-i-eq0
returns-then-i-eq0 c =
    let here = goal.at.returns-then-i-eq0 c in
    let p : Spot = record { ino = c.args.ino; name_at = c.args.name_at; level = 0; block = 0 } in
    let a = c.args in
    record {
      by_index = λ index seen.
          let q = question (kept_in c.args.kept) a.path.now index in
          let e = names_from_lem a.path.now a.name_at c.requires.bytes_len.1 refl in
          rw c.go_to-then-i-eq0.ensures (empty_came q _ _ _ _ _ e c.inode_of-i.ensures (is_directory_lem here.Else-not-is_directory) p c.if-i-eq0.true);
      by_index_2 = λ index. rw c.go_to-then-i-eq0.ensures tt;
    }

pub slice_bounds-name_of-end : goal.slice_bounds-name_of-end
slice_bounds-name_of-end c = let known = inside c in omega arith

pub scan-requires : goal.scan-requires
scan-requires c =
    c.requires.bytes_len.0

pub overflow_cast-end : goal.overflow_cast-end
overflow_cast-end c =
    let known = inside (goal.at.overflow_cast-end c).After-part_end-end in
    let few = c.requires.bytes_len.2 in
    omega arith

pub overflow_add-end : goal.overflow_add-end
overflow_add-end c =
    let known = inside (goal.at.overflow_add-end c).After-part_end-end in
    let few = c.requires.bytes_len.2 in
    omega arith

pub returns-in-Ok-Some : goal.returns-in-Ok-Some
returns-in-Ok-Some c =
    let here = goal.at.returns-in-Ok-Some c in
    let a = c.args in
    let found = c.in-Ok-Some.is ∙ ap Ok c.in-Ok-Some.field-0-is in
    record {
      by_index = λ index seen.
          let q = question (kept_in c.args.kept) a.path.now index in
          c.enter.ensures.by_index a.path.now index a.bytes.now seen
          ∙ sym (slots here.After-scan index seen ∙ turn_found q seen _ (done (stop 2)) _ _ found);
      by_index_2 = λ index. c.enter.ensures.by_index_2 a.path.now index a.bytes.now;
    }

pub returns-in-Err : goal.returns-in-Err
returns-in-Err c =
    let here = goal.at.returns-in-Err c in
    let p : Spot = record { ino = c.args.ino; name_at = c.args.name_at; level = 0; block = 0 } in
    record {
      by_index = λ index seen.
          let q = question (kept_in c.args.kept) c.args.path.now index in
          let malformed = turn_malformed q seen _ (done (stop 2)) _ c.args.bytes.now p c.in-Err.is c.in-Err.ensures.stop_value in
          rw c.go_to-in-Err.ensures (malformed ∙ sym (slots here.After-scan index seen));
      by_index_2 = λ index. rw c.go_to-in-Err.ensures tt;
    }

pub returns-in-Ok-None : goal.returns-in-Ok-None
returns-in-Ok-None c =
    let here = goal.at.returns-in-Ok-None c in
    let p : Spot = record { ino = c.args.ino; name_at = c.args.name_at; level = 0; block = 0 } in
    record {
      by_index = λ index seen.
          let q = question (kept_in c.args.kept) c.args.path.now index in
          let absent = turn_on q seen _ (done (stop 2)) _ (c.in-Ok-None.is ∙ ap Ok c.in-Ok-None.field-0-is) in
          rw c.go_to-in-Ok-None.ensures (stopped q seen _ NoName c.args.bytes.now p ∙ sym (slots here.After-scan index seen ∙ absent));
      by_index_2 = λ index. rw c.go_to-in-Ok-None.ensures tt;
    }

pub returns-then-i-eq0-2 : goal.returns-then-i-eq0-2
returns-then-i-eq0-2 c =
    let here = goal.at.returns-then-i-eq0-2 c in
    let p : Spot = record { ino = c.args.ino; name_at = c.args.name_at; level = 0; block = 0 } in
    record {
      by_index = λ index seen.
          let q = question (kept_in c.args.kept) c.args.path.now index in
          rw c.go_to-then-i-eq0-2.ensures
          (no_levels q _ _ _ _ _ (names here.After-part_end-end) c.inode_of-i.ensures (is_directory_lem here.Else-not-is_directory) c.if-i-eq0.false
          (has_blocks here.Else-has_inline_dentry)
          p c.if-i-eq0-2.true);
      by_index_2 = λ index. rw c.go_to-then-i-eq0-2.ensures tt;
    }

pub search-requires : goal.search-requires
search-requires c =
    let is = rw c.inode_of-i.ensures at (is_directory_lem (goal.at.search-requires c).Else-not-is_directory) in
    record { inode_len = (c.requires.bytes_len.0, is, omega arith, omega arith) }

pub returns : goal.returns
returns c =
    let here = goal.at.returns c in
    let a = c.args in
    record {
      by_index = λ index seen.
          let q = question (kept_in c.args.kept) a.path.now index in
          c.search.ensures.by_index a.path.now index _ _ seen c.name_of-name.ensures.0 (names here.After-part_end-end)
          ∙ sym (levels_came q _ _ _ _ _ (names here.After-part_end-end) c.inode_of-i.ensures (is_directory_lem here.Else-not-is_directory) c.if-i-eq0.false
          (has_blocks here.Else-has_inline_dentry)
          c.if-i-eq0-2.false);
      by_index_2 = λ index. c.search.ensures.by_index_2 a.path.now index c.requires.bytes_len.1;
    }
