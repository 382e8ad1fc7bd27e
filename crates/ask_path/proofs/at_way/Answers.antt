-- `at_way` meets its contract: what the node leads to is fetched, or the search goes on past a hole.
use Prim.Native.Nat.{◌+◌, ◌-◌, ◌≤◌, ◌<◌}
use native.Mathlib.Omega.{arith}
use mathlib.Core.Path.{◌≡◌, sym, ap, ◌∙◌}
use mathlib.Core.Bool.{true, false}
use mathlib.Core.List.{◌∷◌}
use lib.ListN.{length, take, drop}
use Rattle.path.proofs.Parts.{part_inside}
use Rattle.inode.specs.declared.Inode.{Inode}
use Rattle.inode.specs.Inode.{inode_of, is_directory, is_past, count_in}
use Rattle.ask_node.specs.declared.Fetch.{Fetch}
use Rattle.ask_node.specs.Fetch.{next_fetch}
use Rattle.ask_node.specs.Wants.{kept_in}
use Rattle.ask_directory.specs.declared.Move.{Move}
use Rattle.ask_directory.specs.Left.{question, names_from}
use Rattle.ask_directory.specs.Move.{goes_on, fetch_move, is_empty}
use Rattle.ask_directory.proofs.Fetches.{fetch_in}
use Rattle.ask_path.proofs.Names.{no_names, names_from_lem}
use Rattle.ask_path.proofs.Spots.{file_has, directory_has}
use Rattle.ask_path.proofs.Directories.{hole_came}
use Rattle.ask_path.proofs.Nodes.{hop_file, hop_block, hop_hole}
use Rattle.ask_path.proofs.at_way.Goals as goal
use Rattle.ask_path.proofs.at_way.Goals.{After-count_in-count, After-fetch_move-fetched, After-fetch_next-f, After-part_end-end, Else-path-at, Then-path-at}

-- ---- what is known there
fetched : (k : After-fetch_next-f) → let a = k.args in
    k.fetch_next-f.result ≡ next_fetch (kept_in a.kept) a.inode.now a.target.index a.target.hop a.bytes.now
fetched k = k.fetch_next-f.ensures.value

has_index : (k : Then-path-at) → let a = k.args in is_past (inode_of a.inode.now) a.index ≡ false
has_index k = file_has k.args.path.now _ _ k.args.spot k.if-path-at.true k.requires.spot_in

count_is : (k : After-count_in-count) → let a = k.args in k.count_in-count.result ≡ count_in (inode_of a.inode.now) a.index
count_is k = k.count_in-count.ensures.0 ∙ ap (λ (i : Inode). count_in i k.args.index) k.inode_of.ensures

named : (k : Else-path-at) → let a = k.args in a.spot.name_at ≤ length a.path.now
named k = omega (arith, k.if-path-at.false)

is_directory_lem : (k : Else-path-at) → let a = k.args in
    (is_directory (inode_of a.inode.now) ≡ true) × (a.spot.level < 63) × (a.spot.block < 4)
is_directory_lem k = directory_has k.args.path.now _ _ k.args.spot (named k) k.requires.spot_in

-- what the move is by
goes : (k : After-fetch_move-fetched) → let a = k.args in
    is_empty k.fetch_move-fetched.result.goes
    ≡ is_empty (goes_on 0 (next_fetch (kept_in a.kept) a.inode.now a.target.index a.target.hop a.bytes.now).wants)
goes k =
    ap (λ (m : Move). is_empty m.goes) k.fetch_move-fetched.ensures ∙ ap (λ (f : Fetch). is_empty (goes_on 0 f.wants)) k.fetch_next-f.ensures.value

inside : (k : After-part_end-end) → let a = k.args in
    (a.spot.name_at ≤ k.part_end-end.result) × (k.part_end-end.result ≤ length a.path.now)
inside k =
    let behind : k.args.spot.name_at ≤ length k.args.path.now = omega (arith, k.if-path-at.false) in
    part_inside _ _ _ behind k.part_end-end.ensures

-- the name, and those behind it
names : (k : After-part_end-end) → let a = k.args in
    let at = a.spot.name_at in
    names_from a.path.now at ≡ take (k.part_end-end.result - at) (drop at a.path.now) ∷ names_from a.path.now (k.part_end-end.result + 1)
names k =
    let behind : k.args.spot.name_at ≤ length k.args.path.now = omega (arith, k.if-path-at.false) in
    names_from_lem _ _ behind k.part_end-end.ensures

pub count_in-count-requires : goal.count_in-count-requires
count_in-count-requires c = rw c.inode_of.ensures (has_index (goal.at.count_in-count-requires c).Then-path-at)

pub returns-then-path-at : goal.returns-then-path-at
returns-then-path-at c =
    let here = goal.at.returns-then-path-at c in
    let a = c.args in
    let no = no_names a.path.now a.spot.name_at c.if-path-at.true in
    let next = c.fetch_move.ensures ∙ ap (λ (f : Fetch). fetch_move f a.target.index a.spot c.count_in-count.result) (fetched here.After-fetch_next-f) in
    let q = question (kept_in a.kept) a.path.now a.index in
    let count = count_is here.After-count_in-count in
    record {
      result_value = λ seen. rw next (hop_file q a.spot _ _ _ _ seen c.requires.inode_len.3 _ no count);
      move_in = rw c.fetch_move.ensures
          (fetch_in _ _ _ a.spot c.requires.spot_in c.fetch_next-f.result a.target.index _ c.count_in-count.ensures.2 c.fetch_next-f.ensures.hop_in);
    }

pub returns-then-not-is_empty : goal.returns-then-not-is_empty
returns-then-not-is_empty c =
    let here = goal.at.returns-then-not-is_empty c in
    let a = c.args in
    let some = sym (goes here.After-fetch_move-fetched) ∙ sym c.is_empty.ensures ∙ c.if-not-is_empty.true in
    let next = c.fetch_move-fetched.ensures ∙ ap (λ (f : Fetch). fetch_move f a.target.index a.spot 0) (fetched here.After-fetch_next-f) in
    let q = question (kept_in a.kept) a.path.now a.index in
    record {
      result_value = λ seen. rw next (hop_block q a.spot _ _ _ _ seen c.requires.inode_len.3 some);
      move_in = rw c.fetch_move-fetched.ensures
          (fetch_in _ _ _ a.spot c.requires.spot_in c.fetch_next-f.result a.target.index 0 (omega arith) c.fetch_next-f.ensures.hop_in);
    }

pub slice_bounds-hash-end : goal.slice_bounds-hash-end
slice_bounds-hash-end c = let known = inside c in omega arith

pub overflow_add-next : goal.overflow_add-next
overflow_add-next c = let known = is_directory_lem (goal.at.overflow_add-next c).Else-path-at in omega (arith, known.2)

pub search-requires : goal.search-requires
search-requires c =
    let known = is_directory_lem (goal.at.search-requires c).Else-path-at in
    record { inode_len = (c.requires.inode_len.0, known.0, known.1, omega (arith, known.2)) }

pub returns : goal.returns
returns c =
    let a = c.args in
    let none = sym (goes (goal.at.returns c).After-fetch_move-fetched) ∙ sym c.is_empty.ensures ∙ c.if-not-is_empty.false in
    let q = question (kept_in a.kept) a.path.now a.index in
    let left = names (goal.at.returns c).After-part_end-end in
    record {
      result_value = λ seen.
          c.search.ensures.by_index a.path.now a.index _ _ seen c.hash-hash.ensures left
          ∙ sym (hole_came q a.spot a.inode.now seen _ _ left) ∙ sym (hop_hole q a.spot _ _ _ _ seen c.requires.inode_len.3 none);
      move_in = c.search.ensures.by_index_2 a.path.now a.index (named (goal.at.returns c).Else-path-at);
    }
