-- A directory's inode came, or one of its blocks, and a name is sought in it: each case is a move, or is what an inode or a search comes to.
use Prim.Native.Nat.{ℕ, ◌+◌, ◌-◌}
use native.Mathlib.Omega.{arith}
use mathlib.Core.Path.{◌≡◌, refl, sym, ap, ◌∙◌}
use mathlib.Core.Bool.{Bool, true, false}
use mathlib.Core.List.{List, ◌∷◌}
use lib.ListN.{drop}
use Rattle.std.specs.Prelude.{Option, Some, None, Result, Ok, Err}
use Rattle.answer.specs.declared.Stop as r
use Rattle.answer.specs.declared.Stop.TheVariants.{NoName, KindNotRead, MalformedSlot}
use Rattle.answer.specs.Number.{stop_number}
use Rattle.walk.specs.Walk.{Seen, Walk, done, Outcome, stop, and_then}
use Rattle.inode.specs.declared.Inode.{Inode}
use Rattle.inode.specs.Inode.{inode_of, has_inline_dentry, is_directory}
use Rattle.node.specs.Block.{Fetched, hole, held}
use Rattle.name_hash.specs.Hash.{hash_of}
use Rattle.dentry.specs.declared.Layout.{Layout}
use Rattle.dentry.specs.Slot.{layout_of, Wanted, wanted, Sought, in_part, in_slots}
use Rattle.dentry.specs.Scan.{sought_of}
use Rattle.directory.specs.Find.{after_slots, after_block, levels_walk, find_walk}
use Rattle.directory.proofs.Turns.{levels_step, levels_over, after_hole}
use Rattle.path_lookup.specs.Lookup.{at_directory}
use Rattle.path_lookup.proofs.Cases.{directory_other, directory_empty, directory_find}
use Rattle.path_lookup.proofs.Inline.{inline_directory}
use Rattle.asking.specs.Asking.{Asking}
use Rattle.asking.specs.Table.{asking}
use Rattle.asking.specs.Pull.{Ending, came}
use Rattle.ask_node.proofs.Wanting.{stop_asked, ok_asked}
use Rattle.ask_directory.specs.declared.Spot.{Spot}
use Rattle.ask_directory.specs.declared.Goes.TheVariants.{Stop}
use Rattle.ask_directory.specs.Left.{Question, bounds_in, named, names_then, inode_then, directory_at, search_left, search_then, data_then}
use Rattle.ask_directory.specs.Move.{moved, no_target}
use Rattle.ask_directory.proofs.Fetches.{stop_moved}

-- ---- what a part's slots come to is what its block's do
pub part_scanned : (l : Layout) (part block : List ℕ) (w : Wanted) (inline : Bool) {o : Sought} → l ≡ layout_of inline
    → part ≡ drop (layout_of inline).start block → in_part l part w ≡ o → in_slots (layout_of inline) block w ≡ o
part_scanned l part block w inline e f h =
    sym (ap (λ (x : Layout). in_part x part w) e ∙ ap (λ (x : List ℕ). in_part (layout_of inline) x w) f) ∙ h

-- ---- a walk to the name's inode number, and then the names behind it
module _ (q : Question) (s : Seen) (names : List (List ℕ)) where
  abbrev pub then_names : Walk (Outcome ℕ) → Asking Ending
  then_names w = asking q.kept came s (and_then w (names_then q names))

  pub stopped : (reason : r.Stop) (block : List ℕ) (p : Spot)
      → moved q block s (no_target p (Stop reason)) ≡ then_names (done (stop (stop_number reason)))
  stopped reason block p = stop_moved q block s p reason ∙ sym (stop_asked q.kept s (names_then q names) (stop_number reason))

  -- by what the slots come to, where `rest` is left if the name isn't in them
  module _ (rest : Walk (Outcome ℕ)) (turn : Result (Option ℕ) r.Stop) where
    by_turn : {to : Result (Option ℕ) r.Stop} → turn ≡ to → then_names (after_slots rest (sought_of turn)) ≡ then_names (after_slots rest (sought_of to))
    by_turn e = ap (λ (x : Result (Option ℕ) r.Stop). then_names (after_slots rest (sought_of x))) e

    pub turn_found : (child : ℕ) → turn ≡ Ok (Some child) → then_names (after_slots rest (sought_of turn)) ≡ asking q.kept came s (names_then q names child)
    turn_found child e = by_turn e ∙ ok_asked q.kept s (names_then q names) child

    pub turn_malformed : (block : List ℕ) (p : Spot) {reason : r.Stop} → turn ≡ Err reason → reason ≡ MalformedSlot
        → moved q block s (no_target p (Stop reason)) ≡ then_names (after_slots rest (sought_of turn))
    turn_malformed block p {reason = reason} e m = rw m (stopped MalformedSlot block p) ∙ sym (by_turn e)

    pub turn_on : turn ≡ Ok None → then_names (after_slots rest (sought_of turn)) ≡ then_names rest
    turn_on e = by_turn e

-- ---- its inode came
module _ (q : Question) (ino : ℕ) (block : List ℕ) (s : Seen) {all : List (List ℕ)} (name : List ℕ) (names : List (List ℕ)) (e : all ≡ name ∷ names) where
  abbrev sought : Walk (Outcome ℕ)
  sought = at_directory (bounds_in q) name ino block

  inode_came : asking q.kept came s (inode_then q ino all block) ≡ then_names q s names sought
  unfolding inode_then
  inode_came = ap (λ (l : List (List ℕ)). asking q.kept came s (inode_then q ino l block)) e

  refused : (reason : r.Stop) (p : Spot) → sought ≡ done (stop (stop_number reason))
      → moved q block s (no_target p (Stop reason)) ≡ asking q.kept came s (inode_then q ino all block)
  refused reason p f = stopped q s names reason block p ∙ sym (inode_came ∙ ap (then_names q s names) f)

  module _ {i : Inode} (read : i ≡ inode_of block) where
    pub other_came : (p : Spot) → is_directory i ≡ false
        → moved q block s (no_target p (Stop KindNotRead)) ≡ asking q.kept came s (inode_then q ino all block)
    other_came p r = refused KindNotRead p (directory_other (bounds_in q) name ino block read r)

    module _ (is : is_directory i ≡ true) where
      pub empty_came : (p : Spot) → i.size ≡ 0 → moved q block s (no_target p (Stop NoName)) ≡ asking q.kept came s (inode_then q ino all block)
      empty_came p z = refused NoName p (directory_empty (bounds_in q) name ino block read is z)

      module _ (some : i.size ≡ 0 → ⊥) where
        -- it is inline, and its slots were scanned
        pub slots_came : {hash : ℕ} (turn : Result (Option ℕ) r.Stop) → has_inline_dentry i ≡ true → hash ≡ hash_of name
            → in_slots (layout_of true) block (wanted hash name) ≡ sought_of turn
            → asking q.kept came s (inode_then q ino all block) ≡ then_names q s names (after_slots (done (stop 2)) (sought_of turn))
        slots_came turn own hashed scanned =
            let slots = inline_directory (bounds_in q) name ino block (rw read at is) (rw read at own) (rw read at some) in
            let came_to = rw hashed at scanned in
            inode_came ∙ ap (then_names q s names) (slots ∙ ap (after_slots (done (stop 2))) came_to)

        -- it has blocks, by so many levels
        module _ (blocks : has_inline_dentry i ≡ false) where
          to_levels : sought ≡ levels_walk (directory_at q ino block) (named name) (inode_of block).depth 0
          unfolding find_walk
          to_levels = directory_find (bounds_in q) name ino block refl _ _ false (rw read at is) (rw read at some) refl refl (sym (rw read at blocks))

          levels_left_lem : sought ≡ levels_walk (directory_at q ino block) (named name) ((inode_of block).depth - 0) 0
          levels_left_lem =
              let whole : (inode_of block).depth ≡ (inode_of block).depth - 0 = omega arith in
              to_levels ∙ ap (λ (n : ℕ). levels_walk (directory_at q ino block) (named name) n 0) whole

          pub no_levels : (p : Spot) → i.depth ≡ 0 → moved q block s (no_target p (Stop NoName)) ≡ asking q.kept came s (inode_then q ino all block)
          no_levels p z =
              let own = ap (λ (x : Inode). x.depth) read in
              refused NoName p (levels_left_lem ∙ levels_over (directory_at q ino block) (named name) (inode_of block).depth 0 (omega arith))

          pub levels_came : (i.depth ≡ 0 → ⊥)
              → asking q.kept came s (inode_then q ino all block) ≡ asking q.kept came s (search_then q ino block name names 0 0)
          levels_came n =
              let own = ap (λ (x : Inode). x.depth) read in
              let step = levels_step (directory_at q ino block) (named name) (inode_of block).depth 0 (omega (arith, n)) in
              inode_came ∙ ap (then_names q s names) (levels_left_lem ∙ step)

-- ---- one of its blocks came, or there is none

-- the search past the block at hand
abbrev pub search_from : Question → Spot → List ℕ → List ℕ → Walk (Outcome ℕ)
search_from q p inode name = search_left (directory_at q p.ino inode) (named name) (inode_of inode).depth p.level (p.block + 1)

module _ (q : Question) (p : Spot) (inode : List ℕ) (s : Seen) {all : List (List ℕ)} (name : List ℕ) (names : List (List ℕ)) (e : all ≡ name ∷ names) where
  abbrev rest : Walk (Outcome ℕ)
  rest = search_from q p inode name

  data_came : (f : Fetched) → asking q.kept came s (data_then q p inode all f) ≡ then_names q s names (after_block false (named name) rest f)
  unfolding data_then
  data_came f = ap (λ (l : List (List ℕ)). asking q.kept came s (data_then q p inode l f)) e

  pub hole_came : asking q.kept came s (data_then q p inode all hole)
      ≡ asking q.kept came s (search_then q p.ino inode name names p.level (p.block + 1))
  hole_came = data_came hole ∙ ap (then_names q s names) (after_hole false (named name) rest)

  pub block_came_lem : (block : List ℕ) {hash : ℕ} (turn : Result (Option ℕ) r.Stop) → hash ≡ hash_of name
      → in_slots (layout_of false) block (wanted hash name) ≡ sought_of turn
      → asking q.kept came s (data_then q p inode all (held block)) ≡ then_names q s names (after_slots (search_from q p inode name) (sought_of turn))
  unfolding after_block
  block_came_lem block turn hashed scanned =
      let came_to = rw hashed at scanned in
      data_came (held block) ∙ ap (λ (o : Sought). then_names q s names (after_slots rest o)) came_to
