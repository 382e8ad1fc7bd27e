-- The search of a directory to the next block that there is: its steps, and that what is left of it stays what it was begun for.
use Prim.Native.Nat.{ℕ, ◌+◌, ◌^◌, ◌≤◌, ◌<◌}
use native.Mathlib.Omega.{arith}
use lib.Dec.{leb}
use borrow.Author.Tests.{le-leb, lt-leb, leb-false}
use mathlib.Core.Path.{◌≡◌, refl, sym, ap, subst, ◌∙◌}
use mathlib.Core.Bool.{Bool, true, false}
use mathlib.Core.List.{List, ◌∷◌}
use lib.ListN.{length}
use Rattle.answer.specs.declared.Stop.TheVariants.{NoName}
use Rattle.field.specs.Choice.{choose}
use Rattle.field.proofs.Choosing.{clash}
use Rattle.name_hash.specs.Hash.{hash_of}
use Rattle.place.specs.declared.Place.{Place}
use Rattle.place.specs.Place.{last_index}
use Rattle.place.specs.Way.{way_of}
use Rattle.place.proofs.Inverse.{past}
use Rattle.walk.specs.Walk.{Seen, Walk, Outcome, stop, and_then, ran}
use Rattle.walk.proofs.Trees.{then_then}
use Rattle.inode.specs.declared.Inode.{Inode}
use Rattle.inode.specs.Inode.{inode_of, addresses_in, is_directory}
use Rattle.inode.proofs.Counting.{shallow}
use Rattle.node.specs.Block.{Fetched, block_walk}
use Rattle.hash_level.specs.declared.Level.{Level}
use Rattle.hash_level.specs.Level.{blocks_of, bucket_of, level_of}
use Rattle.hash_level.proofs.Levels.{blocks_few, bucket_small}
use Rattle.directory.specs.Find.{Directory, after_block}
use Rattle.directory.proofs.Turns.{levels_step, levels_over, bucket_step, bucket_over, after_hole}
use Rattle.directory.proofs.Inline.{not_inline}
use Rattle.asking.specs.Asking.{Asking, answer}
use Rattle.asking.specs.Table.{Kept, asking}
use Rattle.asking.specs.Pull.{Ending, came}
use Rattle.ask_node.specs.declared.Wants.{Wants}
use Rattle.ask_node.specs.declared.Wants.TheVariants as w
use Rattle.ask_node.specs.declared.Fetch.{Fetch}
use Rattle.ask_node.specs.Fetch.{way_to, no_node, way_fetch, block_fetch, fetching}
use Rattle.ask_node.proofs.Wanting.{stop_asked}
use Rattle.ask_node.proofs.Fetching.{block_fetched}
use Rattle.ask_directory.specs.declared.Spot.{Spot}
use Rattle.ask_directory.specs.declared.Goes.TheVariants.{Stop, Empty}
use Rattle.ask_directory.specs.declared.Move.{Move}
use Rattle.ask_directory.specs.Left.{Question, question, bounds_in, names_from, named, names_then, directory_at, search_left, search_then, data_then}
use Rattle.ask_directory.specs.Move.{moved, goes_on, no_target, fetch_move, bucket_move, is_empty, SpotBy, MoveIn}
use Rattle.ask_directory.proofs.Fetches.{stop_moved, block_hops, hole_left, fetch_moved, fetch_in}

-- ---- a directory's block of an index
empty_wants : (wants : Wants) → is_empty (goes_on 0 wants) ≡ true → wants ≡ w.Hole
empty_wants (w.Table b) e = absurd (clash e refl)
empty_wants (w.Node b table_inode) e = absurd (clash e refl)
empty_wants (w.Data b) e = absurd (clash e refl)
empty_wants w.Hole e = refl
empty_wants (w.Stop reason) e = absurd (clash e refl)

module _ (t : Kept) (inode : List ℕ) (p : Spot) (index : ℕ) where
  abbrev last : ℕ
  last = last_index (addresses_in (inode_of inode))

  abbrev fetched : Move
  fetched = fetch_move (block_fetch t inode index) index p 0

  pub past_last : last < index → {m : Move} → m ≡ no_target p (Empty 0) → m ≡ bucket_move t inode p index
  past_last h e = rw (lt-leb index last h) e

  pub up_to_last : index ≤ last → {f : Fetch} {m : Move} → f ≡ block_fetch t inode index → m ≡ fetch_move f index p 0 → m ≡ bucket_move t inode p index
  up_to_last h same e = rw (le-leb index last h, ← same) e

  -- past the last index there is no way
  no_way : last < index → block_fetch t inode index ≡ no_node w.Hole
  unfolding way_fetch
  no_way h = ap (λ (q : Place). way_fetch t inode (way_of q)) (past (addresses_in (inode_of inode)) index h)

  -- by whether the index is past the last
  empty_by : (b : Bool) → leb index last ≡ b → is_empty (choose b fetched (no_target p (Empty 0))).goes ≡ true → (block_fetch t inode index).wants ≡ w.Hole
  empty_by true e h = empty_wants (block_fetch t inode index).wants h
  empty_by false e h = ap (λ (f : Fetch). f.wants) (no_way (leb-false index last e))

  bucket_empty : is_empty (bucket_move t inode p index).goes ≡ true → (block_fetch t inode index).wants ≡ w.Hole
  bucket_empty h = empty_by (leb index last) refl h

  full_by : (b : Bool) → is_empty (choose b fetched (no_target p (Empty 0))).goes ≡ false → choose b fetched (no_target p (Empty 0)) ≡ fetched
  full_by true h = refl
  full_by false h = absurd (clash refl h)

  bucket_full : is_empty (bucket_move t inode p index).goes ≡ false → bucket_move t inode p index ≡ fetched
  bucket_full h = full_by (leb index last) h

-- ---- what is left of a search, one step on
abbrev spot_at : ℕ → ℕ → ℕ → ℕ → Spot
spot_at ino nameAt level k = record { ino = ino; name_at = nameAt; level = level; block = k }

module _ (t : Kept) (inode : List ℕ) (ino : ℕ) (path : List ℕ) (index : ℕ) (name : List ℕ) (names : List (List ℕ)) (s : Seen) where
  abbrev asks : Question
  asks = question t path index

  abbrev here : Directory
  here = directory_at asks ino inode

  abbrev depth : ℕ
  depth = (inode_of inode).depth

  -- what is asked where a walk comes to the name's entry
  abbrev then_asked : Walk (Outcome ℕ) → Asking Ending
  then_asked v = asking t came s (and_then v (names_then asks names))

  abbrev asked : ℕ → ℕ → Asking Ending
  asked level k = asking t came s (search_then asks ino inode name names level k)

  module _ (level k : ℕ) (over : blocks_of level ≤ k) where
    level_asked : level + 1 < depth → asked level k ≡ asked (level + 1) 0
    level_asked more = ap then_asked (bucket_over here (named name) depth level k over ∙ levels_step here (named name) depth (level + 1) more)

    over_asked : depth ≤ level + 1 → asked level k ≡ answer (came (ran (stop 2) s))
    over_asked end =
        ap then_asked (bucket_over here (named name) depth level k over ∙ levels_over here (named name) depth (level + 1) end)
        ∙ stop_asked t s (names_then asks names) 2

  -- a block of the bucket is fetched, with the spot at it
  module _ (nameAt level k : ℕ) (more : k < blocks_of level) where
    abbrev block : ℕ
    block = bucket_of (inode_of inode).level level (hash_of name) + k

    abbrev spot : Spot
    spot = spot_at ino nameAt level k

    abbrev next : Fetched → Walk (Outcome ℕ)
    next = after_block false (named name) (search_left here (named name) depth level (k + 1))

    block_walk_lem : search_left here (named name) depth level k ≡ and_then (block_walk (bounds_in asks) ino inode (addresses_in (inode_of inode)) block) next
    block_walk_lem =
        bucket_step here (named name) depth level k more
        ∙ ap (λ (v : Walk (Outcome Fetched)). and_then v next) (not_inline (bounds_in asks) ino inode (addresses_in (inode_of inode)) block refl)

    block_asked : asked level k ≡ fetching t ino (way_to inode block) (data_then asks spot inode (name ∷ names)) s (block_fetch t inode block)
    unfolding data_then
    block_asked =
        ap then_asked block_walk_lem
        ∙ ap (asking t came s) (then_then (block_walk (bounds_in asks) ino inode (addresses_in (inode_of inode)) block) next (names_then asks names))
        ∙ sym (block_fetched t ino (data_then asks spot inode (name ∷ names)) s inode block)

    -- there is none
    hole_asked : (block_fetch t inode block).wants ≡ w.Hole → asked level k ≡ asked level (k + 1)
    unfolding data_then
    hole_asked e =
        block_asked
        ∙ hole_left t ino (way_to inode block) (data_then asks spot inode (name ∷ names)) s (block_fetch t inode block) (block_hops t inode block) e
        ∙ ap then_asked (after_hole false (named name) (search_left here (named name) depth level (k + 1)))

    -- there is one
    found_asked : names_from path nameAt ≡ name ∷ names → is_empty (bucket_move t inode spot block).goes ≡ false
        → moved asks inode s (bucket_move t inode spot block) ≡ asked level k
    found_asked e full =
        let same = bucket_full t inode spot block full in
        let some : is_empty (goes_on 0 (block_fetch t inode block).wants) ≡ false = subst (λ (m : Move). is_empty m.goes ≡ false) same full in
        let held : (block_fetch t inode block).wants ≡ w.Hole → ⊥ = λ h. clash refl (subst (λ (wants : Wants). is_empty (goes_on 0 wants) ≡ false) h some) in
        ap (moved asks inode s) same
        ∙ fetch_moved asks inode spot block (block_fetch t inode block) 0 s (block_hops t inode block) (λ h. absurd (held h))
        ∙ ap (λ (ns : List (List ℕ)). fetching t ino (way_to inode block) (data_then asks spot inode ns) s (block_fetch t inode block)) e
        ∙ sym block_asked

-- ---- the loop: the search from block k of level n on comes to what it does from where it was begun
pub record SearchOn (t : Kept) (inode : List ℕ) (ino hash level₀ k₀ level k : ℕ) : Type 0 where
  pub deep : level < 63
  pub few : k ≤ 4
  pub same : (path : List ℕ) (index : ℕ) (name : List ℕ) (names : List (List ℕ)) (s : Seen) → hash ≡ hash_of name
      → asking t came s (search_then (question t path index) ino inode name names level k)
      ≡ asking t came s (search_then (question t path index) ino inode name names level₀ k₀)

pub search_start : (t : Kept) (inode : List ℕ) (ino hash level k : ℕ) → level < 63 → k ≤ 4 → SearchOn t inode ino hash level k level k
search_start t inode ino hash level k h g = record { deep = h; few = g; same = λ path index name names s e. refl }

-- a turn of it, with what the code has of the inode and of the bucket
pub record Turn (t : Kept) (inode : List ℕ) (ino hash level₀ k₀ level k : ℕ) (i : Inode) (l : Level) : Type 0 where
  pub go : SearchOn t inode ino hash level₀ k₀ level k
  pub known : i ≡ inode_of inode
  pub found : l ≡ level_of i.level level hash

pub turn_of : {t : Kept} {inode : List ℕ} {ino hash level₀ k₀ level k : ℕ} {i : Inode} {l : Level} → SearchOn t inode ino hash level₀ k₀ level k
    → i ≡ inode_of inode → l ≡ level_of i.level level hash → Turn t inode ino hash level₀ k₀ level k i l
turn_of go known found = record { go = go; known = known; found = found }

module _ {t : Kept} {inode : List ℕ} {ino hash level₀ k₀ level k : ℕ} {i : Inode} {l : Level}
    (turn : Turn t inode ino hash level₀ k₀ level k i l) where
  -- what the search is to come to
  abbrev Comes : ℕ → Move → Type 0
  Comes nameAt m = (path : List ℕ) (index : ℕ) (name : List ℕ) (names : List (List ℕ)) (s : Seen) → hash ≡ hash_of name
      → names_from path nameAt ≡ name ∷ names
      → moved (question t path index) inode s m ≡ asking t came s (search_then (question t path index) ino inode name names level₀ k₀)

  blocks : l.count ≡ blocks_of level
  blocks = ap (λ (b : Level). b.count) turn.found

  -- a bucket's blocks are few, and the code's sum fits
  pub turn_few : k < l.count → k < 4
  turn_few on =
      let most = blocks_few level in
      let count = blocks in
      omega arith

  pub block_small : l.bucket + k < 2 ^ 41
  block_small =
      let small = bucket_small i.level level hash turn.go.deep in
      let bucket = ap (λ (b : Level). b.bucket) turn.found in
      let most = turn.go.few in
      omega arith

  -- the bucket is done
  module _ (over : l.count ≤ k) where
    done_here : blocks_of level ≤ k
    done_here = omega (arith, blocks)

    pub search_next : is_directory (inode_of inode) ≡ true → level + 1 < i.depth → SearchOn t inode ino hash level₀ k₀ (level + 1) 0
    search_next is more =
        let depth = ap (λ (j : Inode). j.depth) turn.known in
        let most = shallow (inode_of inode) is in
        let on : level + 1 < (inode_of inode).depth = omega arith in
        record {
          deep = omega arith;
          few = omega arith;
          same = λ path index name names s e.
              sym (level_asked t inode ino path index name names s level k done_here on) ∙ turn.go.same path index name names s e;
        }

    -- and so is the last level
    module _ (nameAt : ℕ) (end : i.depth ≤ level + 1) {p : Spot} {m : Move} (e : m ≡ no_target p (Stop NoName)) where
      pub search_end : Comes nameAt m
      search_end path index name names s h n =
          let depth = ap (λ (j : Inode). j.depth) turn.known in
          let last : (inode_of inode).depth ≤ level + 1 = omega arith in
          ap (moved (question t path index) inode s) e
          ∙ stop_moved (question t path index) inode s p NoName
          ∙ sym (over_asked t inode ino path index name names s level k done_here last)
          ∙ turn.go.same path index name names s h

      pub end_in : (path : List ℕ) (index : ℕ) → nameAt ≤ length path → MoveIn path index inode m
      end_in path index inside = subst (MoveIn path index inode) (sym e) tt

  -- a block of it is fetched
  module _ (nameAt : ℕ) (on : k < l.count) {m : Move} (e : m ≡ bucket_move t inode (spot_at ino nameAt level k) (l.bucket + k)) where
    more : k < blocks_of level
    more = omega (arith, blocks, on)

    -- by the name's hash
    at_block_lem : (name : List ℕ) → hash ≡ hash_of name → l.bucket + k ≡ bucket_of (inode_of inode).level level (hash_of name) + k
    at_block_lem name h = rw (turn.found, turn.known, h)

    move_at : (name : List ℕ) → hash ≡ hash_of name
        → m ≡ bucket_move t inode (spot_at ino nameAt level k) (bucket_of (inode_of inode).level level (hash_of name) + k)
    move_at name h = e ∙ ap (bucket_move t inode (spot_at ino nameAt level k)) (at_block_lem name h)

    hole_at : is_empty m.goes ≡ true → (name : List ℕ) → hash ≡ hash_of name
        → (block_fetch t inode (bucket_of (inode_of inode).level level (hash_of name) + k)).wants ≡ w.Hole
    hole_at empty name h = bucket_empty t inode _ _ (subst (λ (n : Move). is_empty n.goes ≡ true) (move_at name h) empty)

    pub search_hole : is_empty m.goes ≡ true → SearchOn t inode ino hash level₀ k₀ level (k + 1)
    search_hole empty =
        let last = turn_few on in
        record {
          deep = turn.go.deep;
          few = omega arith;
          same = λ path index name names s h.
              sym (hole_asked t inode ino path index name names s nameAt level k more (hole_at empty name h)) ∙ turn.go.same path index name names s h;
        }

    module _ (full : is_empty m.goes ≡ false) where
      pub search_found : Comes nameAt m
      search_found path index name names s h n =
          let here = subst (λ (x : Move). is_empty x.goes ≡ false) (move_at name h) full in
          ap (moved (question t path index) inode s) (move_at name h)
          ∙ found_asked t inode ino path index name names s nameAt level k more n here
          ∙ turn.go.same path index name names s h

      fetched_here : m ≡ fetch_move (block_fetch t inode (l.bucket + k)) (l.bucket + k) (spot_at ino nameAt level k) 0
      fetched_here = e ∙ bucket_full t inode _ _ (subst (λ (x : Move). is_empty x.goes ≡ false) e full)

      pub found_in : is_directory (inode_of inode) ≡ true → m.target.hop < 4 → (path : List ℕ) (index : ℕ) → nameAt ≤ length path
          → MoveIn path index inode m
      found_in is few path index inside =
          let p = spot_at ino nameAt level k in
          let spot = subst (λ (b : Bool). SpotBy b index inode p) (sym (le-leb nameAt (length path) inside)) (is, turn.go.deep, turn_few on) in
          let hop = subst (λ (x : Move). x.target.hop < 4) fetched_here few in
          subst (MoveIn path index inode) (sym fetched_here) (fetch_in path index inode p spot (block_fetch t inode (l.bucket + k)) (l.bucket + k) 0
          (omega arith) hop)
