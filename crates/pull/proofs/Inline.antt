-- K4, of every pull: an inline file answers 0 with its size as byte count, or 3; its bytes are the inode's; and it asks nothing beyond its
-- own inode.
use Prim.Native.Nat.{ℕ, ◌-◌, ◌*◌, ◌<◌, ◌≤◌}
use native.Mathlib.Omega.{arith}
use mathlib.Core.Path.{◌≡◌, refl, sym, ap, ◌∙◌}
use mathlib.Core.Bool.{Bool, true, false, ◌&&◌}
use mathlib.Core.Logic.{◌⊎◌, inl, inr}
use mathlib.Core.List.{List, ◌++◌}
use lib.ListN.{take, drop, replicate}
use lib.Dec.{eqb, ltb}
use borrow.Author.Tests.{eq-eqb, eqb-true, eqb-false, lt-ltb, le-ltb, ltb-true, ltb-false, le-leb, lt-leb}
use Rattle.field.specs.Choice.{choose}
use Rattle.checkpoint.specs.declared.Volume.{Volume}
use Rattle.checkpoint.specs.Volume.{Opened, opened_image}
use Rattle.place.specs.Place.{last_index}
use Rattle.walk.specs.Walk.{image_view, Seen, empty, done, ran, run, Outcome, ok, stop}
use Rattle.walk.proofs.Runs.{run_then}
use Rattle.inode.specs.Inode.{inode_of, has_inline_data, inline_start, is_regular, addresses_in, is_past}
use Rattle.inode.proofs.Inline.{inline_small, inline_first}
use Rattle.node.specs.Node.{Bounds, bounds_of, inode_walk}
use Rattle.node.specs.Block.{held}
use Rattle.node.proofs.Listed.{Listed, node_listed}
use Rattle.path_lookup.specs.Lookup.{path_walk}
use Rattle.pull.specs.declared.Pulled.{Pulled}
use Rattle.pull.specs.Walk.{Block, at_file, file_walk, named_file_walk, pull_walk}
use Rattle.pull.specs.Pull.{Lent, call_in_shape, written, pull_run, pulled}
use Rattle.pull.proofs.Cases.{file_past, file_inline}
use Rattle.pull.proofs.Results.{write, call_opens}

-- all of an inline file
abbrev pub inline_all : List ℕ → Outcome Block
inline_all inode = ok (record { count = (inode_of inode).size; content = held (drop inline_start inode) })

-- that is its block 0, unless it is empty; any other index is past its end
abbrev pub inline_found : List ℕ → ℕ → Outcome Block
inline_found inode index = choose (eqb index 0 && ltb 0 (inode_of inode).size) (inline_all inode) (stop 3)

-- its answer: "0 with its size as count, or 3"
abbrev pub AllOrPast : Pulled → ℕ → Type 0
AllOrPast r size = ((r.answer ≡ 0) × (r.byte_count ≡ size)) ⊎ ((r.answer ≡ 3) × (r.byte_count ≡ 0))

module _ (m : Bounds) (index ino : ℕ) (inode : List ℕ) (regular : is_regular (inode_of inode) ≡ true) (own : has_inline_data (inode_of inode) ≡ true) where
  abbrev size : ℕ
  size = (inode_of inode).size

  inside : index ≡ 0 → 0 < size → is_past (inode_of inode) index ≡ false
  unfolding is_past
  inside e h = rw (e, lt-leb size 0 h, le-ltb (last_index (addresses_in (inode_of inode))) 0 (omega arith))

  past : size ≤ index * 4096 → is_past (inode_of inode) index ≡ true
  unfolding is_past
  past h = rw (le-leb size (index * 4096) h)

  -- once its inode is read, nothing is looked up or read for it
  pub inline_file : at_file m index ino inode ≡ done (inline_found inode index)
  inline_file = go (eqb index 0) refl (ltb 0 size) refl
    where
      go : (a : Bool) → eqb index 0 ≡ a → (b : Bool) → ltb 0 size ≡ b → at_file m index ino inode ≡ done (choose (a && b) (inline_all inode) (stop 3))
      go true e true f =
          let begins = inside (eqb-true index 0 e) (ltb-true 0 size f) in
          let count = (inline_first (inode_of inode) regular own index begins).1 in
          file_inline m index ino inode refl size regular begins (sym count) own
      go true e false f = let none = ltb-false 0 size f in file_past m index ino inode refl regular (past (omega arith))
      go false e b f =
          let later : index ≡ 0 → ⊥ = eqb-false index 0 e in
          let most = inline_small (inode_of inode) regular own in
          file_past m index ino inode refl regular (past (omega arith))

-- ---- every pull of an inline file: the path led to its inode number, and its inode's to the inode
module _ (image path : List ℕ) (index : ℕ) (lent : Lent) (shape : call_in_shape image path lent ≡ true) (v : Volume) (opens : opened_image image ≡ Opened v)
    {ino : ℕ} {inode : List ℕ} {s t : Seen} (led : run (image_view image v) empty (path_walk (bounds_of v) path) ≡ ran (ok ino) s)
    (node : run (image_view image v) s (inode_walk (bounds_of v) ino) ≡ ran (ok inode) t)
    (regular : is_regular (inode_of inode) ≡ true) (own : has_inline_data (inode_of inode) ≡ true) where
  -- "An inline inode is listed with its block ..": its number, and the block that the table has for it
  pub inline_listed : Listed (image_view image v) s ino ino inode t
  inline_listed = node_listed (image_view image v) s (bounds_of v) ino ino 0 node

  -- ".. and no data block of its own": the lists are as they were when it was read
  pub inline_pulled : pulled image path index lent ≡ written (ran (inline_found inode index) t) lent
  unfolding pull_run pull_walk named_file_walk path_walk file_walk run
  inline_pulled =
      call_opens image path index lent (Opened v) shape opens
      ∙ write lent
      (run_then (image_view image v) empty (path_walk (bounds_of v) path) (file_walk (bounds_of v) index) led
      ∙ run_then (image_view image v) s (inode_walk (bounds_of v) ino) (at_file (bounds_of v) index ino) node
      ∙ ap (run (image_view image v) t) (inline_file (bounds_of v) index ino inode regular own))

  -- the whole file is its block 0
  pub inline_data : index ≡ 0 → 0 < (inode_of inode).size → let r = pulled image path index lent in let size = (inode_of inode).size in
      (r.numbers.answer ≡ 0) × (r.numbers.byte_count ≡ size)
      × (r.memory.block ≡ take size (drop inline_start inode) ++ replicate (4096 - size) 0)
  inline_data e h = rw (inline_pulled, eq-eqb index 0 e, lt-ltb 0 (inode_of inode).size h) (refl, refl, refl)

  -- and there is no other
  pub inline_past : (index ≡ 0 → (inode_of inode).size ≡ 0) → let r = pulled image path index lent in
      (r.numbers.answer ≡ 3) × (r.numbers.byte_count ≡ 0) × (r.memory.block ≡ lent.block)
  inline_past h = rw inline_pulled (go (eqb index 0) refl)
    where
      go : (a : Bool) → eqb index 0 ≡ a → let r = written (ran (choose (a && ltb 0 (inode_of inode).size) (inline_all inode) (stop 3)) t) lent in
          (r.numbers.answer ≡ 3) × (r.numbers.byte_count ≡ 0) × (r.memory.block ≡ lent.block)
      go true e = rw (le-ltb 0 (inode_of inode).size (let z = h (eqb-true index 0 e) in omega arith)) (refl, refl, refl)
      go false e = (refl, refl, refl)

  pub inline_answers : AllOrPast (pulled image path index lent).numbers (inode_of inode).size
  inline_answers = go (eqb index 0) refl (ltb 0 (inode_of inode).size) refl
    where
      go : (a : Bool) → eqb index 0 ≡ a → (b : Bool) → ltb 0 (inode_of inode).size ≡ b
          → AllOrPast (pulled image path index lent).numbers (inode_of inode).size
      go true e true f = let all = inline_data (eqb-true index 0 e) (ltb-true 0 _ f) in inl (all.0, all.1)
      go true e false f = let none = ltb-false 0 (inode_of inode).size f in let past = inline_past (λ _. omega arith) in inr (past.0, past.1)
      go false e b f = let past = inline_past (λ z. absurd (eqb-false index 0 e z)) in inr (past.0, past.1)
