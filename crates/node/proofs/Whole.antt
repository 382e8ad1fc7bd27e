-- On a card whose main area has whole blocks, a node that a walk comes to, and a data block, have 4,096 bytes.
use Prim.Native.Nat.{ℕ}
use mathlib.Core.Path.{◌≡◌}
use mathlib.Core.Bool.{true}
use mathlib.Core.List.{List, [], ◌∷◌}
use lib.ListN.{length}
use lib.Dec.{eqb}
use Rattle.place.specs.declared.Step.{Step}
use Rattle.place.specs.Place.{place_of}
use Rattle.place.specs.Way.{way_of}
use Rattle.nat.specs.Table.{TableAnswer, OutOfRange, Entry}
use Rattle.walk.specs.Walk.{View, ok}
use Rattle.walk.proofs.Comes.{Comes, comes_done, comes_stop, comes_look, comes_read, comes_if, comes_then}
use Rattle.node.specs.Node.{Bounds, in_main, belongs, at_block, at_entry, node_walk}
use Rattle.node.specs.Block.{Fetched, hole, held, is_hole, holding, data_walk, follow_walk, way_walk, block_walk}

abbrev pub WholeMain : View → Bounds → Type 0
WholeMain v m = (b : ℕ) → in_main m b ≡ true → length (v.block b) ≡ 4096

abbrev pub IsWhole : List ℕ → Type 0
IsWhole block = length block ≡ 4096

abbrev pub HeldWhole : Fetched → Type 0
HeldWhole hole = Unit {0}
HeldWhole (held block) = length block ≡ 4096

module _ (v : View) (m : Bounds) (whole : WholeMain v m) where
  in_block : (number ino place table_inode address : ℕ) → in_main m address ≡ true
      → Comes v IsWhole (at_block number ino place table_inode (v.block address))
  unfolding at_block
  in_block number ino place table_inode address inside =
      comes_if (belongs number ino place table_inode (v.block address)) (λ _. comes_done (ok (v.block address)) (whole address inside))
      (λ _. comes_stop 11)

  entry_whole : (number ino place : ℕ) (t : TableAnswer) → Comes v IsWhole (at_entry m number ino place t)
  unfolding at_entry
  entry_whole number ino place OutOfRange = comes_stop 9
  entry_whole number ino place (Entry table_inode address) =
      comes_if (eqb address 0) (λ _. comes_stop 9)
      (λ _. comes_if (in_main m address) (λ i. comes_read address _ (in_block number ino place table_inode address i)) (λ _. comes_stop 10))

  pub node_whole : (number ino place : ℕ) → Comes v IsWhole (node_walk m number ino place)
  unfolding node_walk
  node_whole number ino place = comes_look number (at_entry m number ino place) (entry_whole number ino place (v.table number))

  data_whole : (address : ℕ) → Comes v HeldWhole (data_walk m address)
  unfolding data_walk
  data_whole address =
      comes_if (is_hole address) (λ _. comes_done (ok hole) tt)
      (λ _.
      comes_if (in_main m address) (λ i. comes_read address holding (comes_done (ok (held (v.block address))) (whole address i)))
      (λ _. comes_stop 13))

  follow_whole : (ino : ℕ) (way : List Step) (number : ℕ) → Comes v HeldWhole (follow_walk m ino way number)
  unfolding follow_walk
  follow_whole ino [] number = data_whole number
  follow_whole ino (s ∷ way) number =
      comes_if (eqb number 0) (λ _. comes_done (ok hole) tt)
      (λ _. comes_then _ (node_whole number ino s.number) (λ block _. follow_whole ino way _))

  way_whole : (ino : ℕ) (inode : List ℕ) (way : List Step) → Comes v HeldWhole (way_walk m ino inode way)
  unfolding way_walk
  way_whole ino inode [] = comes_done (ok hole) tt
  way_whole ino inode (s ∷ []) = data_whole _
  way_whole ino inode (s ∷ t ∷ way) = follow_whole ino (t ∷ way) _

  pub block_whole : (ino : ℕ) (inode : List ℕ) (A index : ℕ) → Comes v HeldWhole (block_walk m ino inode A index)
  unfolding block_walk
  block_whole ino inode A index = way_whole ino inode (way_of (place_of A index))
