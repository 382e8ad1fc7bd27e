-- A node that was read is listed: its number, and the block that the table has for it.
use Prim.Native.Nat.{ℕ}
use native.Mathlib.Omega.{arith}
use mathlib.Core.Path.{◌≡◌, refl, ap, ◌∙◌}
use mathlib.Core.Bool.{Bool, true, false, and-false}
use mathlib.Core.List.{List}
use lib.Dec.{eqb}
use Rattle.field.specs.Choice.{choose}
use Rattle.field.proofs.Choosing.{needed_eq}
use Rattle.nat.specs.Table.{TableAnswer, OutOfRange, Entry}
use Rattle.walk.specs.Walk.{View, Seen, saw_node, saw_block, done, read, Ran, ran, run, Outcome, ok, stop}
use Rattle.node.specs.Node.{Bounds, in_main, belongs, at_block, at_entry, node_walk}

-- node `number` of file `ino` has these bytes, and is listed behind what was seen before
pub record Listed (v : View) (s : Seen) (number ino : ℕ) (block : List ℕ) (t : Seen) : Type 0 where
  pub address : ℕ
  pub entry : v.table number ≡ Entry ino address
  pub bytes : v.block address ≡ block
  pub seen : saw_block address (saw_node number s) ≡ t

-- a walk that was stopped came to no block
stopped : {block : List ℕ} {answer : ℕ} {s t : Seen} {A : Type 0} → ran (stop answer) s ≡ ran (ok block) t → A
stopped h =
    let value = ap (λ (r : Ran (Outcome (List ℕ))). r.value) h in
    let z : ◌≡◌ {A = ℕ} 0 1 = cc in
    absurd (omega arith)

belongs_to : (number ino place table_inode : ℕ) (bytes : List ℕ) → belongs number ino place table_inode bytes ≡ true → table_inode ≡ ino
unfolding belongs
belongs_to number ino place table_inode bytes h = needed_eq (λ e. rw (e, and-false)) h

module _ (v : View) (s : Seen) (m : Bounds) (number ino place : ℕ) {block : List ℕ} {t : Seen} where
  pub node_listed : run v s (node_walk m number ino place) ≡ ran (ok block) t → Listed v s number ino block t
  unfolding node_walk at_entry at_block run
  node_listed h = by_table (v.table number) refl h
    where
      by_bytes : (table_inode address : ℕ) → v.table number ≡ Entry table_inode address → (b : Bool)
          → belongs number ino place table_inode (v.block address) ≡ b
          → run v (saw_block address (saw_node number s)) (choose b (done (ok (v.block address))) (done (stop 11))) ≡ ran (ok block) t
          → Listed v s number ino block t
      by_bytes table_inode address e true f g =
          let value = ap (λ (r : Ran (Outcome (List ℕ))). r.value) g in
          record {
            address = address;
            entry = e ∙ ap (λ (i : ℕ). Entry i address) (belongs_to number ino place table_inode (v.block address) f);
            bytes = cc;
            seen = ap (λ (r : Ran (Outcome (List ℕ))). r.seen) g;
          }
      by_bytes table_inode address e false f g = stopped g

      by_place : (table_inode address : ℕ) → v.table number ≡ Entry table_inode address → (none inside : Bool)
          → run v (saw_node number s) (choose none (done (stop 9)) (choose inside (read address (at_block number ino place table_inode)) (done (stop 10))))
          ≡ ran (ok block) t → Listed v s number ino block t
      by_place table_inode address e true inside g = stopped g
      by_place table_inode address e false false g = stopped g
      by_place table_inode address e false true g =
          by_bytes table_inode address e (belongs number ino place table_inode (v.block address)) refl g

      by_table : (o : TableAnswer) → v.table number ≡ o → run v (saw_node number s) (at_entry m number ino place o) ≡ ran (ok block) t
          → Listed v s number ino block t
      by_table OutOfRange e g = stopped g
      by_table (Entry table_inode address) e g = by_place table_inode address e (eqb address 0) (in_main m address) g
