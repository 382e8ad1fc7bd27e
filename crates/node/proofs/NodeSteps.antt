-- The steps of the walk to a node, as code takes them: the number was listed and looked up, then the block of its entry was listed and
-- read. What is left at each step, and what the walk comes to where it ends.
use Prim.Native.Nat.{ℕ}
use mathlib.Core.Path.{◌≡◌, sym, ap, ◌∙◌}
use mathlib.Core.Bool.{true, false}
use mathlib.Core.List.{List}
use Rattle.list.specs.Lists.{Holds, HasInserted}
use Rattle.nat.specs.Table.{TableAnswer, OutOfRange, Entry}
use Rattle.walk.specs.Walk.{View, done, look, read, ok, stop, Lists, lists, Walked, Fits}
use Rattle.walk.proofs.Reached.{Reached, reached_start, reached_to, reached_look, reached_read, reached_done}
use Rattle.walk.proofs.Fits.{fits_look, fits_read, fits_at}
use Rattle.node.specs.Node.{Bounds, in_main, belongs, at_block, at_entry, node_walk}
use Rattle.node.proofs.Cases.{node_look, entry_range, entry_zero, entry_outside, entry_inside, block_own, block_foreign}

-- the lists with another list of nodes, and with other lists
abbrev pub nodes_put : Lists → List ℕ → ℕ → Lists
nodes_put s nodes n = lists nodes s.blocks (record { nodes = n; blocks = s.counts.blocks })

abbrev pub both_put : List ℕ → ℕ → List ℕ → ℕ → Lists
both_put nodes n blocks b = lists nodes blocks (record { nodes = n; blocks = b })

module _ (m : Bounds) (number ino place : ℕ) {v : View} {s : Lists} where
  begins : Reached v (node_walk m number ino place) s (look number (at_entry m number ino place)) s
  begins = reached_to (reached_start _ _ _) (node_look m number ino place)

  pub number_fits : Fits v (node_walk m number ino place) s → Holds number s.nodes s.counts.nodes
  number_fits fits = fits_look (fits_at fits begins)

  -- the number was listed, and the table says this of it
  module _ {nodes : List ℕ} {n : ℕ} (put : HasInserted s.nodes s.counts.nodes number nodes n) {o : TableAnswer} (says : o ≡ v.table number) where
    at_answer : {p : TableAnswer} → o ≡ p → Reached v (node_walk m number ino place) s (at_entry m number ino place p) (nodes_put s nodes n)
    at_answer e = reached_to (reached_look begins put) (ap (at_entry m number ino place) (sym says ∙ e))

    pub no_entry : o ≡ OutOfRange → Walked v (node_walk m number ino place) s (stop 9) (nodes_put s nodes n)
    no_entry e = reached_done (reached_to (at_answer e) (entry_range m number ino place))

    module _ {inode address : ℕ} (is : o ≡ Entry inode address) where
      pub zero_address : address ≡ 0 → Walked v (node_walk m number ino place) s (stop 9) (nodes_put s nodes n)
      zero_address z = reached_done (reached_to (at_answer is) (entry_zero m number ino place inode address z))

      -- there is an address
      module _ (some : address ≡ 0 → ⊥) where
        pub outside_main : in_main m address ≡ false → Walked v (node_walk m number ino place) s (stop 10) (nodes_put s nodes n)
        outside_main out = reached_done (reached_to (at_answer is) (entry_outside m number ino place inode address some out))

        -- in the main area
        module _ (inside : in_main m address ≡ true) where
          to_read : Reached v (node_walk m number ino place) s (read address (at_block number ino place inode)) (nodes_put s nodes n)
          to_read = reached_to (at_answer is) (entry_inside m number ino place inode address some inside)

          pub block_fits : Fits v (node_walk m number ino place) s → Holds address s.blocks s.counts.blocks
          block_fits fits = fits_read (fits_at fits to_read)

          -- the block was listed, and has these bytes
          module _ {blocks : List ℕ} {b : ℕ} (put_block : HasInserted s.blocks s.counts.blocks address blocks b) {block : List ℕ}
              (bytes : block ≡ v.block address) where
            at_bytes : Reached v (node_walk m number ino place) s (at_block number ino place inode block) (both_put nodes n blocks b)
            at_bytes = reached_to (reached_read to_read put_block) (ap (at_block number ino place inode) (sym bytes))

            pub foreign_block : belongs number ino place inode block ≡ false
                → Walked v (node_walk m number ino place) s (stop 11) (both_put nodes n blocks b)
            foreign_block e = reached_done (reached_to at_bytes (block_foreign number ino place inode block e))

            pub own_block : belongs number ino place inode block ≡ true
                → Walked v (node_walk m number ino place) s (ok (v.block address)) (both_put nodes n blocks b)
            own_block e =
                reached_done (reached_to at_bytes (block_own number ino place inode block e ∙ ap (λ (l : List ℕ). done (ok l)) bytes))
