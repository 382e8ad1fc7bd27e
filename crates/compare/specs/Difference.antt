-- The first difference between two opened cards, on what the lists name: an error, and Ok where there is none.
use Rattle.std.specs.Prelude.{ℕ, ◌<◌, Bool, true, false, ◌&&◌, List, [], ◌∷◌, eqb, Result, Ok, Err}
use Rattle.field.specs.Card.{Card}
use Rattle.field.specs.Choice.{choose}
use Rattle.nat.specs.Table.{TableAnswer, OutOfRange, Entry}
use Rattle.walk.specs.Walk.{View}
use Rattle.node.specs.Node.{Bounds}
use Rattle.list.specs.Search.{searched}
use Rattle.compare.specs.declared.Difference.{Difference}
use Rattle.compare.specs.declared.Difference.TheVariants.{BoundsDiffer, NodeDiffers, BlockDiffers}

abbrev pub same_bounds : Bounds → Bounds → Bool
same_bounds m n = eqb m.start n.start && eqb m.end n.end

abbrev pub same_answer : TableAnswer → TableAnswer → Bool
same_answer OutOfRange OutOfRange = true
same_answer OutOfRange (Entry inode address) = false
same_answer (Entry inode address) OutOfRange = false
same_answer (Entry i a) (Entry j b) = eqb i j && eqb a b

unfoldable pub same_bytes : List ℕ → List ℕ → Bool
same_bytes [] [] = true
same_bytes [] (y ∷ ys) = false
same_bytes (x ∷ xs) [] = false
same_bytes (x ∷ xs) (y ∷ ys) = eqb x y && same_bytes xs ys

-- what a comparison comes to
abbrev pub Told : Type 0
Told = Result (Unit {0}) Difference

abbrev pub same : Told
same = Ok tt

-- "1 main area bounds (number 0)"
unfoldable pub bounds_differ : Bounds → Bounds → Told
bounds_differ m n = choose (same_bounds m n) same (Err BoundsDiffer)

-- "3 lowest block (bytes)", by what each side has in a block; the list rises, so that its first is the lowest
unfoldable pub blocks_differ : (ℕ → List ℕ) → (ℕ → List ℕ) → List ℕ → Told
blocks_differ kept fresh blocks = searched (λ b. same_bytes (kept b) (fresh b)) (λ b. Err (BlockDiffers b)) same blocks

-- "2 lowest node number (table answer)", by each side's table answers; where there is none, `other`
unfoldable pub nodes_differ : (ℕ → TableAnswer) → (ℕ → TableAnswer) → Told → List ℕ → Told
nodes_differ kept fresh other nodes = searched (λ n. same_answer (kept n) (fresh n)) (λ n. Err (NodeDiffers n)) other nodes

-- "1 main area bounds (number 0)", before the nodes, before the blocks. A side is its table answers and its blocks' bytes: nothing
-- asks for an image
unfoldable pub difference : Bounds → Bounds → View → View → List ℕ → List ℕ → Told
difference m n kept fresh nodes blocks =
    choose (same_bounds m n) (nodes_differ kept.table fresh.table (blocks_differ kept.block fresh.block blocks) nodes) (Err BoundsDiffer)

-- b is a block of both cards: one that a comparison may read
abbrev pub InBoth : Card → Card → ℕ → Type 0
InBoth kept fresh b = (b < kept.blocks) × (b < fresh.blocks)
