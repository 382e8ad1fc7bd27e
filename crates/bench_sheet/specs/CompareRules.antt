-- Document 01's rules of Compare, on both sides of each boundary: which lists it takes, and what it tells.
use Rattle.std.specs.Prelude.{refl, List, [], ◌∷◌, ◌++◌, ℕ, eqb}
use mathlib.Core.List as List
use Rattle.field.specs.Number.{le16, le32}
use Rattle.field.specs.Choice.{choose}
use Rattle.list.specs.Lists.{numbers, bytes_of, listing}
use Rattle.list.specs.Search.{searched}
use Rattle.nat.specs.Table.{TableAnswer, OutOfRange, Entry}
use Rattle.walk.specs.Walk.{View}
use Rattle.node.specs.Node.{Bounds, in_main}
use Rattle.compare.specs.declared.Compared.{Compared}
use Rattle.compare.specs.Lists.{rising_after, is_rising, lists_in_shape}
use Rattle.compare.specs.Difference.{same_bytes, blocks_differ, nodes_differ, difference}
use Rattle.compare.specs.Compare.{verdict}
use Rattle.bench_sheet.specs.Line.{Line, ◌is◌, Holds, yes}

abbrev main : Bounds
main = record { start = 4096; end = 25600 }

-- ---- the lists: node numbers and blocks as bytes, each with a count
abbrev takes : List ℕ → ℕ → List ℕ → ℕ → ℕ
takes nodes n blocks b = yes (lists_in_shape main (listing (bytes_of nodes) n) (listing (bytes_of blocks) b))

abbrev takes_block : ℕ → ℕ
takes_block b = takes (3 ∷ []) 1 (b ∷ []) 1

abbrev takes_rest : ℕ → ℕ
takes_rest count = yes (lists_in_shape main (listing (bytes_of (3 ∷ [])) 1) (listing (bytes_of (4096 ∷ []) ++ (1 ∷ 16 ∷ 0 ∷ [])) count))

-- ---- two cards: the tables differ at 5 and 7, blocks 4,100 and 4,200 in their last byte
abbrev kept : View
kept = record { table = λ n. Entry n 1; block = λ b. 1 ∷ 2 ∷ [] }

abbrev fresh : View
fresh = record {
  table = λ n. choose (eqb n 5) (Entry 5 2) (choose (eqb n 7) OutOfRange (Entry n 1));
  block = λ b. 1 ∷ choose (eqb b 4100) 3 (choose (eqb b 4200) 4 2) ∷ [];
}

abbrev crossed : Compared → List ℕ
crossed c = c.answer ∷ c.side ∷ c.kind ∷ c.number ∷ []

abbrev told : Bounds → List ℕ → List ℕ → List ℕ
told m nodes blocks = crossed (verdict (difference main m kept fresh nodes blocks))

abbrev list_rules : List Line
list_rules =
    -- "4 if the node list is empty": by its count
    ((takes [] 0 [] 0 ∷ takes (3 ∷ []) 0 [] 0 ∷ takes (3 ∷ []) 1 [] 0 ∷ []) is (0 ∷ 0 ∷ 1 ∷ []))
    -- "either list isn't strictly rising"
    ∷ ((takes (3 ∷ 4 ∷ []) 2 [] 0 ∷ takes (3 ∷ 3 ∷ []) 2 [] 0 ∷ takes (4 ∷ 3 ∷ []) 2 [] 0 ∷ []) is (1 ∷ 0 ∷ 0 ∷ []))
    ∷ ((takes (3 ∷ []) 1 (4096 ∷ 4097 ∷ []) 2 ∷ takes (3 ∷ []) 1 (4096 ∷ 4096 ∷ []) 2 ∷ []) is (1 ∷ 0 ∷ []))
    -- only the entries up to the count are looked at
    ∷ ((takes (4 ∷ 3 ∷ []) 1 [] 0 ∷ takes (3 ∷ []) 1 (4096 ∷ 1 ∷ []) 1 ∷ []) is (1 ∷ 1 ∷ []))
    -- "a count exceeds its slice"; "a remainder isn't used": three bytes behind the last number would be 4, or 4,097, so that only the
    -- count is at fault
    ∷ ((yes (lists_in_shape main (listing (bytes_of (3 ∷ []) ++ (4 ∷ 0 ∷ 0 ∷ [])) 2) (listing [] 0)) ∷ []) is (0 ∷ []))
    ∷ ((takes_rest 1 ∷ takes_rest 2 ∷ []) is (1 ∷ 0 ∷ []))
    -- "a listed block lies outside the kept main area"
    ∷ (List.map takes_block (4095 ∷ 4096 ∷ 25599 ∷ 25600 ∷ []) is (0 ∷ 1 ∷ 1 ∷ 0 ∷ []))
    ∷ []

abbrev difference_rules : List Line
difference_rules =
    -- "else 15, same"
    (told main (3 ∷ 4 ∷ []) (4096 ∷ 4101 ∷ []) is (15 ∷ 0 ∷ 0 ∷ 0 ∷ []))
    -- "1 main area bounds (number 0)": either of them, before all else
    ∷ (told (record { start = 4097; end = 25600 }) (3 ∷ 5 ∷ []) (4100 ∷ []) is (16 ∷ 0 ∷ 1 ∷ 0 ∷ []))
    ∷ (told (record { start = 4096; end = 25601 }) (3 ∷ []) [] is (16 ∷ 0 ∷ 1 ∷ 0 ∷ []))
    -- "2 lowest node number (table answer)", before the blocks; 9 against an entry differs
    ∷ (told main (3 ∷ 5 ∷ 7 ∷ []) (4100 ∷ []) is (16 ∷ 0 ∷ 2 ∷ 5 ∷ []))
    ∷ (told main (3 ∷ 7 ∷ []) [] is (16 ∷ 0 ∷ 2 ∷ 7 ∷ []))
    -- "3 lowest block (bytes)"
    ∷ (told main (3 ∷ []) (4096 ∷ 4100 ∷ 4200 ∷ []) is (16 ∷ 0 ∷ 3 ∷ 4100 ∷ []))
    ∷ (told main (3 ∷ []) (4200 ∷ []) is (16 ∷ 0 ∷ 3 ∷ 4200 ∷ []))
    ∷ []

pub list_rules_lem : Holds list_rules
unfolding le16 le32 numbers bytes_of searched in_main rising_after is_rising lists_in_shape
list_rules_lem = refl

pub difference_rules_lem : Holds difference_rules
unfolding searched same_bytes blocks_differ nodes_differ difference
difference_rules_lem = refl
