-- What a walk over a card means: a tree that asks two kinds of questions, what the node address table says of a node number, and
-- which bytes a block holds. Run on a card, it gives a value and the two lists of what it asked.
use Rattle.std.specs.Prelude.{ℕ, suc, ◌*◌, ◌≤◌, ◌≡◌, ◌⊎◌, Bool, true, ◌&&◌, ◌||◌, eqb, leb, List, [], length}
use Rattle.field.specs.Card.{Card, card_of}
use Rattle.checkpoint.specs.declared.Volume.{Volume}
use Rattle.nat.specs.Table.{TableAnswer, table_answer}
use Rattle.list.specs.Lists.{insert, union, Rising, numbers, Grown}

-- ---- the tree and its run

-- a card as a walk sees it
pub record View : Type 0 where
  pub table : ℕ → TableAnswer
  pub block : ℕ → List ℕ

abbrev pub view_of : Card → Volume → View
view_of card v = record { table = table_answer card v; block = card.block }

-- and an image
abbrev pub image_view : List ℕ → Volume → View
image_view image v = view_of (card_of image) v

-- the node numbers looked up and the blocks read so far
pub record Seen : Type 0 where
  pub nodes : List ℕ
  pub blocks : List ℕ

abbrev pub empty : Seen
empty = record { nodes = []; blocks = [] }

abbrev pub saw_node : ℕ → Seen → Seen
saw_node n s = record { nodes = insert n s.nodes; blocks = s.blocks }

abbrev pub saw_block : ℕ → Seen → Seen
saw_block b s = record { nodes = s.nodes; blocks = insert b s.blocks }

-- what one walk saw and what another did
abbrev pub union_seen : Seen → Seen → Seen
union_seen s t = record { nodes = union s.nodes t.nodes; blocks = union s.blocks t.blocks }

pub data Walk (A : Type 0) : Type 0 where
  done : A → Walk A
  look : ℕ → (TableAnswer → Walk A) → Walk A
  read : ℕ → (List ℕ → Walk A) → Walk A

-- what a walk comes to: its value and all that it has seen
pub record Ran (A : Type 0) : Type 0 where
  pub value : A
  pub seen : Seen

abbrev pub ran : {A : Type 0} → A → Seen → Ran A
ran x s = record { value = x; seen = s }

unfoldable pub run : {A : Type 0} → View → Seen → Walk A → Ran A
run v s (done a) = ran a s
run v s (look n k) = run v (saw_node n s) (k (v.table n))
run v s (read b k) = run v (saw_block b s) (k (v.block b))

-- a walk, and with its value a second one
unfoldable pub bind : {A B : Type 0} → Walk A → (A → Walk B) → Walk B
bind (done a) f = f a
bind (look n k) f = look n (λ t. bind (k t) f)
bind (read b k) f = read b (λ l. bind (k l) f)

-- ---- what was asked, and how much

-- the tree, run on this card, looked the number up
unfoldable pub AsksNode : {A : Type 0} → View → Walk A → ℕ → Type 0
AsksNode v (done a) n = ⊥
AsksNode v (look m k) n = (n ≡ m) ⊎ AsksNode v (k (v.table m)) n
AsksNode v (read b k) n = AsksNode v (k (v.block b)) n

-- the tree, run on this card, read the block
unfoldable pub AsksBlock : {A : Type 0} → View → Walk A → ℕ → Type 0
AsksBlock v (done a) b = ⊥
AsksBlock v (look m k) b = AsksBlock v (k (v.table m)) b
AsksBlock v (read c k) b = (b ≡ c) ⊎ AsksBlock v (k (v.block c)) b

-- What is so of a tree whatever the card holds: at most ns lookups and bs reads on every way through it, P of each block that it
-- reads, and Q of each value that it comes to.
pub data Within {A : Type 0} (P : ℕ → Type 0) (Q : A → Type 0) : ℕ → ℕ → Walk A → Type 0 where
  ends : {ns bs : ℕ} {a : A} → Q a → Within P Q ns bs (done a)
  looks : {ns bs : ℕ} {n : ℕ} {k : TableAnswer → Walk A} → ((t : TableAnswer) → Within P Q ns bs (k t)) → Within P Q (suc ns) bs (look n k)
  reads : {ns bs : ℕ} {b : ℕ} {k : List ℕ → Walk A} → P b → ((l : List ℕ) → Within P Q ns bs (k l)) → Within P Q ns (suc bs) (read b k)

-- ---- walks that an answer can end

-- a value, or the number of the answer that ends the walk
pub data Outcome (A : Type 0) : Type 0 where
  ok : A → Outcome A
  stop : ℕ → Outcome A

-- the answers that can end a walk: "stops at the first of 2, 3, 9 to 14 that it meets"
abbrev pub ending : ℕ → Bool
ending answer = (eqb answer 2 || eqb answer 3) || (leb 9 answer && leb answer 14)

-- Q of the value, or an answer that can end a walk
abbrev pub Ended : {A : Type 0} → (A → Type 0) → Outcome A → Type 0
Ended Q (ok a) = Q a
Ended Q (stop answer) = ending answer ≡ true

unfoldable pub onward : {A B : Type 0} → (A → Walk (Outcome B)) → Outcome A → Walk (Outcome B)
onward f (ok a) = f a
onward f (stop e) = done (stop e)

-- a walk, and unless it stopped a second one
unfoldable pub and_then : {A B : Type 0} → Walk (Outcome A) → (A → Walk (Outcome B)) → Walk (Outcome B)
and_then w f = bind w (onward f)

-- ---- walks over lent bytes

-- how many nodes and blocks are listed
pub record Counts : Type 0 where
  pub nodes : ℕ
  pub blocks : ℕ

-- two lent byte slices, and how many numbers at the front of each are listed
pub record Lists : Type 0 where
  pub nodes : List ℕ
  pub blocks : List ℕ
  pub counts : Counts

abbrev pub lists : List ℕ → List ℕ → Counts → Lists
lists nodes blocks counts = record { nodes = nodes; blocks = blocks; counts = counts }

abbrev pub listed : Lists → Seen
listed s = record { nodes = numbers s.nodes 0 s.counts.nodes; blocks = numbers s.blocks 0 s.counts.blocks }

-- nothing is listed yet
abbrev pub none : Counts
none = record { nodes = 0; blocks = 0 }

abbrev pub NodesGrown : Lists → Lists → Type 0
NodesGrown s t = Grown s.nodes s.counts.nodes t.nodes t.counts.nodes

abbrev pub BlocksGrown : Lists → Lists → Type 0
BlocksGrown s t = Grown s.blocks s.counts.blocks t.blocks t.counts.blocks

-- What a function that walks w comes to, over the slices s that it was lent: the value x, and the slices as t has them. The two
-- lists at their front are the run's; all behind them is untouched.
pub record Walked {A : Type 0} (v : View) (w : Walk A) (s : Lists) (x : A) (t : Lists) : Type 0 where
  pub came : run v (listed s) w ≡ ran x (listed t)
  pub nodes_grown : NodesGrown s t
  pub blocks_grown : BlocksGrown s t

abbrev pub BothRise : Seen → Type 0
BothRise s = Rising s.nodes × Rising s.blocks

-- What a function that walks w needs of the slices s that it is lent: both lists rise, and as w leaves them they fit.
pub record Fits {A : Type 0} (v : View) (w : Walk A) (s : Lists) : Type 0 where
  pub rising : BothRise (listed s)
  pub for_nodes : 4 * length (run v (listed s) w).seen.nodes ≤ length s.nodes
  pub for_blocks : 4 * length (run v (listed s) w).seen.blocks ≤ length s.blocks
