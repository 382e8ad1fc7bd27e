-- Demand 3, whole. "Take any image, name and block index whose pull got past opening, and any second image that opens. The comparison
-- is given the first image as the kept one, the second as the new one, and the lists and counts as that pull left them." K7: "Demand 3
-- covers paths": where the demand has a name, a path stands.
use Prim.Native.Nat.{ℕ}
use mathlib.Core.Path.{◌≡◌, refl, ap, subst, ◌∙◌}
use mathlib.Core.Bool.{true}
use mathlib.Core.List.{List}
use mathlib.Core.Logic.{◌↔◌}
use Rattle.std.proofs.Common.{Ok, Err}
use Rattle.field.specs.Card.{card_of}
use Rattle.checkpoint.specs.declared.Volume.{Volume}
use Rattle.checkpoint.specs.Volume.{Opened, opened_image}
use Rattle.checkpoint.proofs.Inside.{image_shaped}
use Rattle.nat.specs.Table.{table_answer}
use Rattle.list.specs.Lists.{AllOf, entries}
use Rattle.walk.specs.Walk.{view_of, Ran, Outcome}
use Rattle.node.specs.Node.{bounds_of}
use Rattle.path.specs.Path.{part_count}
use Rattle.pull.specs.Walk.{Block}
use Rattle.pull.specs.Pull.{Lent, lent_in_shape, written, pull_run, pulled, nodes_left, blocks_left}
use Rattle.pull.proofs.Results.{path_in_shape, call_in_shape_lem, call_opens}
use Rattle.pull.proofs.Theorems.{run_ended}
use Rattle.compare.specs.declared.Difference.TheVariants.{BoundsDiffer, NodeDiffers, BlockDiffers}
use Rattle.compare.specs.Difference.{Told, difference}
use Rattle.compare.specs.Compare.{answered, verdict}
use Rattle.list.proofs.Searching.{FirstNot}
use Rattle.compare.proofs.Differences.{SameTable, SameBlock, difference_bounds, difference_node, difference_block}
use Rattle.pull_again.specs.Demand.{PastOpening, said, SameOn, SamePull}
use Rattle.pull_again.proofs.Steps.{Came, past_came, lists_fit, nodes_of_run, blocks_of_run, same_run, same_written, exactly_same}
use Rattle.pull_again.proofs.Steps.{else_changed, told_same, some_past, all_same}
use Rattle.pull_again.proofs.Steps as steps

module _ (kept path : List ℕ) (index : ℕ) (lent : Lent) (past : PastOpening (pulled kept path index lent))
    (fresh : List ℕ) (u : Volume) (fresh_opens : opened_image fresh ≡ Opened u) where
  abbrev came : Came kept path index lent
  came = past_came kept path index lent past

  -- the kept card opened, since the pull got past opening, to this volume
  abbrev v : Volume
  v = came.v

  pub kept_opened : opened_image kept ≡ Opened v
  kept_opened = came.opens

  -- the entries of the two lists as the pull left them
  abbrev nodes : List ℕ
  nodes = entries (nodes_left (pulled kept path index lent))

  abbrev blocks : List ℕ
  blocks = entries (blocks_left (pulled kept path index lent))

  -- the first difference between the two cards, on those lists
  abbrev first : Told
  first = difference (bounds_of v) (bounds_of u) (view_of (card_of kept) v) (view_of (card_of fresh) u) nodes blocks

  -- Compare takes the lists and says what the first difference is
  says : said kept fresh (pulled kept path index lent) ≡ verdict first
  says = steps.says kept v fresh u _ _ kept_opened fresh_opens (lists_fit kept path index lent came)

  -- "It says "same" exactly if both images have the same main area bounds, each listed node number has the same table answer in both,
  -- and each listed block the same 4,096 bytes in both."
  pub same_exactly_if : ((said kept fresh (pulled kept path index lent)).answer ≡ 15) ↔ SameOn kept v fresh u nodes blocks
  same_exactly_if = exactly_same kept v fresh u _ _ kept_opened fresh_opens (lists_fit kept path index lent came)

  -- "Otherwise it says "changed"."
  pub otherwise_changed : (SameOn kept v fresh u nodes blocks → ⊥) → (said kept fresh (pulled kept path index lent)).answer ≡ 16
  otherwise_changed = else_changed kept v fresh u _ _ kept_opened fresh_opens (lists_fit kept path index lent came)

  -- .. "with kind and number of the first difference: 1 main area bounds (number 0), 2 lowest node number
  -- (table answer), 3 lowest block (bytes)". FirstNot P l x: x is in l, P fails of it and holds of all before it.
  pub data Says : Type 0 where
    same : said kept fresh (pulled kept path index lent) ≡ answered 15 0 0 0 → Says
    other_bounds : said kept fresh (pulled kept path index lent) ≡ answered 16 0 1 0 → (bounds_of v ≡ bounds_of u → ⊥) → Says
    other_node : (n : ℕ) → said kept fresh (pulled kept path index lent) ≡ answered 16 0 2 n → bounds_of v ≡ bounds_of u
        → FirstNot (SameTable (view_of (card_of kept) v) (view_of (card_of fresh) u)) nodes n → Says
    other_block : (b : ℕ) → said kept fresh (pulled kept path index lent) ≡ answered 16 0 3 b → bounds_of v ≡ bounds_of u
        → AllOf (SameTable (view_of (card_of kept) v) (view_of (card_of fresh) u)) nodes
        → FirstNot (SameBlock (view_of (card_of kept) v) (view_of (card_of fresh) u)) blocks b → Says

  pub first_difference : Says
  first_difference = go first refl
    where
      go : (d : Told) → first ≡ d → Says
      go (Ok none) e = same (says ∙ ap verdict e)
      go (Err BoundsDiffer) e = other_bounds (says ∙ ap verdict e) (difference_bounds _ _ _ _ _ _ e)
      go (Err (NodeDiffers n)) e = let f = difference_node _ _ _ _ _ _ n e in other_node n (says ∙ ap verdict e) f.0 f.1
      go (Err (BlockDiffers b)) e = let f = difference_block _ _ _ _ _ _ b e in other_block b (says ∙ ap verdict e) f.0 f.1 f.2

  -- "Whenever it says "same", the pull of the same name and block index on the second image gives the same answer, byte count, block
  -- bytes and lists." The second pull "may be lent other memory, of any lengths that Pull takes".
  pub then_same_pull : (lent' : Lent) → lent_in_shape (part_count path) lent' ≡ true → (said kept fresh (pulled kept path index lent)).answer ≡ 15
      → SamePull (pulled kept path index lent) (pulled fresh path index lent')
  then_same_pull lent' takes e =
      let runs : Ran (Outcome Block) = pull_run (card_of kept) v path index in
      let on : SameOn kept v fresh u nodes blocks = same_exactly_if.0 e in
      let listed : SameOn kept v fresh u runs.seen.nodes runs.seen.blocks =
      record {
        bounds = on.bounds;
        tables = subst (AllOf _) (nodes_of_run came) on.tables;
        bytes = subst (AllOf _) (blocks_of_run came) on.bytes;
      } in
      let same_runs = same_run kept v fresh u path index listed in
      let shape = call_in_shape_lem fresh path index lent' (image_shaped fresh u fresh_opens) (path_in_shape kept path index lent came.shape) takes in
      let second = call_opens fresh path index lent' (Opened u) shape fresh_opens ∙ ap (λ (r : Ran (Outcome Block)). written r lent') same_runs in
      rw (came.wrote, second) (same_written runs lent lent' (run_ended (card_of kept) v path index))

-- "Whenever it says "same"", with nothing else asked: what it says is enough.
pub whenever_same : (kept fresh path : List ℕ) (index : ℕ) (lent lent' : Lent) → lent_in_shape (part_count path) lent' ≡ true
    → (said kept fresh (pulled kept path index lent)).answer ≡ 15 → SamePull (pulled kept path index lent) (pulled fresh path index lent')
whenever_same kept fresh path index lent lent' takes e =
    let o = told_same kept fresh _ _ e in
    then_same_pull kept path index lent (some_past kept path index lent o.some) fresh o.u o.fresh_opens lent' takes e

-- Compared with itself, an image is "same".
pub same_itself : (image path : List ℕ) (index : ℕ) (lent : Lent) → PastOpening (pulled image path index lent)
    → (said image image (pulled image path index lent)).answer ≡ 15
same_itself image path index lent past =
    (same_exactly_if image path index lent past image came.v came.opens).1
    (record {
      bounds = refl;
      tables = all_same _ (table_answer (card_of image) came.v) (entries (nodes_left (pulled image path index lent)));
      bytes = all_same _ (card_of image).block (entries (blocks_left (pulled image path index lent)));
    })
  where
    came : Came image path index lent
    came = past_came image path index lent past
