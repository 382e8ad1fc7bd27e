-- What is kept of an opened image: it is whole, so that reading gives it back, and how long its file is.
use Prim.Native.Nat.{ℕ, ◌≤◌}
use mathlib.Core.Path.{◌≡◌, refl, sym, ap₂, subst, ◌∙◌}
use mathlib.Core.Bool.{true}
use mathlib.Core.List.{List}
use lib.ListN.{length, length-replicate}
use Rattle.field.specs.Card.{Card, card_of}
use Rattle.field.proofs.Blocks.{length_block}
use Rattle.checkpoint.specs.declared.Volume.{Volume}
use Rattle.checkpoint.specs.Volume.{VolumeIn}
use Rattle.list.specs.Lists.{AllOf, Rising}
use Rattle.list.proofs.Rises.{all_map}
use Rattle.walk.specs.Walk.{view_of, Ran, Outcome, ok, stop}
use Rattle.node.specs.Node.{bounds_of, in_main}
use Rattle.node.specs.Block.{Fetched, hole, held}
use Rattle.node.proofs.Sizes.{in_card_lem}
use Rattle.pull.specs.Walk.{Block}
use Rattle.pull.specs.Pull.{content_answer, content_bytes, answer_of, buffer_after, pull_run}
use Rattle.pull.proofs.Theorems.{run_rises, run_inside, run_some}
use Rattle.pull.proofs.Whole.{buffer_length}
use Rattle.keep_file.specs.Keep.{numbers_of, Keep}
use Rattle.keep_file.specs.Layout.{file_end}
use Rattle.keep_file.specs.Readable.{Whole}
use Rattle.keep_file.proofs.Found.{numbers_by, length_by, all_by}
use Rattle.keep_file.proofs.Parts.{layout_length}
use Rattle.keep.specs.Writing.{zeros, keep_run, keep_of, file_from}

module _ (image : List ℕ) (v : Volume) (path : List ℕ) (index : ℕ) where
  abbrev runs : Ran (Outcome Block)
  runs = pull_run (card_of image) v path index

  abbrev keep : Keep
  keep = keep_of (card_of image) v path index

  pub kept_nodes : numbers_of keep.nodes ≡ runs.seen.nodes
  unfolding keep_run
  kept_nodes = numbers_by (view_of (card_of image) v).table runs.seen.nodes

  pub kept_blocks : numbers_of keep.blocks ≡ runs.seen.blocks
  unfolding keep_run
  kept_blocks = numbers_by (view_of (card_of image) v).block runs.seen.blocks

  pub kept_whole : VolumeIn (card_of image) v → Whole keep
  unfolding keep_run
  kept_whole known = record {
    filled = record {
      block = buffer_length image v known path index zeros (length-replicate {A = ℕ} 4096 0);
      blocks = all_by (λ k. length k.value ≡ 4096) (view_of (card_of image) v).block runs.seen.blocks
          (all_map (λ b i. length_block image b (in_card_lem b i known)) runs.seen.blocks (run_inside (card_of image) v path index));
    };
    some = subst (λ (n : ℕ). 1 ≤ n) (sym (length_by (view_of (card_of image) v).table runs.seen.nodes)) (run_some (card_of image) v path index);
    nodes_rise = subst Rising (sym kept_nodes) (run_rises (card_of image) v path index).0;
    blocks_rise = subst Rising (sym kept_blocks) (run_rises (card_of image) v path index).1;
    inside = subst (AllOf (λ b. in_main (bounds_of v) b ≡ true)) (sym kept_blocks) (run_inside (card_of image) v path index);
  }

  -- by the path's length and the number of nodes and of blocks that the pull lists
  pub keep_length : VolumeIn (card_of image) v
      → length (file_from (card_of image) v path index) ≡ file_end (length path) (length runs.seen.nodes) (length runs.seen.blocks)
  unfolding keep_run
  keep_length known =
      layout_length keep (kept_whole known).filled
      ∙ ap₂ (file_end (length path)) (length_by (view_of (card_of image) v).table runs.seen.nodes)
      (length_by (view_of (card_of image) v).block runs.seen.blocks)

-- "4,096 block bytes (zeros unless 0)"
outcome_zeros : (o : Outcome Block) → (answer_of o ≡ 0 → ⊥) → buffer_after o zeros ≡ zeros
outcome_zeros (ok b) n = content b.content n
  where
    content : (f : Fetched) → (content_answer f ≡ 0 → ⊥) → content_bytes b.count f ≡ zeros
    content hole n = refl
    content (held block) n = absurd (n refl)
outcome_zeros (stop answer) n = refl

pub zeros_unless_0 : (card : Card) (v : Volume) (path : List ℕ) (index : ℕ) → ((keep_of card v path index).answer ≡ 0 → ⊥)
    → (keep_of card v path index).block ≡ zeros
unfolding keep_run
zeros_unless_0 card v path index n = outcome_zeros (pull_run card v path index).value n
