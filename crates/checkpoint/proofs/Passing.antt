-- A pack's first block passes, in the order in which the code tests; and what a pack that passes says of its total.
use Rattle.std.proofs.Common.{◌≡◌, ℕ, ◌≤◌, true, ◌&&◌, leb, List, ◌∙◌}
use mathlib.Core.Bool.{and_assoc, and_comm, and-false}
use Rattle.field.specs.Card.{Card}
use Rattle.field.proofs.Choosing.{needed, needed_le}
use Rattle.checkpoint.specs.Checkpoint.{checkpoint_of, header_of}
use Rattle.checkpoint.specs.Pack.{block_passes, first_passes, pack_passes}

-- the total, then the checksum
pub first_in_order : (first : List ℕ) → first_passes first
    ≡ leb 2 (checkpoint_of first).cp_pack_total_block_count && leb (checkpoint_of first).cp_pack_total_block_count 512
    && block_passes first
unfolding first_passes
first_in_order first =
    let total : ℕ = (checkpoint_of first).cp_pack_total_block_count in
    and_assoc (block_passes first) (leb 2 total) (leb total 512) ∙ and_comm (block_passes first) (leb 2 total && leb total 512)

pub first_total : (first : List ℕ) → first_passes first ≡ true
    → (2 ≤ (checkpoint_of first).cp_pack_total_block_count) × ((checkpoint_of first).cp_pack_total_block_count ≤ 512)
first_total first h = (needed_le (λ p. first_in_order first ∙ rw p) h, needed_le (λ p. first_in_order first ∙ rw (p, and-false)) h)

pub passing_total : (card : Card) (start : ℕ) → pack_passes card start ≡ true
    → (2 ≤ (header_of card start).cp_pack_total_block_count) × ((header_of card start).cp_pack_total_block_count ≤ 512)
unfolding pack_passes
passing_total card start h = first_total (card.block start) (needed (λ p. rw p) h)
