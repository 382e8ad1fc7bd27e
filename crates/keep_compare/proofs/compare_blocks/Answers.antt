-- What is kept of a listed block is what stands behind its number.
use mathlib.Core.Path.{◌≡◌, sym, ap, ◌∙◌}
use mathlib.Core.List.{List}
use Prim.Native.Nat.{ℕ, ◌+◌, ◌<◌}
use Rattle.std.proofs.Common.{rules}
use Rattle.field.specs.Card.{card_of}
use Rattle.list.specs.Lists.{AllOf}
use Rattle.compare.specs.declared.Difference.TheVariants.{BlockDiffers}
use Rattle.compare.specs.Column.{numbers_in, place_of, number_at}
use Rattle.compare.specs.Difference.{same_bytes, blocks_differ}
use Rattle.compare.proofs.Turns.{all_at, searched_then}
use Rattle.compare.proofs.Differences.{differs}
use Rattle.keep_file.specs.Keep.{kept_block}
use Rattle.keep_file.specs.Reading.{bytes_at, keep_in}
use Rattle.keep_file.proofs.ByNumbers.{blocks_told}
use Rattle.keep_compare.proofs.Reading.{entry_inside, blocks_found}
use Rattle.keep_compare.proofs.compare_blocks.Goals as goal

pub all_pass-requires : goal.all_pass-requires
all_pass-requires c =
    λ i h.
    let stands = c.blocks-blocks.ensures in
    let l = c.blocks-blocks.result in
    let all : AllOf (λ b. b < (card_of c.args.fresh.now).blocks) (numbers_in l) = rw (blocks_told c.args.kept.parts.bytes.now stands) c.requires in
    let k = entry_inside stands i h in
    let b : number_at l i < (card_of c.args.fresh.now).blocks = all_at _ l.width l.bytes.now l.start l.count all i h in
    search (rules, k, b)

pub returns : goal.returns
unfolding blocks_differ
returns c =
    let file = c.args.kept.parts.bytes.now in
    let blocks = c.blocks-blocks.result in
    let block = (card_of c.args.fresh.now).block in
    let told : c.map_err.result ≡ differs BlockDiffers c.all_pass.result = search rules in
    let test =
    c.all_pass.ensures (λ b. same_bytes (kept_block (keep_in file).blocks b) (block b)) (λ i h r p.
    let says : r ≡ same_bytes (bytes_at file (place_of blocks i + 4)) (block (number_at blocks i)) = search rules in
    let kept = blocks_found file c.args.kept.readable c.blocks-blocks.ensures i h in
    says ∙ ap (λ (l : List ℕ). same_bytes l (block (number_at blocks i))) (sym kept))
    in
    rw (told, test, blocks_told file c.blocks-blocks.ensures) (searched_then (differs BlockDiffers) _ _ _ _)
