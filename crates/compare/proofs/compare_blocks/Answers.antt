use mathlib.Core.Path.{◌≡◌}
use Rattle.std.proofs.Common.{rules}
use Rattle.field.specs.Card.{card_of}
use Rattle.compare.specs.declared.Difference.TheVariants.{BlockDiffers}
use Rattle.compare.specs.Difference.{same_bytes, blocks_differ}
use Rattle.compare.proofs.Turns.{all_at, searched_then}
use Rattle.compare.proofs.Differences.{differs}
use Rattle.compare.proofs.compare_blocks.Goals as goal

pub all_pass-requires : goal.all_pass-requires
all_pass-requires c = λ i h. let k = all_at _ _ _ _ _ c.requires i h in search (rules, k)

pub returns : goal.returns
unfolding blocks_differ
returns c =
    let a = c.args in
    let told : c.map_err.result ≡ differs BlockDiffers c.all_pass.result = search rules in
    let test = c.all_pass.ensures (λ b. same_bytes ((card_of a.kept.now).block b) ((card_of a.fresh.now).block b)) (λ i h r p. search rules) in
    rw (told, test) (searched_then (differs BlockDiffers) _ _ _ _)
