-- The checksum of the pack's block: its first 172 bytes bit by bit, and then 3,920 zeros by squaring. Bit by bit all the way is one
-- `refl` too, and takes some twenty seconds.
use mathlib.Core.Path.{◌≡◌, refl, ap, ap₂, ◌∙◌}
use Prim.Native.Nat.{ℕ}
use lib.Dec.{lit<}
use lib.ListN.{take, drop, replicate}
use Rattle.crc32.specs.Checksum.{start, crc_bit, crc_bits, crc_from, checksum_of}
use Rattle.crc32.proofs.Turns.{group_turn}
use Rattle.list.specs.Lists.{bytes_of}
use Rattle.sample_card.specs.Image.{filled, checksum, pack}
use Rattle.sample_card.proofs.ZeroRuns.{top, product, squared, from_zeros, by_product, by_squares}

-- what the first 172 bytes come to
abbrev head_sum : ℕ
head_sum = 3364409485

head_is : crc_from start (take 172 (take 4092 pack)) ≡ head_sum
unfolding pack filled bytes_of crc_bit crc_bits crc_from
head_is = refl

tail_is : drop 172 (take 4092 pack) ≡ replicate 3920 0
unfolding pack filled bytes_of
tail_is = refl

-- 3,920 bytes are 245 × 2 ^ 7 steps
tail_sum : product 32 (squared 7 (crc_bits 245 top)) head_sum ≡ checksum
unfolding crc_bit crc_bits product squared
tail_sum = refl

pub pack_sum : checksum_of (take 4092 pack) ≡ checksum
pack_sum =
    group_turn 172 start 0 (take 4092 pack)
    ∙ ap₂ crc_from head_is tail_is
    ∙ from_zeros 3920 head_sum
    ∙ by_product 31360 head_sum (lit< tt)
    ∙ ap (λ (t : ℕ). product 32 t head_sum) (by_squares 7 245)
    ∙ tail_sum
