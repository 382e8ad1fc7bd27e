-- The hash levels of a directory: their sizes, where they start, and that those from 29 on lie past the last index.
use Prim.Native.Nat.{ℕ, zero, suc, ◌+◌, ◌-◌, ◌*◌, ◌%◌, ◌^◌, ◌≤◌, ◌<◌}
use native.Mathlib.Omega.{arith}
use native.Mathlib.Nat.{mul-le-mul, mod-lt, zero-add, le_refl, pow-suc}
use native.Mathlib.Numerals.{add-one}
use mathlib.Core.Path.{◌≡◌, refl, sym, ap, ◌∙◌}
use mathlib.Core.Bool.{Bool, true, false}
use mathlib.Core.Logic.{◌⊎◌, inl, inr, ⊎_elim}
use lib.Dec.{ltb}
use lib.Pow.{pow_pos, pow_mono}
use borrow.Author.Tests.{lt-ltb, le-ltb, ltb-true, ltb-false}
use Rattle.field.specs.Choice.{choose}
use Rattle.field.proofs.Choosing.{either}
use Rattle.place.specs.Place.{last_index}
use Rattle.hash_level.specs.Level.{buckets_of, blocks_of, first_of, bucket_of}

-- ---- the rules, on each side of 31
module _ (level : ℕ) where
  pub blocks_low : level < 31 → blocks_of level ≡ 2
  blocks_low h = ap (λ (low : Bool). choose low 2 4) (lt-ltb level 31 h)

  pub blocks_high : 31 ≤ level → blocks_of level ≡ 4
  blocks_high h = ap (λ (low : Bool). choose low 2 4) (le-ltb level 31 h)

  pub blocks_few : blocks_of level ≤ 4
  blocks_few = go (ltb level 31)
    where
      go : (low : Bool) → choose low 2 4 ≤ 4
      go true = omega arith
      go false = omega arith

module _ (sum : ℕ) where
  pub buckets_low : sum < 31 → buckets_of sum ≡ 2 ^ sum
  buckets_low h = ap (λ (low : Bool). choose low (2 ^ sum) (2 ^ 30)) (lt-ltb sum 31 h)

  pub buckets_high : 31 ≤ sum → buckets_of sum ≡ 2 ^ 30
  buckets_high h = ap (λ (low : Bool). choose low (2 ^ sum) (2 ^ 30)) (le-ltb sum 31 h)

  buckets_some : (0 < buckets_of sum) × (buckets_of sum ≤ 2 ^ 30)
  buckets_some = go (ltb sum 31) refl
    where
      go : (low : Bool) → ltb sum 31 ≡ low → (0 < choose low (2 ^ sum) (2 ^ 30)) × (choose low (2 ^ sum) (2 ^ 30) ≤ 2 ^ 30)
      go true e =
          let h : sum < 31 = ltb-true sum 31 e in
          let g : sum ≤ 30 = omega arith in
          (pow_pos sum, pow_mono g)
      go false e = omega arith

-- ---- one level
module _ (dir level : ℕ) where
  level_size : buckets_of (level + dir) * blocks_of level ≤ 4294967296
  level_size = mul-le-mul (buckets_some (level + dir)).1 (blocks_few level)

  bucket_start : (hash : ℕ) → hash % buckets_of (level + dir) * blocks_of level ≤ 4294967296
  bucket_start hash =
      let p = mod-lt hash (buckets_some (level + dir)).0 in
      let q = (buckets_some (level + dir)).1 in
      let r : hash % buckets_of (level + dir) ≤ 2 ^ 30 = omega arith in
      mul-le-mul r (blocks_few level)

  pub first_next : first_of dir (level + 1) ≡ first_of dir level + buckets_of (level + dir) * blocks_of level
  unfolding first_of
  first_next = rw (add-one level)

-- ---- where levels start
first_most : (dir level : ℕ) → first_of dir level ≤ level * 4294967296
unfolding first_of
first_most dir zero = omega arith
first_most dir (suc level) =
    let h = first_most dir level in
    let g = level_size dir level in
    omega arith

-- up to the cap, a closed form: a level starts at 2^(dir + 1) * (2^level - 1)
pub first_closed : (dir level : ℕ) → level + dir ≤ 31 → first_of dir level + 2 ^ (dir + 1) ≡ 2 ^ (level + dir + 1)
unfolding first_of
first_closed dir zero h = zero-add (2 ^ (dir + 1)) ∙ ap (λ (n : ℕ). 2 ^ (n + 1)) (sym (zero-add dir))
first_closed dir (suc level) h =
    let before = first_closed dir level (omega arith) in
    let buckets = buckets_low (level + dir) (omega arith) in
    let blocks = blocks_low level (omega arith) in
    let once = ap (λ (n : ℕ). 2 ^ n) (add-one (level + dir)) ∙ pow-suc 2 (level + dir) in
    let e : suc level + dir + 1 ≡ suc (level + dir + 1) = omega arith in
    let twice = ap (λ (n : ℕ). 2 ^ n) e ∙ pow-suc 2 (level + dir + 1) in
    rw (buckets, blocks, twice) (omega arith)

-- ---- the code's sums fit 64 bits
pub level_fits : {first buckets count : ℕ} (dir level hash : ℕ) → level < 63 → first ≡ first_of dir level → buckets ≡ buckets_of (level + dir)
    → count ≡ blocks_of level → (0 < buckets) × (hash % buckets * count ≤ 4294967296) × (first < 2 ^ 39)
level_fits dir level hash h e p q =
    let f = first_most dir level in
    (rw p (buckets_some (level + dir)).0, rw (p, q) (bucket_start dir level hash), omega arith)

pub bucket_small : (dir level hash : ℕ) → level < 63 → bucket_of dir level hash < 2 ^ 40
unfolding bucket_of
bucket_small dir level hash h =
    let f = first_most dir level in
    let g = bucket_start dir level hash in
    omega arith

-- ---- a higher directory level never has fewer buckets, so its levels start no earlier
buckets_grow : {sum more : ℕ} → sum ≤ more → buckets_of sum ≤ buckets_of more
buckets_grow {sum} {more} h = ⊎_elim (λ e. low (ltb-true more 31 e)) (λ e. high (ltb-false more 31 e)) (either (ltb more 31))
  where
    low : more < 31 → buckets_of sum ≤ buckets_of more
    low l =
        let p : sum < 31 = omega arith in
        rw (buckets_low sum p, buckets_low more l) (pow_mono h)

    high : 31 ≤ more → buckets_of sum ≤ buckets_of more
    high l = rw (buckets_high more l) (buckets_some sum).1

first_grows : (dir level : ℕ) → first_of 0 level ≤ first_of dir level
unfolding first_of
first_grows dir zero = omega arith
first_grows dir (suc level) =
    let h = first_grows dir level in
    let p : level + 0 ≤ level + dir = omega arith in
    let g = mul-le-mul (buckets_grow p) (le_refl (blocks_of level)) in
    omega arith

-- ---- levels from 29 on lie past the last index
pub early_or_late : (level : ℕ) → (level < 29) ⊎ (29 ≤ level)
early_or_late level = ⊎_elim (λ e. inl (ltb-true level 29 e)) (λ e. inr (ltb-false level 29 e)) (either (ltb level 29))

first_29 : first_of 0 29 ≡ 1073741822
unfolding first_of
first_29 = refl

first_late : (more : ℕ) → 1073741822 ≤ first_of 0 (29 + more)
first_late zero = rw first_29 (omega arith)
first_late (suc more) =
    let e : 29 + suc more ≡ 29 + more + 1 = omega arith in
    let h = first_late more in
    rw (e, first_next 0 (29 + more)) (omega arith)

pub bucket_past : {A : ℕ} (dir level hash : ℕ) → A ≤ 923 → 29 ≤ level → last_index A < bucket_of dir level hash
unfolding bucket_of
bucket_past dir level hash few late =
    let e : 29 + (level - 29) ≡ level = omega arith in
    let f : 1073741822 ≤ first_of 0 level = rw e at (first_late (level - 29)) in
    let g = first_grows dir level in
    omega arith
