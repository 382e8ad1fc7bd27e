-- The segments that are off and the ones in all maps, of any entries: the list rises, and holds exactly those that are off.
use Prim.Native.Nat.{ℕ, zero, suc, ◌+◌, ◌*◌, ◌<◌, ◌≤◌}
use native.Mathlib.Omega.{arith}
use native.Mathlib.Numerals.{add-one}
use mathlib.Core.Path.{◌≡◌, refl}
use mathlib.Core.Bool.{true, false}
use mathlib.Core.Logic.{◌⊎◌, inl, inr, ⊎_elim, ◌↔◌}
use mathlib.Core.List.{List, [], ◌∷◌, ◌++◌, append-nil, Memᴰ}
use lib.ListN.{length, length-append}
use lib.Dec.{eqb}
use borrow.Author.Tests.{eqb-true, eqb-false, not-true, not-false}
use Rattle.field.proofs.Choosing.{either}
use Rattle.list.specs.Lists.{Rising, AllOf}
use Rattle.list.proofs.Rises.{all_mem, all_behind, rising_behind}
use Rattle.sit.specs.Entry.{valid_count, valid_map, map_ones}
use Rattle.sit.proofs.Counting.{ones_most}
use Rattle.segment_report.specs.Off.{is_off, segments_off, ones_in_all}

-- "whose count isn't the number of ones in its map"
abbrev pub Off : List ℕ → Type 0
Off entry = valid_count entry ≡ map_ones entry → ⊥

is_off_lem : (entry : List ℕ) → is_off entry ≡ true → Off entry
unfolding is_off
is_off_lem entry h = eqb-false _ _ (not-true _ h)

not_off : (entry : List ℕ) → is_off entry ≡ false → valid_count entry ≡ map_ones entry
unfolding is_off
not_off entry h = eqb-true _ _ (not-false _ h)

-- of the first n segments, by any entries
module _ (entry : ℕ → List ℕ) where
  -- one segment more: it is listed or not, and its ones are added
  module _ (n : ℕ) where
    pub listed_next : is_off (entry n) ≡ true → segments_off entry (n + 1) ≡ segments_off entry n ++ (n ∷ [])
    unfolding segments_off
    listed_next p = rw (add-one n, p)

    pub passed_next : is_off (entry n) ≡ false → segments_off entry (n + 1) ≡ segments_off entry n
    unfolding segments_off
    passed_next p = rw (add-one n, p) (append-nil (segments_off entry n))

    pub summed_next : ones_in_all entry (n + 1) ≡ ones_in_all entry n + map_ones (entry n)
    unfolding ones_in_all
    summed_next = rw (add-one n)

  -- the same for a proof by induction
  data Next (n : ℕ) : Type 0 where
    listed : Off (entry n) → segments_off entry (suc n) ≡ segments_off entry n ++ (n ∷ []) → Next n
    passed : valid_count (entry n) ≡ map_ones (entry n) → segments_off entry (suc n) ≡ segments_off entry n → Next n

  next : (n : ℕ) → Next n
  next n =
      ⊎_elim (λ p. listed (is_off_lem (entry n) p) (rw (add-one n) at (listed_next n p)))
      (λ p. passed (not_off (entry n) p) (rw (add-one n) at (passed_next n p)))
      (either (is_off (entry n)))

  -- no more are off than there are, and none has more ones than blocks
  pub off_most : (n : ℕ) → length (segments_off entry n) ≤ n
  unfolding segments_off
  off_most zero = omega arith
  off_most (suc n) = go (next n) (off_most n)
    where
      go : Next n → length (segments_off entry n) ≤ n → length (segments_off entry (suc n)) ≤ suc n
      go (listed o e) h = rw (e, length-append) (omega arith)
      go (passed o e) h = rw e (omega arith)

  pub ones_in_all_most : (n : ℕ) → ones_in_all entry n ≤ 512 * n
  unfolding ones_in_all
  ones_in_all_most zero = omega arith
  ones_in_all_most (suc n) = omega (arith, ones_in_all_most n, ones_most (valid_map (entry n)) 512)

  -- what holds of each segment that is off holds of each that is listed
  all_listed : (P : ℕ → Type 0) (n : ℕ) → ((s : ℕ) → s < n → Off (entry s) → P s) → AllOf P (segments_off entry n)
  unfolding segments_off
  all_listed P zero f = tt
  all_listed P (suc n) f = go (next n) (all_listed P n (λ s h. f s (omega arith)))
    where
      go : Next n → AllOf P (segments_off entry n) → AllOf P (segments_off entry (suc n))
      go (listed o e) h = rw e (all_behind P (segments_off entry n) n h (f n (omega arith) o))
      go (passed o e) h = rw e h

  pub off_below : (n : ℕ) → AllOf (λ s. s < n) (segments_off entry n)
  off_below n = all_listed (λ s. s < n) n (λ s h o. h)

  pub off_rising : (n : ℕ) → Rising (segments_off entry n)
  unfolding segments_off
  off_rising zero = tt
  off_rising (suc n) = go (next n) (off_rising n)
    where
      go : Next n → Rising (segments_off entry n) → Rising (segments_off entry (suc n))
      go (listed o e) h = rw e (rising_behind (segments_off entry n) n h (off_below n))
      go (passed o e) h = rw e h

  -- a segment that is off is listed
  listed_off : (n s : ℕ) → s < n → Off (entry s) → Memᴰ s (segments_off entry n)
  listed_off zero s h o = absurd (omega arith)
  listed_off (suc n) s h o = go (next n) (either (eqb s n)) (λ k. listed_off n s k o)
    where
      go : Next n → (eqb s n ≡ true) ⊎ (eqb s n ≡ false) → (s < n → Memᴰ s (segments_off entry n)) → Memᴰ s (segments_off entry (suc n))
      go (listed p e) (inl t) ih = rw e (mathlib.Core.List.Memᴰ.append_right (segments_off entry n) (mathlib.Core.List.Memᴰ.head (eqb-true s n t)))
      go (listed p e) (inr t) ih =
          let other : s ≡ n → ⊥ = eqb-false s n t in
          rw e (mathlib.Core.List.Memᴰ.append_left (n ∷ []) (ih (omega arith)))
      go (passed p e) (inl t) ih = absurd (o (rw (eqb-true s n t) p))
      go (passed p e) (inr t) ih =
          let other : s ≡ n → ⊥ = eqb-false s n t in
          rw e (ih (omega arith))

  pub off_exactly : (n s : ℕ) → Memᴰ s (segments_off entry n) ↔ ((s < n) × Off (entry s))
  off_exactly n s = (
    λ m. all_mem (λ x. (x < n) × Off (entry x)) (segments_off entry n) (all_listed (λ x. (x < n) × Off (entry x)) n (λ x h o. (h, o))) m,
    λ h. listed_off n s h.0 h.1,
  )

  -- none is listed exactly if none is off
  pub none_listed : (n : ℕ) → (length (segments_off entry n) ≡ 0) ↔ ((s : ℕ) → s < n → valid_count (entry s) ≡ map_ones (entry s))
  none_listed n = (λ e s h. agrees (segments_off entry n) refl e s h, λ f. none (segments_off entry n) refl f)
    where
      agrees : (l : List ℕ) → segments_off entry n ≡ l → length l ≡ 0 → (s : ℕ) → s < n → valid_count (entry s) ≡ map_ones (entry s)
      agrees [] e z s h =
          ⊎_elim (λ t. eqb-true _ _ t)
          (λ t. absurd (mathlib.Core.List.Memᴰ.not-nil (rw e at ((off_exactly n s).1 (h, eqb-false _ _ t)))))
          (either (eqb (valid_count (entry s)) (map_ones (entry s))))
      agrees (x ∷ xs) e z s h = absurd (omega arith)

      none : (l : List ℕ) → segments_off entry n ≡ l → ((s : ℕ) → s < n → valid_count (entry s) ≡ map_ones (entry s)) → length l ≡ 0
      none [] e f = refl
      none (x ∷ xs) e f =
          let m : Memᴰ x (segments_off entry n) = rw e (mathlib.Core.List.Memᴰ.head refl) in
          let o = (off_exactly n x).0 m in
          absurd (o.1 (f x o.0))
