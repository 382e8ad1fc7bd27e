-- What single pulls come to one after another, pull by pull: which stand and with which bytes, what ended them, and what they list together.
use Prim.Native.Nat.{ℕ, zero, suc, ◌+◌, ◌*◌, ◌≤◌, ◌<◌}
use native.Mathlib.Omega.{arith}
use mathlib.Core.Path.{◌≡◌, refl, sym, ap, subst, ◌∙◌}
use mathlib.Core.Logic.{inl, inr, ⊎_elim, ◌↔◌}
use mathlib.Core.List.{List, [], ◌∷◌, ◌++◌, append_assoc, Memᴰ}
use lib.ListN.{length, take, drop, length-append}
use lib.Seq.{take-append_seam, drop-append-add}
use Rattle.list.specs.Lists.{union}
use Rattle.list.proofs.Members.{in_union}
use Rattle.walk.specs.Walk.{Seen, empty, union_seen, Ran, Outcome, ok, stop}
use Rattle.pull.specs.Walk.{Block}
use Rattle.pull.specs.Pull.{content_bytes}
use Rattle.file_run.specs.Standing.{Standing, last_count, bytes_standing}
use Rattle.pull_run.specs.Run.{joined, pulls_from}

module _ (one : ℕ → Ran (Outcome Block)) where
  -- the pulls that are made: those of blocks that stand, and the one that ended the run
  pub record Made (n : ℕ) (r : Standing) (i : ℕ) : Type 0 where
    pub wanted : i < n
    pub reached : i ≤ length r.stand

  -- ---- what ended them
  pub data Ended (n index : ℕ) (r : Standing) : Type 0 where
    full : r.answer ≡ 0 → length r.stand ≡ n → Ended n index r
    short : length r.stand < n → (one (index + length r.stand)).value ≡ stop r.answer → Ended n index r

  pub ended : (n index : ℕ) → Ended n index (pulls_from one n index).value
  unfolding pulls_from
  ended zero index = full refl refl
  ended (suc n) index = go (one index).value refl (ended n (index + 1))
    where
      rest : Ran Standing
      rest = pulls_from one n (index + 1)

      go : (x : Outcome Block) → (one index).value ≡ x → Ended n (index + 1) rest.value → Ended (suc n) index (joined (one index).seen x rest).value
      go (stop answer) e ih = short (omega arith) (ap (λ (j : ℕ). (one j).value) (omega arith) ∙ e)
      go (ok b) e (full a l) = full a (omega arith)
      go (ok b) e (short l f) = short (omega arith) (ap (λ (j : ℕ). (one j).value) (omega arith) ∙ f)

  -- ---- a block that stands: it is the single pull's, and so are its bytes in a buffer
  pub record StandsAs (index i : ℕ) (buffer : List ℕ) : Type 0 where
    pub block : Block
    pub value : (one (index + i)).value ≡ ok block
    pub bytes : take 4096 (drop (4096 * i) buffer) ≡ content_bytes block.count block.content

  module _ (sized : (j : ℕ) (b : Block) → (one j).value ≡ ok b → length (content_bytes b.count b.content) ≡ 4096) (behind : List ℕ) where
    pub stands : (n index i : ℕ) → i < length (pulls_from one n index).value.stand
        → StandsAs index i (bytes_standing (pulls_from one n index).value.stand ++ behind)
    unfolding pulls_from bytes_standing
    stands zero index i l = absurd (omega arith)
    stands (suc n) index i l = go (one index).value refl i (λ j. stands n (index + 1) j) l
      where
        rest : Ran Standing
        rest = pulls_from one n (index + 1)

        first : (b : Block) → (one index).value ≡ ok b → StandsAs index 0 (bytes_standing (b ∷ rest.value.stand) ++ behind)
        first b e =
            let C = content_bytes b.count b.content in
            let more = bytes_standing rest.value.stand ++ behind in
            record {
              block = b;
              value = ap (λ (j : ℕ). (one j).value) (omega arith) ∙ e;
              bytes = ap (take 4096) (append_assoc C (bytes_standing rest.value.stand) behind)
                  ∙ ap (λ (k : ℕ). take k (C ++ more)) (sym (sized index b e))
                  ∙ take-append_seam C more;
            }

        later : (b : Block) → (one index).value ≡ ok b → (j : ℕ) → StandsAs (index + 1) j (bytes_standing rest.value.stand ++ behind)
            → StandsAs index (suc j) (bytes_standing (b ∷ rest.value.stand) ++ behind)
        later b e j s =
            let C = content_bytes b.count b.content in
            let more = bytes_standing rest.value.stand ++ behind in
            let at : 4096 * suc j ≡ 4096 + 4096 * j = omega arith in
            record {
              block = s.block;
              value = ap (λ (h : ℕ). (one h).value) (omega arith) ∙ s.value;
              bytes = ap (λ (l : List ℕ). take 4096 (drop (4096 * suc j) l)) (append_assoc C (bytes_standing rest.value.stand) behind)
                  ∙ ap (λ (k : ℕ). take 4096 (drop k (C ++ more))) (at ∙ ap (λ (k : ℕ). k + 4096 * j) (sym (sized index b e)))
                  ∙ ap (take 4096) (drop-append-add C more (4096 * j))
                  ∙ s.bytes;
            }

        go : (x : Outcome Block) → (one index).value ≡ x → (i : ℕ)
            → ((j : ℕ) → j < length rest.value.stand → StandsAs (index + 1) j (bytes_standing rest.value.stand ++ behind))
            → i < length (joined (one index).seen x rest).value.stand
            → StandsAs index i (bytes_standing (joined (one index).seen x rest).value.stand ++ behind)
        go (stop answer) e i ih l = absurd (omega arith)
        go (ok b) e zero ih l = first b e
        go (ok b) e (suc j) ih l = later b e j (ih j (omega arith))

    pub standing_sized : (n index : ℕ)
        → length (bytes_standing (pulls_from one n index).value.stand) ≡ 4096 * length (pulls_from one n index).value.stand
    unfolding pulls_from bytes_standing
    standing_sized zero index = refl
    standing_sized (suc n) index = go (one index).value refl (pulls_from one n (index + 1)) (standing_sized n (index + 1))
      where
        go : (x : Outcome Block) → (one index).value ≡ x → (rest : Ran Standing)
            → length (bytes_standing rest.value.stand) ≡ 4096 * length rest.value.stand
            → length (bytes_standing (joined (one index).seen x rest).value.stand) ≡ 4096 * length (joined (one index).seen x rest).value.stand
        go (stop answer) e rest ih = refl
        go (ok b) e rest ih =
            let all = length-append (content_bytes b.count b.content) (bytes_standing rest.value.stand) in
            let whole = sized index b e in
            omega arith

  -- ---- the byte count is the last one's
  pub record LastAs (index i count : ℕ) : Type 0 where
    pub block : Block
    pub value : (one (index + i)).value ≡ ok block
    pub counts : count ≡ block.count

  pub last_stands : (n index i : ℕ) → length (pulls_from one n index).value.stand ≡ i + 1 → LastAs index i (last_count (pulls_from one n index).value.stand)
  unfolding pulls_from
  last_stands zero index i l = absurd (omega arith)
  last_stands (suc n) index i l = go (one index).value refl (pulls_from one n (index + 1)) (λ j. last_stands n (index + 1) j) l
    where
      go : (x : Outcome Block) → (one index).value ≡ x → (rest : Ran Standing)
          → ((j : ℕ) → length rest.value.stand ≡ j + 1 → LastAs (index + 1) j (last_count rest.value.stand))
          → length (joined (one index).seen x rest).value.stand ≡ i + 1
          → LastAs index i (last_count (joined (one index).seen x rest).value.stand)
      go (stop answer) e rest ih l = absurd (omega arith)
      go (ok b) e rest ih l = by_rest rest.value.stand refl
        where
          by_rest : (bs : List Block) → rest.value.stand ≡ bs → LastAs index i (last_count (b ∷ rest.value.stand))
          by_rest [] f =
              let z : length rest.value.stand ≡ 0 = ap length f in
              record { block = b; value = ap (λ (j : ℕ). (one j).value) (omega arith) ∙ e; counts = ap (λ (s : List Block). last_count (b ∷ s)) f }
          by_rest (c ∷ bs) f =
              let z : length rest.value.stand ≡ suc (length bs) = ap length f in
              let s = ih (length bs) (omega arith) in
              record {
                block = s.block;
                value = ap (λ (j : ℕ). (one j).value) (omega arith) ∙ s.value;
                counts = ap (λ (s : List Block). last_count (b ∷ s)) f ∙ sym (ap last_count f) ∙ s.counts;
              }

  -- ---- what they list together; `of` takes one of the two lists
  pub record Lists (of : Seen → List ℕ) (n index x : ℕ) (r : Standing) : Type 0 where
    pub at : ℕ
    pub made : Made n r at
    pub listed : Memᴰ x (of (one (index + at)).seen)

  module _ (of : Seen → List ℕ) (joins : (s t : Seen) → of (union_seen s t) ≡ union (of s) (of t)) (none : of empty ≡ []) (x : ℕ) where
    pub listed_together : (n index : ℕ) → Memᴰ x (of (pulls_from one n index).seen) ↔ Lists of n index x (pulls_from one n index).value
    unfolding pulls_from
    listed_together zero index = (λ m. absurd (mathlib.Core.List.Memᴰ.not-nil (subst (Memᴰ x) none m)), λ l. let h = l.made.wanted in absurd (omega arith))
    listed_together (suc n) index = go (one index).value refl (listed_together n (index + 1))
      where
        rest : Ran Standing
        rest = pulls_from one n (index + 1)

        own : (r : Standing) → Memᴰ x (of (one index).seen) → Lists of (suc n) index x r
        own r m = record {
          at = 0;
          made = record { wanted = omega arith; reached = omega arith };
          listed = subst (λ (j : ℕ). Memᴰ x (of (one j).seen)) (omega arith) m;
        }

        later : (b : Block) → Lists of n (index + 1) x rest.value
            → Lists of (suc n) index x (joined (one index).seen (ok b) rest).value
        later b l =
            let w = l.made.wanted in
            let r = l.made.reached in
            record {
              at = suc l.at;
              made = record { wanted = omega arith; reached = omega arith };
              listed = subst (λ (j : ℕ). Memᴰ x (of (one j).seen)) (omega arith) l.listed;
            }

        go : (v : Outcome Block) → (one index).value ≡ v → (Memᴰ x (of rest.seen) ↔ Lists of n (index + 1) x rest.value)
            → Memᴰ x (of (joined (one index).seen v rest).seen) ↔ Lists of (suc n) index x (joined (one index).seen v rest).value
        go (stop answer) e ih = (own _, λ l. alone l.at l.made l.listed)
          where
            alone : (at : ℕ) → Made (suc n) (joined (one index).seen (stop answer) rest).value at → Memᴰ x (of (one (index + at)).seen)
                → Memᴰ x (of (one index).seen)
            alone at made m =
                let q = made.reached in
                subst (λ (j : ℕ). Memᴰ x (of (one j).seen)) (omega arith) m
        go (ok b) e ih = (
          λ m. ⊎_elim (own _) (λ t. later b (ih.0 t)) ((in_union x _ _).0 (subst (Memᴰ x) (joins _ _) m)),
          λ l. behind l.at l.made l.listed,
        )
          where
            into : Memᴰ x (union (of (one index).seen) (of rest.seen)) → Memᴰ x (of (union_seen (one index).seen rest.seen))
            into m = subst (Memᴰ x) (sym (joins _ _)) m

            behind : (at : ℕ) → Made (suc n) (joined (one index).seen (ok b) rest).value at → Memᴰ x (of (one (index + at)).seen)
                → Memᴰ x (of (union_seen (one index).seen rest.seen))
            behind zero made m = into ((in_union x _ _).1 (inl (subst (λ (j : ℕ). Memᴰ x (of (one j).seen)) (omega arith) m)))
            behind (suc at) made m =
                let w = made.wanted in
                let q = made.reached in
                into
                ((in_union x _ _).1
                (inr (ih.1
                (record {
                  at = at;
                  made = record { wanted = omega arith; reached = omega arith };
                  listed = subst (λ (j : ℕ). Memᴰ x (of (one j).seen)) (omega arith) m;
                }))))
