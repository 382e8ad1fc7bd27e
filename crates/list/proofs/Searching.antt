-- What the search of a list for the first number that fails a test finds.
use mathlib.Core.Path.{◌≡◌, refl, ap, ◌∙◌}
use mathlib.Core.Bool.{Bool, true, false}
use mathlib.Core.List.{List, [], ◌∷◌, ◌++◌}
use mathlib.Core.Logic.{◌⊎◌, inl, inr, ⊎_elim}
use Prim.Native.Nat.{ℕ}
use Rattle.field.proofs.Choosing.{either, clash}
use Rattle.list.specs.Lists.{AllOf}
use Rattle.list.specs.Search.{searched}

-- ---- what a search finds

-- x stands in the list, P doesn't hold of it, and P holds of all before it
pub record FirstNot (P : ℕ → Type 0) (l : List ℕ) (x : ℕ) : Type 0 where
  pub before : List ℕ
  pub after : List ℕ
  pub list : l ≡ before ++ (x ∷ after)
  pub earlier : AllOf P before
  pub here : P x → ⊥

-- P is what the test decides
pub record Decides (test : ℕ → Bool) (P : ℕ → Type 0) : Type 0 where
  pub holds : (x : ℕ) → test x ≡ true → P x
  pub passes : (x : ℕ) → P x → test x ≡ true

module _ {A : Type 0} (test : ℕ → Bool) (found : ℕ → A) where
  module _ (other : A) where
    pub none_left : searched test found other [] ≡ other
    unfolding searched
    none_left = refl

    pub passed : {x : ℕ} (l : List ℕ) → test x ≡ true → searched test found other (x ∷ l) ≡ searched test found other l
    unfolding searched
    passed l h = rw h

    pub failed : {x : ℕ} (l : List ℕ) → test x ≡ false → searched test found other (x ∷ l) ≡ found x
    unfolding searched
    failed l h = rw h

  -- the two ways that a search ends, whatever `other` is
  abbrev pub Searched : (ℕ → Type 0) → List ℕ → Type 0
  Searched P l =
      (AllOf P l × ((other : A) → searched test found other l ≡ other))
      ⊎ ((x : ℕ) × FirstNot P l x × ((other : A) → searched test found other l ≡ found x))

  module _ {P : ℕ → Type 0} (d : Decides test P) where
    at_first : (x : ℕ) (xs : List ℕ) → test x ≡ false → FirstNot P (x ∷ xs) x
    at_first x xs h = record {
      before = [];
      after = xs;
      list = refl;
      earlier = tt;
      here = λ p. clash (d.passes x p) h;
    }

    later : {y : ℕ} (x : ℕ) (xs : List ℕ) → test x ≡ true → FirstNot P xs y → FirstNot P (x ∷ xs) y
    later x xs h f = record {
      before = x ∷ f.before;
      after = f.after;
      list = ap (λ (l : List ℕ). x ∷ l) f.list;
      earlier = (d.holds x h, f.earlier);
      here = f.here;
    }

    pub searched_ends : (l : List ℕ) → Searched P l
    searched_ends [] = inl (tt, λ o. none_left o)
    searched_ends (x ∷ xs) =
        ⊎_elim (λ h.
        ⊎_elim (λ w. inl ((d.holds x h, w.0), λ o. passed o xs h ∙ w.1 o))
        (λ w. inr (w.0, later x xs h w.1, λ o. passed o xs h ∙ w.2 o))
        (searched_ends xs))
        (λ h. inr (x, at_first x xs h, λ o. failed o xs h))
        (either (test x))

    pub all_searched : (other : A) (l : List ℕ) → AllOf P l → searched test found other l ≡ other
    all_searched o [] h = none_left o
    all_searched o (x ∷ xs) h = passed o xs (d.passes x h.0) ∙ all_searched o xs h.1

-- tests that say the same of each number of the list find the same
pub searched_alike : {A : Type 0} (test test' : ℕ → Bool) (found : ℕ → A) (other : A) (l : List ℕ) → AllOf (λ x. test x ≡ test' x) l
    → searched test found other l ≡ searched test' found other l
unfolding searched
searched_alike test test' found other [] h = refl
searched_alike test test' found other (x ∷ xs) h = rw (h.0, searched_alike test test' found other xs h.1)
