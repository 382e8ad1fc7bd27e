-- Boolean tests taken apart: of a long conjunction that holds, each fact is read by saying that the whole fails without it.
use mathlib.Core.Path.{◌≡◌, refl}
use mathlib.Core.Bool.{Bool, true, false}
use mathlib.Core.Logic.{◌⊎◌, inl, inr}
use Prim.Native.Nat.{ℕ, ◌≤◌}
use native.Mathlib.Omega.{arith}
use lib.Dec.{eqb, leb}
use borrow.Author.Tests.{eqb-true, leb-true}

pub either : (t : Bool) → (t ≡ true) ⊎ (t ≡ false)
either true = inl refl
either false = inr refl

-- a test isn't both
pub clash : {t : Bool} → t ≡ true → t ≡ false → ⊥
clash p q = let z : ◌≡◌ {A = ℕ} 0 1 = cc in omega arith

pub needed : {all t : Bool} → (t ≡ false → all ≡ false) → all ≡ true → t ≡ true
needed {t = true} f h = refl
needed {t = false} f h = let e = f refl in cc

pub needed_eq : {all : Bool} {m n : ℕ} → (eqb m n ≡ false → all ≡ false) → all ≡ true → m ≡ n
needed_eq f h = eqb-true _ _ (needed f h)

pub needed_le : {all : Bool} {m n : ℕ} → (leb m n ≡ false → all ≡ false) → all ≡ true → m ≤ n
needed_le f h = leb-true _ _ (needed f h)
