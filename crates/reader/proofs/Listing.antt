-- A list with room for one number more: what an insertion asks and leaves. And bytes that were copied over others.
use Prim.Native.Nat.{ℕ, ◌+◌, ◌*◌, ◌≤◌}
use native.Mathlib.Omega.{arith}
use mathlib.Core.Path.{◌≡◌, sym, ap, ◌∙◌}
use mathlib.Core.List.{List, ◌++◌, append-nil}
use lib.ListN.{length, take, drop, length-append, length-drop, drop_of_length-le}
use lib.Seq.{take-append_seam}
use Rattle.std.specs.Prelude.{Option, Some}
use Rattle.list.specs.Lists.{Rising, numbers, Holds, HasInserted}
use Rattle.list.proofs.Rises.{length_insert}
use Rattle.list.proofs.Entries.{length_numbers}
use Rattle.reader.specs.Reading.{with_number}

module _ (l : List ℕ) (n x : ℕ) where
  pub one_more : Rising (numbers l 0 n) → 4 * (n + 1) ≤ length l → Holds x l n
  one_more rises room =
      let a = length_insert x (numbers l 0 n) in
      let b = length_numbers l 0 n in
      record { room = omega arith; rising = rises }

  pub inserted_few : {m : List ℕ} {k : ℕ} → HasInserted l n x m k → k ≤ n + 1
  inserted_few {m = m} {k = k} h =
      let a = length_insert x (numbers l 0 n) in
      let b = length_numbers l 0 n in
      let c = sym (length_numbers m 0 k) ∙ ap length h.list in
      omega arith

  pub number_listed : {m now : List ℕ} {k : ℕ} {number : Option ℕ} → HasInserted l n x m k → number ≡ Some x → now ≡ m
      → numbers now 0 k ≡ with_number number (numbers l 0 n)
  number_listed h e f = rw (f, e) h.list

-- all of it, where they have one length
pub copied_whole : (src old : List ℕ) {new : List ℕ} → length old ≡ length src → new ≡ src ++ drop (length src) old → new ≡ src
copied_whole src old e p = p ∙ rw (drop_of_length-le old {i = length src} (omega arith), append-nil)

-- .. and over a longer one: they stand at its front, and it keeps its length
module _ (src old : List ℕ) {new : List ℕ} (room : length src ≤ length old) (p : new ≡ src ++ drop (length src) old) where
  pub copied_front : take (length src) new ≡ src
  copied_front = ap (take (length src)) p ∙ take-append_seam src (drop (length src) old)

  pub copied_length : length new ≡ length old
  copied_length =
      let a = ap length p ∙ length-append src (drop (length src) old) in
      let b = length-drop (length src) old in
      omega arith
