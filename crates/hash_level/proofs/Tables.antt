-- One law for all tables: what passes the test has the rule at each entry.
use mathlib.Core.Path.{◌≡◌, sym, ap, subst, ◌∙◌}
use mathlib.Core.Bool.{true, and-false}
use mathlib.Core.List.{List, [], ◌∷◌}
use Prim.Native.Nat.{ℕ, zero, suc, ◌+◌, ◌<◌}
use native.Mathlib.Nat.{add-zero, zero-add, add-suc, suc-add, le_of_suc-le-suc, not-suc-le-zero}
use lib.ListN.{length, get_or}
use Rattle.field.proofs.Choosing.{needed, needed_eq}
use Rattle.hash_level.specs.Level.{first_of}
use Rattle.hash_level.specs.Table.{IsTable, follows, passes, all_pass}

-- what the test says of the entry k further on
followed : (dir level : ℕ) (table : List ℕ) → follows dir level (first_of dir level) table ≡ true → (k : ℕ) → k < length table
    → get_or table k 0 ≡ first_of dir (level + k)
unfolding first_of
followed dir level [] test k h = absurd (not-suc-le-zero h)
followed dir level (x ∷ xs) test zero h =
    let here : x ≡ first_of dir level = needed_eq (λ e. rw e) test in
    here ∙ ap (first_of dir) (sym (add-zero level))
followed dir level (x ∷ xs) test (suc k) h =
    let rest : follows dir (suc level) (first_of dir (suc level)) xs ≡ true = needed (λ e. rw (e, and-false _)) test in
    followed dir (suc level) xs rest k (le_of_suc-le-suc h) ∙ ap (first_of dir) (suc-add level k ∙ sym (add-suc level k))

is_table : (dir : ℕ) (table : List ℕ) → passes dir table ≡ true → IsTable dir table
unfolding first_of
is_table dir table test =
    let size : length table ≡ 63 = needed_eq (λ e. rw e) test in
    let rest : follows dir 0 0 table ≡ true = needed (λ e. rw (e, and-false _)) test in
    record { entry = λ level h. followed dir 0 table rest level (rw size h) ∙ ap (first_of dir) (zero-add level) }

-- a directory level's own table
pub own_table : (n : ℕ) (table : List ℕ) → passes n table ≡ true → {dir : ℕ} → dir ≡ n → IsTable dir table
own_table n table test e = subst (λ (dir : ℕ). IsTable dir table) (sym e) (is_table n table test)

-- the table of directory level n among those from a level on
own_from : (dir : ℕ) (tables : List (List ℕ)) → all_pass dir tables ≡ true → (n : ℕ) → n < length tables → IsTable (dir + n) (get_or tables n [])
own_from dir [] test n h = absurd (not-suc-le-zero h)
own_from dir (table ∷ tables) test zero h =
    let own : passes dir table ≡ true = needed (λ e. rw e) test in
    rw (add-zero dir) (is_table dir table own)
own_from dir (table ∷ tables) test (suc n) h =
    let rest : all_pass (suc dir) tables ≡ true = needed (λ e. rw (e, and-false _)) test in
    rw (add-suc dir n, ← suc-add dir n) (own_from (suc dir) tables rest n (le_of_suc-le-suc h))

-- and among all
pub own_tables : (tables : List (List ℕ)) → all_pass 0 tables ≡ true → {dir : ℕ} → dir < length tables → IsTable dir (get_or tables dir [])
own_tables tables test {dir} h = rw zero-add at (own_from 0 tables test dir h)
