-- Reading refuses exactly the files that aren't readable, and what code knows of a file that passes.
use Prim.Native.Nat.{ℕ, zero, suc, ◌+◌}
use native.Mathlib.Omega.{arith}
use mathlib.Core.Path.{◌≡◌, refl}
use mathlib.Core.Bool.{true, false, ◌&&◌, and-false, and-eq-true_iff}
use mathlib.Core.List.{List}
use mathlib.Core.Logic.{inl, inr, ⊎_elim, ◌↔◌}
use lib.Dec.{eqb}
use borrow.Author.Tests.{eq-eqb, ne_eqb, eqb-true, le-leb}
use Rattle.field.specs.Number.{le32}
use Rattle.field.proofs.Choosing.{either, needed, needed_eq, needed_le}
use Rattle.compare.proofs.Shapes.{rising_test, test_rising, main_test, test_main}
use Rattle.keep_file.specs.Keep.{numbers_of, Keep}
use Rattle.keep_file.specs.Layout.{nodes_start}
use Rattle.keep_file.specs.Reading.{is_answer, are_answers, path_length_in, node_count_in, keep_in, measured, lists_readable, readable}
use Rattle.keep_file.specs.Reading.{unreadable, kept, read_keep, fields_read}
use Rattle.keep_file.specs.Readable.{Measured, TableAnswerAt, Readable}
use Rattle.keep_file.proofs.Places.{Each, each_first, each_rest, each_cons}

module _ (file : List ℕ) where
  -- ---- a table answer
  answer_test : (at : ℕ) → TableAnswerAt file at → is_answer file at ≡ true
  unfolding is_answer
  answer_test at (inl e) = rw (eq-eqb _ _ e)
  answer_test at (inr e) =
      rw (ne_eqb (le32 file at) 0 (λ z. let n = e.0 in omega arith), eq-eqb _ _ e.0, eq-eqb _ _ e.1, eq-eqb _ _ e.2)

  test_answer : (at : ℕ) → is_answer file at ≡ true → TableAnswerAt file at
  unfolding is_answer
  test_answer at h = ⊎_elim (λ z. inl (eqb-true _ _ z)) (λ z. inr (nine (rw z at h))) (either (eqb (le32 file at) 0))
    where
      nine : (eqb (le32 file at) 9 && eqb (le32 file (at + 4)) 0 && eqb (le32 file (at + 8)) 0) ≡ true
          → (le32 file at ≡ 9) × (le32 file (at + 4) ≡ 0) × (le32 file (at + 8) ≡ 0)
      nine t =
          (needed_eq (λ p. rw p) t, needed_eq (λ p. simp (p, and-false)) t, needed_eq (λ p. simp (p, and-false)) t)

  -- each table answer
  abbrev AnswerIn : ℕ → Type 0
  AnswerIn at = TableAnswerAt file (at + 4)

  answers_test : (at n : ℕ) → Each (λ a. TableAnswerAt file (a + 4)) 16 at n → are_answers file at n ≡ true
  unfolding are_answers
  answers_test at zero f = refl
  answers_test at (suc n) f =
      rw (answer_test (at + 4) (each_first AnswerIn 16 at n f)) (answers_test (at + 16) n (each_rest AnswerIn 16 at n f))

  test_answers : (at n : ℕ) → are_answers file at n ≡ true → Each (λ a. TableAnswerAt file (a + 4)) 16 at n
  unfolding are_answers
  test_answers at zero h = λ i l. absurd (omega arith)
  test_answers at (suc n) h =
      let t = (and-eq-true_iff _ _).0 h in
      each_cons AnswerIn 16 at n (test_answer (at + 4) t.0) (test_answers (at + 16) n t.1)

  -- ---- the offsets and the length
  measured_test : Measured file → measured file ≡ true
  unfolding measured
  measured_test m = rw (eq-eqb _ _ m.nodes_offset, eq-eqb _ _ m.blocks_offset, eq-eqb _ _ m.end_offset) (eq-eqb _ _ m.file_length)

  pub test_measured : measured file ≡ true → Measured file
  unfolding measured
  test_measured h = record {
    nodes_offset = needed_eq (λ p. rw p) h;
    blocks_offset = needed_eq (λ p. simp (p, and-false)) h;
    end_offset = needed_eq (λ p. simp (p, and-false)) h;
    file_length = needed_eq (λ p. simp (p, and-false)) h;
  }

  -- ---- the file
  readable_test : Readable file → readable file ≡ true
  unfolding readable lists_readable
  readable_test r =
      rw (
        measured_test r.measure,
        le-leb 1 (node_count_in file) r.some,
        rising_test (numbers_of (keep_in file).nodes) r.nodes_rise,
        answers_test (nodes_start (path_length_in file)) (node_count_in file) r.answers,
        rising_test (numbers_of (keep_in file).blocks) r.blocks_rise,
      )
      (main_test (keep_in file).bounds (numbers_of (keep_in file).blocks) r.inside)

  test_readable : readable file ≡ true → Readable file
  unfolding readable lists_readable
  test_readable h = record {
    measure = test_measured (needed (λ p. rw p) h);
    some = needed_le (λ p. simp (p, and-false)) h;
    nodes_rise = test_rising (numbers_of (keep_in file).nodes) (needed (λ p. simp (p, and-false)) h);
    answers = test_answers (nodes_start (path_length_in file)) (node_count_in file) (needed (λ p. simp (p, and-false)) h);
    blocks_rise = test_rising (numbers_of (keep_in file).blocks) (needed (λ p. simp (p, and-false)) h);
    inside = test_main (keep_in file).bounds (numbers_of (keep_in file).blocks) (needed (λ p. simp (p, and-false)) h);
  }

  -- the test in plain propositions
  pub readable_exactly : (readable file ≡ true) ↔ Readable file
  readable_exactly = (test_readable, readable_test)

  pub read_readable : readable file ≡ true → read_keep file ≡ kept (keep_in file)
  unfolding read_keep
  read_readable h = rw h

  pub read_refused : readable file ≡ false → read_keep file ≡ unreadable
  unfolding read_keep
  read_refused h = rw h

  not_both : {k : Keep} → read_keep file ≡ kept k → read_keep file ≡ unreadable → ⊥
  not_both e g = let z : ◌≡◌ {A = ℕ} 0 1 = cc in omega arith

  -- "Reading refuses .. exactly the files with .."
  pub refused_exactly : (read_keep file ≡ unreadable) ↔ (Readable file → ⊥)
  refused_exactly = (
    λ e r. not_both (read_readable (readable_test r)) e,
    λ f. ⊎_elim (λ h. absurd (f (test_readable h))) read_refused (either (readable file)),
  )

  -- "with 18", and all other files are read
  pub refused_with_18 : ((fields_read (read_keep file)).answer ≡ 18) ↔ (Readable file → ⊥)
  refused_with_18 = (λ a r. let n = rw (read_readable (readable_test r)) at a in omega arith, λ f. rw (refused_exactly.1 f) refl)

  -- what was read is what the file holds
  pub read_kept : {k : Keep} → read_keep file ≡ kept k → Readable file × (k ≡ keep_in file)
  read_kept {k = k} e = ⊎_elim (λ h. (test_readable h, same (read_readable h))) (λ h. absurd (not_both e (read_refused h))) (either (readable file))
    where
      same : read_keep file ≡ kept (keep_in file) → k ≡ keep_in file
      same g = cc
