-- An image that opening refuses is refused by each call that takes one, with the same answer, but that a keep file that is none comes first,
-- with 18: all other numbers are 0 but the side of a comparison, and what was lent stays as it was. K9's "Answer 8 also if" is this and the
-- laws in checkpoint/proofs/Damage.antt.
use mathlib.Core.Path.{◌≡◌}
use mathlib.Core.Bool.{true, ◌&&◌}
use mathlib.Core.List.{List}
use Prim.Native.Nat.{ℕ}
use lib.ListN.{length}
use Rattle.superblock.specs.Shape.{in_shape}
use Rattle.checkpoint.specs.declared.Volume.{Volume}
use Rattle.checkpoint.specs.Volume.{Opened, Refused, opened_image}
use Rattle.list.specs.Lists.{Listed}
use Rattle.nat.specs.Lookup.{lookup_of}
use Rattle.pull.specs.Pull.{Lent, call_in_shape, refused_pull, pulled}
use Rattle.pull.proofs.Results.{call_opens}
use Rattle.pull_run.specs.Run.{run_call_in_shape, refused_run, run_pulled}
use Rattle.pull_run.proofs.Results.{run_opens}
use Rattle.compare.specs.Compare.{refused, compared}
use Rattle.compare.proofs.Openings as openings
use Rattle.sit.proofs.Openings.{still_refused}
use Rattle.path.specs.Path.{is_path}
use Rattle.keep_file.specs.Keep.{Keep}
use Rattle.keep_file.specs.Reading.{read_keep}
use Rattle.keep_file.specs.Reading as reading
use Rattle.keep.specs.Writing.{refused_keep, keep_written}
use Rattle.keep.proofs.Calls as keep
use Rattle.keep_compare.specs.Compare.{keep_compared}
use Rattle.keep_compare.proofs.Openings as keep_compare
use Rattle.segment_report.specs.Report.{refused_report, segment_report}
use Rattle.segment_report.proofs.Ends.{refused_by_opening}

module _ (image : List ℕ) (n : ℕ) (refuses : opened_image image ≡ Refused n) where
  pub lookup_refused : (number : ℕ) → lookup_of image number ≡ record { answer = n; inode = 0; address = 0 }
  unfolding lookup_of
  lookup_refused number = rw refuses

  pub pull_refused : (path : List ℕ) (index : ℕ) (lent : Lent) → call_in_shape image path lent ≡ true → pulled image path index lent ≡ refused_pull n lent
  pull_refused path index lent shaped = call_opens image path index lent (Refused n) shaped refuses

  pub run_refused : (path : List ℕ) (index wanted : ℕ) (lent : Lent) → run_call_in_shape image path wanted lent ≡ true
      → run_pulled image path index wanted lent ≡ refused_run n lent
  run_refused path index wanted lent shaped = run_opens image path index wanted lent (Refused n) shaped refuses

  pub report_refused : (list : List ℕ) → segment_report image list ≡ refused_report n list
  report_refused list = refused_by_opening image list n (still_refused image n refuses)

  pub keep_refused : (path : List ℕ) (index : ℕ) (room : List ℕ) → in_shape (length image) && is_path path ≡ true
      → keep_written image path index room ≡ refused_keep n room
  keep_refused path index room shaped = keep.call_opens image path index room (Refused n) shaped refuses

  pub keep_compare_refused : (file : List ℕ) {k : Keep} → read_keep file ≡ reading.kept k → in_shape (length image) ≡ true → keep_compared file image
      ≡ refused n 2
  keep_compare_refused file reads shaped = keep_compare.fresh_refused_lem file image reads shaped n refuses

  -- whatever was listed, Compare doesn't say "same" of it: the kept image is looked at first
  module _ (nodes blocks : Listed) where
    pub kept_refused_lem : (fresh : List ℕ) → (in_shape (length image) && in_shape (length fresh)) ≡ true → compared image fresh nodes blocks ≡ refused n 1
    kept_refused_lem fresh shaped = openings.kept_refused_lem image fresh nodes blocks shaped n refuses

    pub fresh_refused_lem : (kept : List ℕ) → (in_shape (length kept) && in_shape (length image)) ≡ true → (v : Volume) → opened_image kept ≡ Opened v
        → compared kept image nodes blocks ≡ refused n 2
    fresh_refused_lem kept shaped v opens = openings.fresh_refused_lem kept image nodes blocks shaped v opens n refuses
