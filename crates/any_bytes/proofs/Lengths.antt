-- An image whose length is out of shape is answered with 4 by each call that takes one, whatever its bytes and whatever else is
-- asked, but that a keep file that is none comes first, with 18: all other numbers are 0, and what was lent stays as it was. K8's "one
-- more is 4" is this and `past_the_limit` (superblock/proofs/Shaped.antt).
use mathlib.Core.Path.{◌≡◌}
use mathlib.Core.Bool.{false, and-false}
use mathlib.Core.List.{List}
use Prim.Native.Nat.{ℕ}
use lib.ListN.{length}
use Rattle.superblock.specs.Shape.{in_shape}
use Rattle.checkpoint.proofs.Ways.{shape_refuses}
use Rattle.list.specs.Lists.{Listed}
use Rattle.nat.specs.Lookup.{lookup_of}
use Rattle.pull.specs.Pull.{Lent, call_in_shape, refused_pull, pulled}
use Rattle.pull.proofs.Results.{call_refused}
use Rattle.pull_run.specs.Run.{run_call_in_shape, refused_run, run_pulled}
use Rattle.pull_run.proofs.Results.{run_refused}
use Rattle.compare.specs.Compare.{refused, compared}
use Rattle.compare.proofs.Openings.{shape_refused}
use Rattle.segment_report.specs.Report.{refused_report, segment_report}
use Rattle.keep_file.specs.Keep.{Keep}
use Rattle.keep_file.specs.Reading.{read_keep}
use Rattle.keep_file.specs.Reading as reading
use Rattle.keep.specs.Writing.{refused_keep, keep_written}
use Rattle.keep.proofs.Calls as keep
use Rattle.keep_compare.specs.Compare.{keep_compared}
use Rattle.keep_compare.proofs.Openings as keep_compare
use Rattle.any_bytes.proofs.Refusals.{lookup_refused, report_refused}

module _ (image : List ℕ) (out : in_shape (length image) ≡ false) where
  pub lookup_out_of_shape : (number : ℕ) → lookup_of image number ≡ record { answer = 4; inode = 0; address = 0 }
  lookup_out_of_shape = lookup_refused image 4 (shape_refuses image out)

  pub pull_out_of_shape : (path : List ℕ) (index : ℕ) (lent : Lent) → pulled image path index lent ≡ refused_pull 4 lent
  unfolding call_in_shape
  pull_out_of_shape path index lent = call_refused image path index lent (rw out)

  pub run_out_of_shape : (path : List ℕ) (index wanted : ℕ) (lent : Lent) → run_pulled image path index wanted lent ≡ refused_run 4 lent
  unfolding run_call_in_shape
  run_out_of_shape path index wanted lent = run_refused image path index wanted lent (rw out)

  pub kept_out_of_shape : (fresh : List ℕ) (nodes blocks : Listed) → compared image fresh nodes blocks ≡ refused 4 0
  kept_out_of_shape fresh nodes blocks = shape_refused image fresh nodes blocks (rw out)

  pub fresh_out_of_shape : (kept : List ℕ) (nodes blocks : Listed) → compared kept image nodes blocks ≡ refused 4 0
  fresh_out_of_shape kept nodes blocks = shape_refused kept image nodes blocks (rw (out, and-false))

  pub report_out_of_shape : (list : List ℕ) → segment_report image list ≡ refused_report 4 list
  report_out_of_shape = report_refused image 4 (shape_refuses image out)

  pub keep_out_of_shape : (path : List ℕ) (index : ℕ) (room : List ℕ) → keep_written image path index room ≡ refused_keep 4 room
  keep_out_of_shape path index room = keep.call_refused image path index room (rw out)

  -- of a keep file that is one
  pub keep_compare_out_of_shape : (file : List ℕ) {k : Keep} → read_keep file ≡ reading.kept k → keep_compared file image ≡ refused 4 0
  keep_compare_out_of_shape file reads = keep_compare.shape_refused file image reads out
