use mathlib.Core.Path.{refl, ◌∙◌}
use Rattle.keep_file.proofs.Refusing.{test_measured}
use Rattle.keep_file.proofs.file.Measured.nodes.Goals as goal

pub returns : goal.returns
returns c =
    let starts = c.get32.ensures ∙ (test_measured _ c.args.self.measured).nodes_offset in
    record { bytes = refl; starts = starts; wide = refl; counted = c.get32-2.ensures }
