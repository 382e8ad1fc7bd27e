use Rattle.keep_file.proofs.Refusing.{test_measured}
use Rattle.keep_file.proofs.ByNumbers.{nodes_start_lem, fields_read_lem}
use Rattle.keep_file.proofs.file.Measured.fields.Goals as goal

pub overflow_sub-result : goal.overflow_sub-result
overflow_sub-result c = nodes_start_lem _ (test_measured _ c.args.self.measured) c.get32-nodes_at.ensures

pub returns : goal.returns
returns c =
    fields_read_lem _ c.get32-path.ensures c.get32-6.ensures c.get32-7.ensures c.get32-4.ensures c.get32-5.ensures
    (test_measured _ c.args.self.measured) c.get32.ensures c.get32-2.ensures
    c.get32-3.ensures c.get32-nodes_at.ensures c.get32-8.ensures c.get32-9.ensures
