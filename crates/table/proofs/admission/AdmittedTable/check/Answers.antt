-- A table that is not refused is admitted.
use Rattle.std.proofs.Common.{sym}
use Rattle.table.proofs.Admitted.{table_admitted}
use Rattle.table.proofs.admission.AdmittedTable.check.Goals as goal

pub invariant_of-result : goal.invariant_of-result
invariant_of-result c = record { admitted = table_admitted c.args.words.now (sym c.in_ok-check_table.ensures) }
