-- `any_faulty` looks from the back: the words passed are not faulty.
use Rattle.std.proofs.Common.{◌≡◌, length}
use Rattle.table.specs.Admitted.{any_faulty}
use Rattle.table.proofs.admission.any_faulty.Given as goal

abbrev pub invariant-loop-i : goal.invariant-loop-i
invariant-loop-i l = any_faulty l.table l.i ≡ any_faulty l.table (length l.table)
