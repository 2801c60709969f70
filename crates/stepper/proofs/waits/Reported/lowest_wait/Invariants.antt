-- The pairs of the request before `i` hold nothing back.
use Rattle.stepper.specs.Buffers.{rows_of}
use Rattle.stepper.specs.Shown.{waits_in}
use Rattle.stepper.proofs.Pairs.{Scanned}
use Rattle.stepper.proofs.waits.Reported.lowest_wait.Given as goal

abbrev pub invariant-loop-i : goal.invariant-loop-i
invariant-loop-i l = Scanned (waits_in l.self.job.file.now) (rows_of l.self.report.now) l.q l.i
