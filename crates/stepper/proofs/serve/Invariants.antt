-- The heads' records before `k` are as the report wants them.
use Rattle.stepper.specs.Buffers.{rows_of}
use Rattle.stepper.specs.Shown.{waits_in, noted}
use Rattle.stepper.proofs.Renewed.{Renewed}
use Rattle.stepper.proofs.serve.Given as goal

abbrev pub invariant-loop-k : goal.invariant-loop-k
invariant-loop-k l =
    Renewed (noted (waits_in l.reported.0.file.now) (rows_of l.reported.1.0.now)) l.initial.heads l.k l.heads
