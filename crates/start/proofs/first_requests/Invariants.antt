-- The first requests of the heads before `h` are found, and the others are told the number of requests.
use Rattle.std.proofs.Common.{replicate}
use Rattle.basics.proofs.Taken.{Taken}
use Rattle.job.specs.Job.{most_heads}
use Rattle.stepper.specs.Shown.{requests_in}
use Rattle.start.specs.Start.{first_requests}
use Rattle.start.proofs.first_requests.Given as goal

abbrev pub invariant-loop-h : goal.invariant-loop-h
invariant-loop-h l =
    Taken 0 (replicate most_heads l.job.counts.requests) (first_requests (requests_in l.job.file.now) 0 most_heads) l.h l.firsts
