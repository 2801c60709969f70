-- Every request from `from` to `q` is another head's.
use Rattle.stepper.specs.Shown.{requests_in}
use Rattle.stepper.proofs.Seek.{Sought}
use Rattle.stepper.proofs.requests.next_request.Given as goal

abbrev pub invariant-loop-q : goal.invariant-loop-q
invariant-loop-q l = Sought (requests_in l.job.file.now) l.h l.from l.q
