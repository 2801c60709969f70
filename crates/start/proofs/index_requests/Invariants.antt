-- The successors of the requests from `q` on are found, and each head's first request from `q` on.
use Rattle.stepper.specs.Shown.{requests_in}
use Rattle.start.proofs.Index.{IndexedFrom}
use Rattle.start.proofs.index_requests.Given as goal

abbrev pub invariant-loop-q : goal.invariant-loop-q
invariant-loop-q l = IndexedFrom (requests_in l.job.file.now) l.firsts l.index l.q
