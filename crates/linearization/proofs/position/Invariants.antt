-- `position` looks from the back, and stops at the first entry that is not later.
use Rattle.linearization.proofs.Buffer.{Scanned}
use Rattle.linearization.proofs.position.Given as goal

abbrev pub invariant-loop-k : goal.invariant-loop-k
invariant-loop-k l = Scanned l.linearization l.entries l.point l.k
