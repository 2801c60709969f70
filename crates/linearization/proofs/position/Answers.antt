-- `position` at an entry that it passes.
use Rattle.std.proofs.Common.{arith}
use Rattle.linearization.proofs.Buffer.{scanned_on}
use Rattle.linearization.proofs.position.Goals as goal

pub loop-k-preserved : goal.loop-k-preserved
loop-k-preserved c = scanned_on _ _ _ (omega arith) _ (omega arith) c.loop-k.invariant (omega arith)
