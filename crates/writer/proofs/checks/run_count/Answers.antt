-- `checks::run_count`: one run more is counted.
use Rattle.std.proofs.Common.{arith}
use Rattle.writer.proofs.Grants.{counted_on, counted_few}
use Rattle.writer.proofs.checks.run_count.Goals as goal

pub overflow_add-runs : goal.overflow_add-runs
overflow_add-runs c =
    omega (arith, counted_few _ _ _ c.loop-i.invariant _ c.run_at.ensures)

pub loop-i-preserved : goal.loop-i-preserved
loop-i-preserved c =
    rw c.from-i.ensures (counted_on _ _ _ c.loop-i.invariant _ c.run_at.ensures)
