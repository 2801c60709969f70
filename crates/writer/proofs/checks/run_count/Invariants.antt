-- `checks::run_count`: the runs of the grants so far are counted, and fewer are left.
use Rattle.std.proofs.Common.{length, drop}
use Rattle.jobfile.specs.Written.{longest_runs}
use Rattle.writer.proofs.Grants.{Counted}
use Rattle.writer.proofs.checks.run_count.Given as goal

abbrev pub invariant-loop-i : goal.invariant-loop-i
invariant-loop-i l =
    Counted l.fn.grants l.i l.runs

abbrev pub decreases-loop-i : goal.decreases-loop-i
decreases-loop-i l = length (longest_runs (drop l.i l.fn.grants))
