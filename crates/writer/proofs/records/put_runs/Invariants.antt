-- `records::put_runs`: the runs of the grants so far are stored, and fewer are left.
use Rattle.std.proofs.Common.{length, drop}
use Rattle.jobfile.specs.Written.{longest_runs}
use Rattle.writer.proofs.Stores.{RunsStored}
use Rattle.writer.proofs.records.put_runs.Given as goal

abbrev pub invariant-loop-i : goal.invariant-loop-i
invariant-loop-i l =
    RunsStored l.fn.out l.fn.start l.fn.grants l.i l.at l.out

abbrev pub decreases-loop-i : goal.decreases-loop-i
decreases-loop-i l = length (longest_runs (drop l.i l.fn.grants))
