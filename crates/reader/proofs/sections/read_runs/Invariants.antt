-- `sections::read_runs`: the runs that are left give what all of them give.
use Rattle.std.proofs.Common.{length, ◌+◌, ◌-◌}
use Rattle.jobfile.specs.Format.{run_size}
use Rattle.reader.proofs.Loops.{RunsTo}
use Rattle.reader.proofs.sections.read_runs.Given as goal

abbrev pub invariant-loop-before : goal.invariant-loop-before
invariant-loop-before l = RunsTo l.fn.file l.fn.heads l.fn.start l.at l.before l.grants

abbrev pub decreases-loop-before : goal.decreases-loop-before
decreases-loop-before l = length l.fn.file + run_size - l.at
