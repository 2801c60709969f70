-- `sections::read_waits`: the pairs that are left give what all of them give.
use Rattle.std.proofs.Common.{length, ◌+◌, ◌-◌}
use Rattle.jobfile.specs.Format.{wait_size, no_pair}
use Rattle.jobfile.proofs.Layouts.{wait_layout}
use Rattle.reader.proofs.Loops.{ReadTo}
use Rattle.reader.proofs.sections.read_waits.Given as goal

abbrev pub invariant-loop-before : goal.invariant-loop-before
invariant-loop-before l = ReadTo (wait_layout l.fn.requests) l.fn.file l.fn.start no_pair l.at l.before l.count

abbrev pub decreases-loop-before : goal.decreases-loop-before
decreases-loop-before l = length l.fn.file + wait_size - l.at
