-- `sections::read_rights`: the rights that are left give what all of them give.
use Rattle.std.proofs.Common.{length, ◌+◌, ◌-◌}
use Rattle.jobfile.specs.Format.{job_size, right_size}
use Rattle.jobfile.proofs.Layouts.{right_layout}
use Rattle.reader.proofs.Loops.{ReadTo}
use Rattle.reader.proofs.sections.read_rights.Given as goal

abbrev pub invariant-loop-heads : goal.invariant-loop-heads
invariant-loop-heads l = ReadTo (right_layout l.fn.heads) l.fn.file job_size 0 l.at l.count l.count

abbrev pub decreases-loop-heads : goal.decreases-loop-heads
decreases-loop-heads l = length l.fn.file + right_size - l.at
