-- `sections::read_requests`: the requests that are left give what all of them give.
use Rattle.std.proofs.Common.{length, ◌+◌, ◌-◌}
use Rattle.jobfile.specs.Format.{request_size}
use Rattle.jobfile.specs.Meaning.{rights_in, requests_start}
use Rattle.jobfile.proofs.Layouts.{request_layout}
use Rattle.reader.proofs.Loops.{ReadTo}
use Rattle.reader.proofs.sections.read_requests.Given as goal

abbrev pub invariant-loop-nodes : goal.invariant-loop-nodes
invariant-loop-nodes l =
    ReadTo (request_layout l.fn.nodes l.fn.heads (rights_in l.fn.file)) l.fn.file (requests_start l.fn.file) 0 l.at l.count l.count

abbrev pub decreases-loop-nodes : goal.decreases-loop-nodes
decreases-loop-nodes l = length l.fn.file + request_size - l.at
