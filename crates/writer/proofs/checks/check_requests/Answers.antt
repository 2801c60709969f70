-- `checks::check_requests`: the rows hold the requests.
use Rattle.std.proofs.Common.{ap, arith}
use Rattle.jobfile.specs.Draft.{rights_given, each_refusal}
use Rattle.writer.proofs.Requests.{fields_of_rows, fields_end}
use Rattle.writer.proofs.checks.check_requests.Goals as goal

pub loop-head-init : goal.loop-head-init
loop-head-init c =
    rw c.as_chunks.ensures.front
    (ap (each_refusal c.args.nodes c.args.heads (rights_given c.args.rights.now)) (fields_of_rows c.args.requests.now))

pub returns : goal.returns
returns c =
    fields_end c.args.nodes c.args.heads (rights_given c.args.rights.now) c.as_chunks.result.0.now c.loop-head.head-index _
    c.loop-head.invariant (omega arith)
