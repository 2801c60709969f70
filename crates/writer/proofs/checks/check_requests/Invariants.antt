-- `checks::check_requests`: the requests that are left have the refusal of all.
use Rattle.std.proofs.Common.{◌≡◌, drop, map}
use Rattle.jobfile.specs.Draft.{rights_given, fields_of, each_refusal}
use Rattle.writer.proofs.Requests.{fields_in}
use Rattle.writer.proofs.checks.check_requests.Given as goal

abbrev pub invariant-loop-head : goal.invariant-loop-head
invariant-loop-head l =
    each_refusal l.nodes l.heads (rights_given l.rights) (map fields_in (drop l.head-index l.rows))
    ≡ each_refusal l.nodes l.heads (rights_given l.rights) (fields_of l.requests)
