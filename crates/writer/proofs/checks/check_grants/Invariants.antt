-- `checks::check_grants`: the grants that are left have the refusal of all.
use Rattle.std.proofs.Common.{◌≡◌, drop}
use Rattle.jobfile.specs.Draft.{grants_refusal}
use Rattle.writer.proofs.checks.check_grants.Given as goal

abbrev pub invariant-loop-head : goal.invariant-loop-head
invariant-loop-head l =
    grants_refusal l.heads (drop l.head-index l.grants) ≡ grants_refusal l.heads l.grants
