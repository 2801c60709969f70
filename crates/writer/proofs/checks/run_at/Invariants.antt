-- `checks::run_at`: the run of the grants so far is under way.
use Rattle.writer.proofs.Grants.{Growing}
use Rattle.writer.proofs.checks.run_at.Given as goal

abbrev pub invariant-loop-head : goal.invariant-loop-head
invariant-loop-head l =
    Growing l.fn.grants l.fn.at l.rest l.head-index l.run
