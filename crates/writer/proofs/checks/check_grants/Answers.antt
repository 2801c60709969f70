-- `checks::check_grants`: a grant for no head stops, another one counts no more.
use Rattle.std.proofs.Common.{sym, ◌∙◌, arith}
use Rattle.writer.proofs.Grants.{grant_stops, grant_passes}
use Rattle.writer.proofs.checks.check_grants.Goals as goal

pub returns-then-heads-from : goal.returns-then-heads-from
returns-then-heads-from c =
    sym (grant_stops _ _ _ c.loop-head-test.true (omega (arith, c.from.ensures))) ∙ c.loop-head.invariant

pub loop-head-preserved : goal.loop-head-preserved
loop-head-preserved c =
    sym (grant_passes _ _ _ c.loop-head-test.true (omega (arith, c.from.ensures))) ∙ c.loop-head.invariant
