-- The mask has no flag yet; one flag more comes below the others.
use Rattle.std.proofs.Common.{arith, rules}
use Rattle.job.specs.Job.{most_heads}
use Rattle.start.specs.Start.{is_request}
use Rattle.start.proofs.Loops.{gathered_none, gathered_on}
use Rattle.start.proofs.first_mask.Goals as goal

pub loop-h-init : goal.loop-h-init
loop-h-init c = gathered_none (is_request c.args.requests) c.args.firsts most_heads (search rules)

pub loop-h-preserved : goal.loop-h-preserved
loop-h-preserved c =
    rw (c.pushed-mask.ensures, c.from.ensures)
    (gathered_on (is_request c.args.requests) c.args.firsts c.loop-h.h c.loop-h.mask (omega arith) c.loop-h.invariant)
