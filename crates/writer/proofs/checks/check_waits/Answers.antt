-- `checks::check_waits`: the rows hold the pairs.
use Rattle.std.proofs.Common.{ap, arith}
use Rattle.jobfile.specs.Format.{no_pair}
use Rattle.jobfile.specs.Draft.{pairs_refusal}
use Rattle.writer.proofs.Pairs.{pairs_of_rows, pair_end}
use Rattle.writer.proofs.checks.check_waits.Goals as goal

pub loop-later-init : goal.loop-later-init
loop-later-init c =
    rw c.as_chunks.ensures.front (ap (pairs_refusal c.args.count no_pair) (pairs_of_rows c.args.waits.now))

pub returns : goal.returns
returns c =
    pair_end c.args.count c.loop-later.before c.as_chunks.result.0.now c.loop-later.later-index _ c.loop-later.invariant (omega arith)
