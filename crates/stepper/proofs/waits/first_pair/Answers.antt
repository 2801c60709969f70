-- The pair in the middle is of an earlier request or it is not.
use Rattle.std.proofs.Common.{ap, arith}
use Rattle.rules.specs.Waits.{pair}
use Rattle.stepper.proofs.Reached.{playing_admitted}
use Rattle.stepper.proofs.Pairs.{halved_up, halved_down}
use Rattle.stepper.proofs.waits.first_pair.Goals as goal

pub loop-low-preserved-then-wait-q : goal.loop-low-preserved-then-wait-q
loop-low-preserved-then-wait-q c =
    halved_up _ (playing_admitted c.args.job.playing) c.loop-low.invariant _ (omega arith) (omega arith)
    (omega (arith, ap (λ w. w.later) (c.wait.ensures (pair 0 0))))

pub loop-low-preserved : goal.loop-low-preserved
loop-low-preserved c =
    halved_down _ (playing_admitted c.args.job.playing) c.loop-low.invariant _ (omega arith) (omega arith)
    (omega (arith, ap (λ w. w.later) (c.wait.ensures (pair 0 0))))
