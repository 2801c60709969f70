-- The pairs before `low` are of earlier requests, those from `high` on are not.
use Rattle.std.proofs.Common.{◌-◌}
use Rattle.stepper.specs.Shown.{waits_in}
use Rattle.stepper.proofs.Pairs.{Halved}
use Rattle.stepper.proofs.waits.first_pair.Given as goal

abbrev pub invariant-loop-low : goal.invariant-loop-low
invariant-loop-low l = Halved (waits_in l.job.file.now) l.q l.low l.high

abbrev pub decreases-loop-low : goal.decreases-loop-low
decreases-loop-low l = l.high - l.low
