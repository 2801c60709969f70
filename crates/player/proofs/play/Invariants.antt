-- The parts that the job needs stand as the rules' run so far, the rest is as lent.
use Rattle.std.proofs.Common.{◌≡◌}
use Rattle.player.proofs.Along.{entry, Lending}
use Rattle.player.proofs.play.Given as goal

abbrev pub invariant-loop-granted : goal.invariant-loop-granted
invariant-loop-granted l =
    (Lending (entry l.indexed.0.file.now l.fn.table l.fn.report l.fn.linearization) l.counts l.progress l.tally l.table l.report
    l.linearization)
    × (l.progress.number ≡ l._granted)
