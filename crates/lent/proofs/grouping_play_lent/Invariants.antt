-- The parts that the job needs stand as the rules' run so far, the owner's tally with them; the rest is as lent.
use Rattle.std.proofs.Common.{◌≡◌}
use Rattle.player.proofs.Along.{entry, Lending}
use Rattle.lent.proofs.grouping_play_lent.Given as goal

abbrev pub invariant-loop-granted : goal.invariant-loop-granted
invariant-loop-granted l =
    (Lending (entry l.job.file.now l.fn.table l.fn.report l.fn.linearization) l.counts l.progress l.tally l.table l.report
    l.linearization)
    × (l.progress.number ≡ l._granted)
