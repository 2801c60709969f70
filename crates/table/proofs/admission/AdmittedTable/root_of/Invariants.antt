-- `root_of` walks up from parent to parent; keys rise along parents and are bounded, so the walk ends.
use Rattle.table.proofs.Roots.{Walking, height}
use Rattle.table.proofs.admission.AdmittedTable.root_of.Given as goal

abbrev pub invariant-loop-above : goal.invariant-loop-above
invariant-loop-above l = Walking l.self.words.now l.node l.at l.above

abbrev pub decreases-loop-above : goal.decreases-loop-above
decreases-loop-above l = height l.self.words.now l.at
