-- `numbering::numbered`: the requests before q are numbered.
use Rattle.stepper.specs.Shown.{requests_in}
use Rattle.sheet.specs.Sight.{sighted}
use Rattle.sheet.proofs.Numbered.{NumberedTo}
use Rattle.sheet.proofs.numbering.numbered.Given as goal

abbrev pub invariant-loop-q : goal.invariant-loop-q
invariant-loop-q l = NumberedTo (sighted l.sight (requests_in l.job.file.now)) l.job.counts.requests l.q l.seen l.numbers
