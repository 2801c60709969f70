-- All heads have their tasks.
use Rattle.std.proofs.Common.{◌≡◌, length, sym, ◌∙◌, arith, rules}
use Rattle.std.proofs.lemmas.List.{length-map}
use Rattle.basics.proofs.Taken.{taken_all}
use Rattle.job.specs.Job.{most_heads}
use Rattle.stepper.specs.Buffers.{rows_of}
use Rattle.stepper.specs.Shown.{waits_in}
use Rattle.start.specs.Start.{first_task}
use Rattle.start.proofs.first_tasks.Goals as goal

pub returns : goal.returns
returns c =
    let task = first_task (waits_in c.args.job.file.now) (rows_of c.args.report.now) in
    let size : length c.args.firsts ≡ most_heads = search rules in
    taken_all c.loop-h.h c.loop-h.tasks (sym (length-map c.args.firsts task ∙ size)) (omega arith) c.loop-h.invariant
