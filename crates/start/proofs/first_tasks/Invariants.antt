-- The heads before `h` have their tasks.
use Rattle.std.proofs.Common.{map}
use Rattle.basics.proofs.Taken.{Taken}
use Rattle.rules.specs.State.{resting}
use Rattle.stepper.specs.Buffers.{rows_of}
use Rattle.stepper.specs.Shown.{waits_in}
use Rattle.start.specs.Start.{first_task}
use Rattle.start.proofs.first_tasks.Given as goal

abbrev pub invariant-loop-h : goal.invariant-loop-h
invariant-loop-h l =
    Taken (resting 0).task l.initial.tasks (map (first_task (waits_in l.job.file.now) (rows_of l.report)) l.firsts) l.h l.tasks
