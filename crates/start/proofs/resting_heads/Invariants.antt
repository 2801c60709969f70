-- The heads before `h` rest with their tasks.
use Rattle.std.proofs.Common.{map}
use Rattle.basics.proofs.Taken.{Taken}
use Rattle.rules.specs.State.{resting}
use Rattle.start.specs.Start.{at_rest}
use Rattle.start.proofs.resting_heads.Given as goal

abbrev pub invariant-loop-h : goal.invariant-loop-h
invariant-loop-h l = Taken (resting 0) l.initial.heads (map at_rest l.tasks) l.h l.heads
