-- The heads before place `k` are those after the grant, the others those before it.
use Rattle.basics.proofs.Taken.{Taken}
use Rattle.rules.specs.State.{resting}
use Rattle.stepper.proofs.half_moved.Given as goal

abbrev pub invariant-loop-k : goal.invariant-loop-k
invariant-loop-k l = Taken (resting 0) l.initial.heads l.after l.k l.heads
