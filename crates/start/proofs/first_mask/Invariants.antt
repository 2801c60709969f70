-- The mask has the flags of the heads from `h` on.
use Rattle.start.specs.Start.{is_request}
use Rattle.start.proofs.Loops.{Gathered}
use Rattle.start.proofs.first_mask.Given as goal

abbrev pub invariant-loop-h : goal.invariant-loop-h
invariant-loop-h l = Gathered (is_request l.requests) l.firsts l.h l.mask
