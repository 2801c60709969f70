-- The roots that are left give what all of them give.
use Rattle.std.proofs.Common.{◌≡◌}
use lib.Seq.{sets}
use Rattle.query.proofs.Copies.{roots}
use Rattle.query.proofs.pad.Given as goal

abbrev pub invariant-loop-i : goal.invariant-loop-i
invariant-loop-i l = sets l.nodes l.i (roots l.i) ≡ sets l.fn.nodes l.from (roots l.from)
