-- The second number of the new entry lies in the buffer.
use Rattle.std.proofs.Common.{arith, length-set}
use Rattle.linearization.proofs.Buffer.{position_within}
use Rattle.linearization.proofs.insert_entry.Goals as goal

pub bounds-linearization-at-2 : goal.bounds-linearization-at-2
bounds-linearization-at-2 c =
    simp length-set (omega (arith, position_within c.args.linearization.now c.args.entries c.args.point (omega arith)))
