-- The parent that `root_of` read is a node, and the walk goes on from it.
use Rattle.std.proofs.Common.{arith}
use Rattle.table.proofs.Roots.{walk_inside, walk_goes_on}
use Rattle.table.proofs.admission.AdmittedTable.root_of.Goals as goal

pub overflow_cast-at-in-loop-above : goal.overflow_cast-at-in-loop-above
overflow_cast-at-in-loop-above c =
    omega (arith, c.args.self.admitted.few, walk_inside c.args.self.admitted c.loop-above.invariant)

pub offset_bounds-self-at-in-loop-above : goal.offset_bounds-self-at-in-loop-above
offset_bounds-self-at-in-loop-above c =
    omega (arith, c.args.self.admitted.few, walk_inside c.args.self.admitted c.loop-above.invariant)

pub bounds-self-at-in-loop-above : goal.bounds-self-at-in-loop-above
bounds-self-at-in-loop-above c = walk_inside c.args.self.admitted c.loop-above.invariant

pub loop-above-preserved : goal.loop-above-preserved
loop-above-preserved c =
    walk_goes_on c.args.self.admitted c.loop-above.invariant (omega arith) _ c.parent-above-in-loop-above.ensures
