-- Each return is the steps from the head that the numbers stand for.
use Rattle.std.proofs.Common.{arith, sym, ◌∙◌}
use Rattle.query.proofs.Looks.{never, looked_on, looked_turned, looked_met, looked_spent, looked_no, looked_again}
use Rattle.query.proofs.Moves.{own_rank, up_inside, above_inside, once_spent, twice_spent, moved_ready, moved}
use Rattle.query.proofs.+look_move_on.Goals as goal

pub look-returns-then-left-eq0 : goal.look-returns-then-left-eq0
look-returns-then-left-eq0 t c = never _ c.requires c.if-left-eq0.true c.packed.ensures

pub look-returns-then-parent-node : goal.look-returns-then-parent-node
look-returns-then-parent-node t c =
    c.move_on.ensures ∙ sym (looked_on c.requires c.args.from_y c.if-left-eq0.false c.parent.ensures c.if-parent-node.true)

pub look-returns-then-not-from_y : goal.look-returns-then-not-from_y
look-returns-then-not-from_y t c =
    c.look.ensures
    ∙ sym (looked_turned c.requires c.args.from_y c.if-left-eq0.false c.parent.ensures c.if-parent-node.false
    c.if-not-from_y.true)

pub look-returns-then-other-node : goal.look-returns-then-other-node
look-returns-then-other-node t c =
    looked_met c.requires c.args.from_y c.if-left-eq0.false c.parent.ensures c.if-parent-node.false c.if-not-from_y.false
    c.if-other-node.true c.packed-then-other-node.ensures

pub look-returns-then-left-eq1 : goal.look-returns-then-left-eq1
look-returns-then-left-eq1 t c =
    looked_spent c.requires c.args.from_y c.if-left-eq0.false c.parent.ensures c.if-parent-node.false c.if-not-from_y.false
    c.if-other-node.false c.if-left-eq1.true c.packed-then-left-eq1.ensures

pub look-returns-then-parent-other : goal.look-returns-then-parent-other
look-returns-then-parent-other t c =
    looked_no c.requires c.args.from_y c.if-left-eq0.false c.parent.ensures c.if-parent-node.false c.if-not-from_y.false
    c.if-other-node.false c.if-left-eq1.false c.parent-2.ensures c.if-parent-other.true c.packed-then-parent-other.ensures

pub look-returns : goal.look-returns
look-returns t c =
    c.look-2.ensures
    ∙ sym (looked_again c.requires c.args.from_y c.if-left-eq0.false c.parent.ensures c.if-parent-node.false
    c.if-not-from_y.false c.if-other-node.false c.if-left-eq1.false c.parent-2.ensures c.if-parent-other.false)

pub move_on-returns-then-left-eq0 : goal.move_on-returns-then-left-eq0
move_on-returns-then-left-eq0 t c = never _ c.requires.ready c.if-left-eq0.true c.packed.ensures

pub move_on-bounds-table-parent : goal.move_on-bounds-table-parent
move_on-bounds-table-parent t c = up_inside c.requires.ready c.requires.lower c.parent-parent.ensures

pub move_on-returns-then-left-eq1 : goal.move_on-returns-then-left-eq1
move_on-returns-then-left-eq1 t c =
    once_spent c.requires.ready c.requires.lower c.parent-parent.ensures c.parent-above.ensures c.args.from_y
    c.if-left-eq1.true c.packed-then-left-eq1.ensures

pub move_on-halve-requires-clause-node_lt_most_nodes : goal.move_on-halve-requires-clause-node_lt_most_nodes
move_on-halve-requires-clause-node_lt_most_nodes t c =
    let ready = c.requires.ready in
    let up = c.parent-parent.ensures in (
      ready.inside,
      own_rank ready c.requires.lower up,
      above_inside ready c.requires.lower up c.parent-above.ensures,
    )

pub move_on-returns-then-left-eq2 : goal.move_on-returns-then-left-eq2
move_on-returns-then-left-eq2 t c =
    twice_spent c.requires.ready c.requires.lower c.parent-parent.ensures c.parent-above.ensures c.halve.ensures c.args.from_y
    c.if-left-eq2.true c.packed-then-left-eq2.ensures

pub move_on-look-requires : goal.move_on-look-requires
move_on-look-requires t c = (
  omega arith,
  moved_ready c.requires.ready c.requires.lower c.parent-parent.ensures c.parent-above.ensures c.halve.ensures
      c.parent-next.ensures (omega arith),
)

pub move_on-returns : goal.move_on-returns
move_on-returns t c =
    c.look.ensures
    ∙ sym (moved c.requires.ready c.requires.lower c.parent-parent.ensures c.parent-above.ensures c.halve.ensures
    c.parent-next.ensures (omega arith) c.args.from_y)
