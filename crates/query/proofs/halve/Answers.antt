-- The word is written only if it is still the one read.
use Rattle.query.proofs.Moves.{swap_wrote, swap_failed}
use Rattle.query.proofs.halve.Goals as goal

pub returns-then-table-node : goal.returns-then-table-node
returns-then-table-node c =
    let a = c.args in
    let asked = c.requires.node_lt_most_nodes in
    swap_wrote a.table.now a.node a.word a.above c.requires.admitted asked.0 asked.1 c.if-table-node.true _
    (rw c.rank.ensures at c.from.ensures)

pub returns-else-table-node : goal.returns-else-table-node
returns-else-table-node c =
    let a = c.args in
    let asked = c.requires.node_lt_most_nodes in
    swap_failed a.table.now a.node a.word a.above c.requires.admitted asked.0 asked.1 c.if-table-node.false
