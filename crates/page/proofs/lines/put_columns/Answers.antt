-- One column more.
use Rattle.std.proofs.Common.{arith}
use Rattle.text.proofs.Writing.{through_next}
use Rattle.page.proofs.Columns.{columns_next}
use Rattle.page.proofs.lines.put_columns.Goals as goal

pub loop-n-preserved : goal.loop-n-preserved
loop-n-preserved c =
    through_next c.loop-n.invariant (omega arith) (columns_next c.args.numbers.now c.loop-n.n-index (omega arith)) c.put_column-next.ensures
